-- A variable that a caller may override: rule C-DEF of the source paper's figure 7.
use Rattle.std.specs.Prelude.{true, Option, None, Some}
use Rattle.calculus.specs.Terms.{Term, literal, error, default, none, also}
use Rattle.calculus.specs.declared.Value.TheVariants.{Truth}
use Rattle.answers.specs.declared.Cause.TheVariants.{Empty}
use Rattle.calculus.specs.declared.Value.{Value}

-- ℓ (): what the caller provides, or ∅
abbrev pub provided : Option Value → Term
provided None = error Empty
provided (Some v) = literal v

-- ⟨ℓ () | true :- e⟩: "gives the caller-provided argument higher precedence; barring any useful information provided by the caller, we fall back
-- on the existing definition"
abbrev pub overridable : Option Value → Term → Term
overridable g t = default (also (provided g) none) (literal (Truth true)) t
