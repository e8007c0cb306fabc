-- The operators and the exceptions of a default on cells: whatever the operands' cells are of, the result's cell is of what the calculus makes of them.
use Rattle.std.specs.Prelude.{ℕ, Result}
use Rattle.calculus.specs.Outcomes.{unary_on, binary_on}
use Rattle.calculus.specs.Defaults.{found, gather}
use Rattle.calculus.specs.declared.Unary.{Unary}
use Rattle.calculus.specs.declared.Binary.{Binary}
use Rattle.cells.specs.Codec.{Codes, Gathers}
use Rattle.calculus.specs.declared.Joined.{Joined}
use Rattle.answers.specs.declared.Cause.{Cause}
use Rattle.calculus.specs.declared.Value.{Value}

abbrev pub OnOne : Unary → ℕ → ℕ → Type 0
OnOne op x r = (a : Result Value Cause) → Codes x a → Codes r (unary_on op a)

abbrev pub OnTwo : Binary → ℕ → ℕ → ℕ → Type 0
OnTwo op x y r = (a b : Result Value Cause) → Codes x a → Codes y b → Codes r (binary_on op a b)

-- what one exception comes to
abbrev pub OnFound : ℕ → ℕ → Type 0
OnFound x r = (o : Result Value Cause) → Codes x o → Gathers r (found o)

-- the exceptions so far, and one more
abbrev pub OnBoth : ℕ → ℕ → ℕ → Type 0
OnBoth x y r = (g : Result Joined Cause) (o : Result Value Cause) → Gathers x g → Codes y o → Gathers r (gather g o)
