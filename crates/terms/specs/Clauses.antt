-- A clause by the position of its record: its condition, and its consequence where the condition is yes.
use Rattle.std.specs.Prelude.{ℕ, ◌+◌, ◌<◌, ◌≡◌, true, cond, List, length, get_or, eqb, Result, Ok, Err}
use Rattle.calculus.specs.Outcomes.{choose}
use Rattle.calculus.specs.declared.Value.TheVariants.{Truth}
use Rattle.answers.specs.declared.Cause.TheVariants.{Empty}
use Rattle.terms.specs.Outcomes.{outcome_in, Readable}
use Rattle.answers.specs.declared.Cause.{Cause}
use Rattle.calculus.specs.declared.Value.{Value}

-- "condition (255: always)"
abbrev pub condition_in : List ℕ → List ℕ → List ℕ → List ℕ → ℕ → Result Value Cause
condition_in bytes row own called n = cond (eqb n 255) (Ok (Truth true)) (outcome_in bytes row own called n)

-- a definition's node, kind 19, or a rule's no or yes
abbrev pub consequence_in : List ℕ → List ℕ → List ℕ → List ℕ → ℕ → ℕ → Result Value Cause
consequence_in bytes row own called kind n = cond (eqb kind 19) (outcome_in bytes row own called n) (Ok (Truth (eqb n 1)))

-- "With none, the justification is evaluated; yes evaluates the consequence, no gives empty": of the clause at a position
unfoldable pub rest_in : List ℕ → List ℕ → List ℕ → List ℕ → ℕ → Result Value Cause
rest_in bytes row own called at =
    choose
    (condition_in bytes row own called (get_or bytes (at + 4) 0))
    (consequence_in bytes row own called (get_or bytes at 0) (get_or bytes (at + 5) 0))
    (Err Empty)

-- the clause at a position is whole, and the nodes that it names can be evaluated
pub record ReadableClause (bytes row own called : List ℕ) (at : ℕ) : Type 0 where
  pub whole : at + 5 < length bytes
  pub condition : (get_or bytes (at + 4) 0 ≡ 255 → ⊥) → Readable bytes row own called (get_or bytes (at + 4) 0)
  pub consequence : get_or bytes at 0 ≡ 19 → Readable bytes row own called (get_or bytes (at + 5) 0)
