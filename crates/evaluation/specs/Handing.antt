-- What a call hands over to the scope that it enters: for each of its variables nothing or a value, by the outcome of the override tree.
use Rattle.std.specs.Prelude.{ℕ, suc, cond, List, [], ◌∷◌, Result, Ok, Err, Option, None, Some}
use Rattle.calculus.specs.Evaluation.{Env, eval}
use Rattle.answers.specs.declared.Cause.{Cause}
use Rattle.answers.specs.declared.Cause.TheVariants.{Empty, Conflict, OutOfRange}
use Rattle.book.specs.Syntax.{Scope}
use Rattle.book.specs.Trees.{tree, has_clause, called_target}
use Rattle.book.specs.declared.Variable.{Variable}
use Rattle.calculus.specs.declared.Value.{Value}

-- what a variable of a sub-scope is handed, nothing or a value; or the cause of an end
pub data Handed : Type 0 where
  hands : Option Value → Handed
  stops : Cause → Handed

-- "an empty override hands nothing over and the sub-scope uses its own tree" (paper 02, No. 5); by conflict and out of range it ends the run
abbrev pub falls_back : Result Value Cause → Handed
falls_back (Ok y) = hands (Some y)
falls_back (Err Empty) = hands None
falls_back (Err Conflict) = stops Conflict
falls_back (Err (OutOfRange s)) = stops (OutOfRange s)

-- what the overrides of a call come to: what is handed over for each variable, or the cause of an end
pub data Handing : Type 0 where
  handed : List (Option Value) → Handing
  failed : Cause → Handing

-- one more variable in front
abbrev pub in_front : Handed → Handing → Handing
in_front (hands g) (handed gs) = handed (g ∷ gs)
in_front (hands g) (failed c) = failed c
in_front (stops c) rest = failed c

-- `by`: what the outcome of an override tree hands over
module _ (by : Result Value Cause → Handed) where
  -- "A target of an override without clauses is simply not given": variable v of the scope that sub-scope k names
  abbrev pub override_by : Env → Scope → ℕ → ℕ → Handed
  override_by e s k v = cond (has_clause s (called_target k v)) (by (eval e (tree s (called_target k v)))) (hands None)

  -- "A call evaluates its override trees in variable order, hands over those values": for the variables from v on
  unfoldable pub handing_by : Env → Scope → ℕ → ℕ → List Variable → Handing
  handing_by e s k v [] = handed []
  handing_by e s k v (x ∷ xs) = in_front (override_by e s k v) (handing_by e s k (suc v) xs)

-- The meaning: an empty override falls back

abbrev pub override : Env → Scope → ℕ → ℕ → Handed
override = override_by falls_back

abbrev pub handing : Env → Scope → ℕ → ℕ → List Variable → Handing
handing = handing_by falls_back
