-- Processing exceptions: figure 10 of the source paper, `process_exceptions`, and what figure 9 makes of it.
-- An exception is here what the figure's line "let e' : τ = try Some (e'()) with ∅ → None in" makes of it: a value, or none. One that raises anything
-- but ∅ is not caught there and, where it is reached, ends the whole; it comes to no join, and nothing here speaks of it. Behind two values the figure
-- does not reach it, evaluation does: strip i.
use Rattle.std.specs.Prelude.{List, [], ◌∷◌, Result, Ok, Err, Option, None, Some}
use Rattle.calculus.specs.declared.Value.{Value}
use Rattle.answers.specs.declared.Cause.TheVariants.{Conflict}
use Rattle.calculus.specs.declared.Joined.{Joined}
use Rattle.calculus.specs.declared.Joined.TheVariants.{Nothing, One, Many}
use Rattle.answers.specs.declared.Cause.{Cause}

-- what the figure comes to: an "option τ", or its raise
pub data Processed : Type 0 where
  returns : Option Value → Processed
  raises : Processed

-- the figure's own join: "match (a, e') with"
abbrev pub figure10 : Option Value → Option Value → Processed
-- "(None, e') → e'"
figure10 None e' = returns e'
-- "(Some a, None) → Some a"
figure10 (Some a) None = returns (Some a)
-- "(Some a, Some e') → raise ⊗"
figure10 (Some a) (Some e') = raises

-- "aborts with a non-catchable ⊗": what is raised stays
abbrev pub following : Processed → (Option Value → Processed) → Processed
following (returns a) rest = rest a
following raises rest = raises

-- "It folds over the list of exceptions"
unfoldable pub fold_from : List (Option Value) → Option Value → Processed
fold_from [] a = returns a
fold_from (e' ∷ es) a = following (figure10 a e') (fold_from es)

-- "with the accumulator initially set to `None`"
abbrev pub process_exceptions : List (Option Value) → Processed
process_exceptions es = fold_from es None

-- figure 9, C-DEFAULT: "match r_exceptions with Some e' → e' | None → if e'_just then e'_cons else raise ∅"; the rest is what stands behind None
abbrev pub afterwards : Processed → Result Value Cause → Result Value Cause
afterwards (returns None) rest = rest
afterwards (returns (Some v)) rest = Ok v
-- a raise in "let r_exceptions = process_exceptions .. in" is that of the whole, and ⊗ is conflict
afterwards raises rest = Err Conflict

-- Beside the join

-- nothing or a value: what is joined, without many
abbrev pub optional : Option Value → Joined
optional None = Nothing
optional (Some v) = One v

-- "two values give many where figure 10 raises" (paper 02, No. 2)
abbrev pub as_joined : Processed → Joined
as_joined (returns a) = optional a
as_joined raises = Many
