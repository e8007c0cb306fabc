-- `verifier::instruction` meets its contract.
use Prim.Native.Nat.{ℕ}
use mathlib.Core.Path.{◌≡◌, ◌∙◌}
use mathlib.Core.Bool.{true, false}
use mathlib.Core.Logic.{⊎_elim}
use native.Mathlib.Omega.{arith}
use lib.Dec.{ltb}
use borrow.Author.Tests.{eq-eqb, ne_eqb, ltb-true, ltb-false}
use Rattle.std.specs.Prelude.{max}
use Rattle.laws.proofs.Booleans.{decide}
use Rattle.verifier.specs.Instructions.{farthest, reach_after, ring_after}
use Rattle.verifier.proofs.instruction.Goals as goal

farther : (a b : ℕ) → max a b ≡ farthest a b
unfolding farthest
farther a b =
    ⊎_elim
    (λ (q : ltb a b ≡ true). let l = ltb-true a b q in rw q (omega arith))
    (λ (q : ltb a b ≡ false). let l = ltb-false a b q in rw q (omega arith))
    (decide (ltb a b))

pub returns-then-d-eq0 : goal.returns-then-d-eq0
unfolding reach_after ring_after
returns-then-d-eq0 c = (rw (eq-eqb _ _ c.if-d-eq0.true), rw (eq-eqb _ _ c.if-d-eq0.true))

pub returns : goal.returns
unfolding reach_after ring_after
returns c = (rw (ne_eqb _ _ c.if-d-eq0.false, c.max.ensures ∙ farther _ _), rw (ne_eqb _ _ c.if-d-eq0.false))
