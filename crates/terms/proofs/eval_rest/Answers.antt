-- `terms::eval_rest` meets its contract.
use Prim.Native.Nat.{ℕ, ◌+◌}
use native.Mathlib.Omega.{arith}
use lib.ListN.{get_or}
use Rattle.cells.specs.Codec.{Codes}
use Rattle.terms.specs.Clauses.{consequence_in, rest_in}
use Rattle.terms.proofs.Clauses.{condition_ends, condition_fails, condition_holds, always, defined, ruled}
use Rattle.terms.proofs.eval_rest.Goals as goal
use Rattle.terms.proofs.eval_rest.Goals.{Joined-condition, then-condition+else-t-ge-EMPTY+else-t-ne-YES, else-condition}

-- the condition was yes, or there is none
went : (c : Joined-condition) (r : ℕ) →
    let s = c.args in
    Codes r (consequence_in s.book.now s.row.now s.own.now s.called.now (get_or s.book.now s.at 0) (get_or s.book.now (s.at + 5) 0))
    → Codes r (rest_in s.book.now s.row.now s.own.now s.called.now s.at)
went c r k =
    elim c.if-condition.branch [
      | then-condition+else-t-ge-EMPTY+else-t-ne-YES w ↦ condition_holds _ _ _ _ c.args.at _ w.if-condition.true w.eval_below-t.ensures w.if-t-ge-EMPTY.false w.if-t-ne-YES.false r k
      | else-condition w ↦ always _ _ _ _ c.args.at w.if-condition.false r k
    ]

pub overflow_cast-condition : goal.overflow_cast-condition
overflow_cast-condition c = omega (arith, c.type_inv.book (c.args.at + 4))

pub eval_below-t-requires : goal.eval_below-t-requires
eval_below-t-requires c = c.requires.condition c.if-condition.true

pub returns-then-t-ge-EMPTY : goal.returns-then-t-ge-EMPTY
returns-then-t-ge-EMPTY c = condition_ends _ _ _ _ c.args.at _ c.if-condition.true c.eval_below-t.ensures c.if-t-ge-EMPTY.true

pub returns-then-t-ne-YES : goal.returns-then-t-ne-YES
returns-then-t-ne-YES c = condition_fails _ _ _ _ c.args.at _ c.if-condition.true c.eval_below-t.ensures c.if-t-ge-EMPTY.false c.if-t-ne-YES.true

pub overflow_cast-last : goal.overflow_cast-last
overflow_cast-last c = omega (arith, c.type_inv.book (c.args.at + 5))

pub eval_below-requires : goal.eval_below-requires
eval_below-requires c = c.requires.consequence c.if-kind-eq-KIND_DEFINITION.true

pub returns-then-kind-eq-KIND_DEFINITION : goal.returns-then-kind-eq-KIND_DEFINITION
returns-then-kind-eq-KIND_DEFINITION c = went (goal.at.returns-then-kind-eq-KIND_DEFINITION c).Joined-condition _ (defined _ _ _ _ c.args.at c.if-kind-eq-KIND_DEFINITION.true _ c.eval_below.ensures)

pub returns : goal.returns
returns c = went (goal.at.returns c).Joined-condition _ (ruled c.args.book.now c.args.row.now c.args.own.now c.args.called.now c.args.at c.if-kind-eq-KIND_DEFINITION.false _ c.truth.ensures)
