-- `trees::eval_chain` meets its contract. The loop's invariant is `Walks`. The measure: the cells of exceptions rise along the calls.
use mathlib.Core.Path.{refl}
use native.Mathlib.Omega.{arith}
use Rattle.cells.specs.Codec.{Gathers}
use Rattle.trees.specs.Chains.{chain_outcome}
use Rattle.trees.proofs.Walks.{begin, stop, deeper, next_walk, clause_inside, readable_clause, none_there, rises, ended, again}
use Prim.Native.Nat.{ℕ, ◌+◌}
use Rattle.trees.proofs.+eval_chain.Goals as goal
use Rattle.trees.proofs.+eval_chain.Goals.{Joined-links-c, then-links-c, else-links-c}

-- what the exceptions of the clause came to
met : (t : ℕ) (c : Joined-links-c t) →
    let s = c.args in
    Gathers c.if-links-c.x (chain_outcome s.book.now s.own.now s.called.now s.i (289 + c.loop-c.c))
met t c =
    elim c.if-links-c.branch [
      | then-links-c w ↦ rw w.x-is w.eval_chain-x.ensures
      | else-links-c w ↦ rw w.x-is (none_there _ _ _ _ _ _ _ c.requires _ _ c.loop-c.invariant c.loop-c-test.true w.if-links-c.false)
    ]

pub bounds-links-cell : goal.bounds-links-cell
bounds-links-cell t c = let h = c.requires.head in omega (arith, c.requires.linked.size)

pub overflow_cast-c : goal.overflow_cast-c
overflow_cast-c t c = omega (arith, c.type_inv.links c.args.cell)

pub loop-c-init : goal.loop-c-init
loop-c-init t c = begin _ _ _ _ _ _ _ c.requires _ refl

pub overflow_add-c : goal.overflow_add-c
overflow_add-c t c = omega (arith, c.loop-c-test.true)

pub bounds-links-c : goal.bounds-links-c
bounds-links-c t c = omega (arith, c.loop-c-test.true, c.requires.linked.size)

pub overflow_add-c-then-links-c : goal.overflow_add-c-then-links-c
overflow_add-c-then-links-c t c = omega (arith, c.loop-c-test.true)

pub eval_chain-x-requires : goal.eval_chain-x-requires
eval_chain-x-requires t c = let d = deeper _ _ _ _ _ _ _ c.requires _ _ c.loop-c.invariant c.loop-c-test.true in (omega (arith, c.decreases, c.loop-c-test.true), next_walk _ _ _ _ _ _ _ c.requires _ _ c.loop-c.invariant c.loop-c-test.true)

pub overflow_add-at : goal.overflow_add-at
overflow_add-at t c = omega (arith, c.loop-c-test.true)

pub offset_bounds-row-c : goal.offset_bounds-row-c
offset_bounds-row-c t c = omega (arith, c.loop-c-test.true)

pub bounds-row-c : goal.bounds-row-c
bounds-row-c t c = clause_inside _ _ _ _ _ _ _ c.requires _ _ c.loop-c.invariant c.loop-c-test.true

pub overflow_cast-at : goal.overflow_cast-at
overflow_cast-at t c = omega (arith, c.type_inv.row (250 + c.loop-c.c))

pub settle_clause-o-requires : goal.settle_clause-o-requires
settle_clause-o-requires t c = readable_clause _ _ _ _ _ _ _ c.requires _ _ c.loop-c.invariant c.loop-c-test.true

pub returns-then-g-ge-EMPTY : goal.returns-then-g-ge-EMPTY
returns-then-g-ge-EMPTY t c = ended _ _ _ _ _ _ _ c.requires _ _ c.loop-c.invariant c.loop-c-test.true _ _ _ (met t (goal.at.returns-then-g-ge-EMPTY t c).Joined-links-c) c.settle_clause-o.ensures c.gather-g.ensures c.if-g-ge-EMPTY.true

pub overflow_add-c-in-loop-c : goal.overflow_add-c-in-loop-c
overflow_add-c-in-loop-c t c = omega (arith, c.loop-c-test.true)

pub bounds-links-c-in-loop-c : goal.bounds-links-c-in-loop-c
bounds-links-c-in-loop-c t c = omega (arith, c.loop-c-test.true, c.requires.linked.size)

pub overflow_cast-c-in-loop-c : goal.overflow_cast-c-in-loop-c
overflow_cast-c-in-loop-c t c = omega (arith, c.type_inv.links (417 + c.loop-c.c))

pub loop-c-smaller : goal.loop-c-smaller
loop-c-smaller t c = rises _ _ _ _ _ _ _ c.requires _ _ c.loop-c.invariant c.loop-c-test.true _ refl

pub loop-c-preserved : goal.loop-c-preserved
loop-c-preserved t c = again _ _ _ _ _ _ _ c.requires _ _ c.loop-c.invariant c.loop-c-test.true _ _ _ (met t (goal.at.loop-c-preserved t c).Joined-links-c) c.settle_clause-o.ensures c.gather-g.ensures _ refl

pub returns : goal.returns
returns t c = stop _ _ _ _ _ _ _ c.requires _ _ c.loop-c.invariant c.loop-c-test.false
