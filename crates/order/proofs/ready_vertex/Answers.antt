-- `order::ready_vertex` meets its contract. The outer loop's invariant: each vertex below v rests, and what rows pass over is done. The inner
-- one's: nothing below w that v depends on is unmet.
use Prim.Native.Nat.{◌+◌}
use mathlib.Core.Path.{refl, ◌∙◌}
use native.Mathlib.Omega.{arith}
use borrow.Author.Rules.{rules}
use Rattle.order.proofs.Matrix.{marked_true, marked_false, edge_false, edge_passed}
use Rattle.order.proofs.Ready.{met_done, met_none, lacks_more}
use Rattle.order.proofs.Memo.{met_start, rest_done, search_none, search_found, search_wait}
use Rattle.order.proofs.ready_vertex.Goals as goal
use Rattle.order.proofs.ready_vertex.Goals.{then-deps-v-eq0+else-done-w-eq0, else-deps-v-eq0, then-done-v-eq0+else-n-w+then-deps-v-eq0+then-done-w-eq0, else-done-v-eq0}

pub search-init : goal.search-init
search-init c = (omega arith, met_start _ _ _, search rules, refl)

pub bounds-deps-v : goal.bounds-deps-v
bounds-deps-v c = omega (arith, c.search.invariant.1.long)

pub overflow_cast-w : goal.overflow_cast-w
overflow_cast-w c = omega (arith, c.type_inv.deps (1600 + c.search.v))

pub loop-w-init : goal.loop-w-init
loop-w-init c = (omega arith, (λ u h. met_none _ _ _ _ (edge_passed _ _ _ h)), refl, refl)

pub bounds-deps-v-in-loop-w : goal.bounds-deps-v-in-loop-w
bounds-deps-v-in-loop-w c = let e = c.loop-w.invariant.2 in let l = c.search.invariant.1.long in rw e (omega arith)

pub wait_for-requires : goal.wait_for-requires
wait_for-requires c =
    let at = c.loop-w.invariant in
    let inv = c.search.invariant in
    (omega arith, omega arith, rw at.2 (omega (arith, inv.1.long)), rw at.3 (omega (arith, inv.3)))

pub loop-w-preserved : goal.loop-w-preserved
loop-w-preserved c =
    let inv = c.loop-w.invariant in (
      omega arith,
      lacks_more _ _ inv.1 (elim c.if-deps-v-eq0.branch [
        | then-deps-v-eq0+else-done-w-eq0 w ↦ met_done _ _ _ _ (marked_true _ _ w.if-done-w-eq0.false)
        | else-deps-v-eq0 w ↦ met_none _ _ _ _ (edge_false _ _ _ w.if-deps-v-eq0.false)
      ]),
      inv.2,
      inv.3,
    )

pub search-preserved : goal.search-preserved
search-preserved c =
    let inv = c.search.invariant in
    elim c.if-done-v-eq0.branch [
      | then-done-v-eq0+else-n-w+then-deps-v-eq0+then-done-w-eq0 a ↦
          let new =
          search_wait _ _ _ _ _ _ inv.1 inv.2 _ _ a.loop-w.invariant.2 a.loop-w.invariant.3 _ a.loop-w.invariant.1 (omega arith) (omega arith) (omega arith)
          (omega (arith, inv.3)) (omega arith) a.loop-w.invariant.0 a.if-deps-v-eq0.true (marked_false _ _ a.if-done-w-eq0.true) in (
            omega arith,
            rw (a.deps-is, a.wait_for.ensures.0) new.0,
            rw (a.deps-is, a.wakes-is, a.wait_for.ensures.0, a.wait_for.ensures.1) new.1,
            rw (a.wakes-is, a.wait_for.ensures.1) (new.2 ∙ inv.3),
          )
      | else-done-v-eq0 a ↦ (
        omega arith,
        rw a.deps-is inv.1,
        rw (a.deps-is, a.wakes-is) (rest_done _ _ _ _ _ inv.2 (marked_true _ _ a.if-done-v-eq0.false)),
        rw a.wakes-is inv.3,
      )
    ]

pub returns-then-v-n : goal.returns-then-v-n
returns-then-v-n c = search_none _ _ _ _ _ _ c.search.invariant.1 c.search.invariant.2 c.if-v-n.true

pub returns-then-n-w : goal.returns-then-n-w
returns-then-n-w c =
    let inv = c.search.invariant in
    let at = c.loop-w.invariant in
    search_found _ _ _ _ _ _ inv.1 inv.2 _ _ at.2 at.3 _ at.1 (omega arith) (marked_false _ _ c.if-done-v-eq0.true) (omega arith)
