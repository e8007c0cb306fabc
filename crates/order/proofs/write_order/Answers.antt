-- `order::write_order` meets its contract. The loop's invariant is `Filling`, `Met`: what rows pass over is done, and `Resting`: each vertex
-- below the one at which a search starts is done or waits.
use mathlib.Core.Path.{refl, ◌∙◌}
use native.Mathlib.Omega.{arith}
use borrow.Author.Rules.{rules}
use Rattle.order.proofs.Filling.{start, turn, ended, full}
use Rattle.order.proofs.Memo.{met_start, met_mark, met_trans, met_next, rest_start, rest_mark}
use Rattle.order.proofs.Ready.{next_bound}
use Rattle.order.proofs.write_order.Goals as goal

pub loop-k-init : goal.loop-k-init
loop-k-init c = (start _ _ _ (omega arith), met_start _ _ _, rest_start _ _ _ _, omega arith, refl)

pub ready_vertex-v-requires : goal.ready_vertex-v-requires
ready_vertex-v-requires c =
    let inv = c.loop-k.invariant in
    (omega arith, omega (arith, inv.1.long), omega (arith, inv.0.marks), omega (arith, inv.4), inv.3, inv.2)

pub returns-then-v-n : goal.returns-then-v-n
returns-then-v-n c =
    let inv = c.loop-k.invariant in
    ended _ _ _ _ _ _ inv.0 (omega arith) (omega arith) (omega arith) _
    (c.ready_vertex-v.ensures.0 ∙ met_next _ _ _ _ inv.1)
    c.if-v-n.true

pub overflow_cast-out : goal.overflow_cast-out
overflow_cast-out c = omega (arith, next_bound _ _ _ _ c.ready_vertex-v.ensures.0)

pub bounds-done-v : goal.bounds-done-v
bounds-done-v c = omega (arith, next_bound _ _ _ _ c.ready_vertex-v.ensures.0)

pub start_after-low-requires : goal.start_after-low-requires
start_after-low-requires c =
    let inv = c.loop-k.invariant in
    let inside = next_bound _ _ _ _ c.ready_vertex-v.ensures.0 in
    (omega arith, omega arith)

pub loop-k-preserved : goal.loop-k-preserved
loop-k-preserved c =
    let inv = c.loop-k.invariant in
    let found = c.ready_vertex-v.ensures in
    let inside = next_bound _ _ _ _ found.0 in
    let here = found.0 ∙ met_next _ _ _ _ inv.1 in
    let next = c.start_after-low.ensures in
    let rest = rest_mark _ _ _ _ _ found.2 in (
      turn _ _ _ _ _ _ inv.0 (omega arith) (omega arith) (omega arith) _ here (omega arith) c.if-v-n.false,
      met_mark _ _ _ _ (met_trans _ _ _ _ inv.1 _ found.1) _ (omega arith),
      rest _ (omega arith) next.0 next.1,
      omega (arith, next.0),
      search rules,
    )

pub returns : goal.returns
returns c = full _ _ _ _ _ _ c.loop-k.invariant.0 (omega arith) (omega arith) (omega arith) (omega arith)
