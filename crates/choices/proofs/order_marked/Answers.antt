-- `choices::order_marked` meets its contract. The invariant: the marked numbers below v are written.
use mathlib.Core.Path.{sym, ◌∙◌}
use native.Mathlib.Omega.{arith}
use Rattle.choices.proofs.Ordering.{start, marked_one, other_one, stop}
use Rattle.choices.proofs.order_marked.Goals as goal
use Rattle.choices.proofs.order_marked.Goals.{then-mark-ne0, else-mark-ne0}

pub loop-v-init : goal.loop-v-init
loop-v-init c = start _ c.requires.ordered_len

pub overflow_cast-ordered : goal.overflow_cast-ordered
overflow_cast-ordered c = omega (arith, c.requires.marks_len_bound, c.loop-v-test.true, c.loop-v.invariant.below)

pub bounds-ordered-count : goal.bounds-ordered-count
bounds-ordered-count c = omega (arith, c.requires.marks_len_bound, c.loop-v-test.true, c.loop-v.invariant.below, c.loop-v.invariant.size)

pub overflow_add-count : goal.overflow_add-count
overflow_add-count c = omega (arith, c.requires.marks_len_bound, c.loop-v-test.true, c.loop-v.invariant.below)

pub loop-v-preserved : goal.loop-v-preserved
loop-v-preserved c =
    elim c.if-mark-ne0.branch [
      | then-mark-ne0 w ↦ rw (w.ordered-is, w.count-is) (marked_one c.loop-v.invariant c.requires.marks_len_bound c.loop-v-test.true w.if-mark-ne0.true)
      | else-mark-ne0 w ↦ rw (w.ordered-is, w.count-is) (other_one c.loop-v.invariant c.requires.marks_len_bound c.loop-v-test.true w.if-mark-ne0.false)
    ]

pub shape_of-ordered : goal.shape_of-ordered
shape_of-ordered c = c.loop-v.invariant.size ∙ sym c.requires.ordered_len

pub returns : goal.returns
returns c = stop c.loop-v.invariant c.requires.marks_len_bound c.loop-v-test.false
