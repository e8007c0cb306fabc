-- `weights::weigh` meets its contract. The loop's invariant: with the weights of the sub-scopes from the k-th on, the total is the scope's weight.
use mathlib.Core.Path.{◌∙◌}
use native.Mathlib.Omega.{arith}
use Rattle.weights.proofs.Weighing.{sum_start, sum_turn, sum_end}
use Rattle.weights.proofs.weigh.Goals as goal

pub loop-k-init : goal.loop-k-init
loop-k-init c = (omega arith, sum_start _ _ _)

pub overflow_add-total : goal.overflow_add-total
overflow_add-total c = omega (arith, c.sub_scope_count-k-end.ensures, c.args.book.now.laid.within.sub_scopes c.args.i)

pub loop-k-preserved : goal.loop-k-preserved
loop-k-preserved c = (
  omega arith,
  sum_turn _ _ _ _ _ _ _ (rw (← c.sub_scope_count-k-end.ensures) c.loop-k-test.true) c.sub_scope_at-called.ensures c.weight_at-total.ensures.is ∙ c.loop-k.invariant.1,
)

pub returns : goal.returns
returns c = sum_end _ _ _ _ _ (rw (← c.sub_scope_count-k-end.ensures) c.loop-k-test.false) c.loop-k.invariant.1
