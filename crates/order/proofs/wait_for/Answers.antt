-- `order::wait_for` meets its contract.
use native.Mathlib.Omega.{arith}
use mathlib.Core.Path.{refl}
use Rattle.order.proofs.Memo.{woken_set, woken_kept}
use Rattle.order.proofs.wait_for.Goals as goal

pub overflow_cast-wakes : goal.overflow_cast-wakes
overflow_cast-wakes c = omega (arith, c.type_inv.wakes c.args.w)

pub returns-then-v-wakes : goal.returns-then-v-wakes
returns-then-v-wakes c = (refl, woken_set _ _ _ c.if-v-wakes.true)

pub returns-else-v-wakes : goal.returns-else-v-wakes
returns-else-v-wakes c = (refl, woken_kept _ _ _ (omega arith))
