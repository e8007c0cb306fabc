-- `steps::write_order` meets its contract.
use native.Mathlib.Omega.{arith}
use Rattle.steps.proofs.Orders.{fit, written}
use Rattle.steps.proofs.write_order.Goals as goal

pub unwrap-requires : goal.unwrap-requires
unwrap-requires c = fit _ _ _ _ _ c.fill_order.ensures (omega arith) (omega arith) (omega arith)

pub returns : goal.returns
returns c = written _ _ _ _ _ c.fill_order.ensures (omega arith) (omega arith) (omega arith) _ c.unwrap.ensures
