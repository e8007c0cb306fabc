-- `steps::block_order` meets its contract.
use native.Mathlib.Omega.{arith}
use Rattle.steps.proofs.Orders.{blocks_written}
use Rattle.steps.proofs.block_order.Goals as goal

pub returns : goal.returns
returns c =
    let few = c.args.book.now.laid.within.scopes in
    let counted = c.requires.counted in
    blocks_written _ _ _ _ _ _ c.fill_calls.ensures counted (omega arith) c.write_order.ensures
