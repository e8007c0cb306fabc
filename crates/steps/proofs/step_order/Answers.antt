-- `steps::step_order` meets its contract.
use native.Mathlib.Omega.{arith}
use Rattle.steps.proofs.Orders.{steps_written, few_steps}
use Rattle.steps.proofs.step_order.Goals as goal

pub write_order-requires : goal.write_order-requires
write_order-requires c =
    let few = few_steps _ c.args.i c.args.book.now.laid.within in
    let steps = c.step_count-steps.ensures in
    (omega arith, omega (arith, c.fill_reads.ensures.long), omega (arith, c.requires.1))

pub returns : goal.returns
returns c =
    let few = few_steps _ c.args.i c.args.book.now.laid.within in
    let steps = c.step_count-steps.ensures in
    steps_written _ _ _ _ _ _ c.fill_reads.ensures steps (omega arith) c.write_order.ensures
