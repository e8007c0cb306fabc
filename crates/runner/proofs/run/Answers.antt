-- `runner::run` meets its contract.
use Rattle.runner.proofs.Rows.{room_for_few, room_for_all}
use Rattle.runner.proofs.run.Goals as goal

pub run_in-requires : goal.run_in-requires
run_in-requires c = room_for_few _ (c.has_few_blocks.ensures c.if-has_few_blocks.true)

pub run_in-requires-2 : goal.run_in-requires-2
run_in-requires-2 c = room_for_all _
