-- `blocks::one_step` meets its contract.
use Rattle.blocks.proofs.Entering.{stepped}
use Rattle.blocks.proofs.one_step.Goals as goal

pub returns : goal.returns
returns c = stepped c.step-moved.ensures c.follow.ensures
