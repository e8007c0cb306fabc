-- `instructions::push_truth` meets its contract.
use Rattle.instructions.proofs.push_truth.Goals as goal

pub returns : goal.returns
returns c = λ tr m o. rw (← c.byte_at.ensures, ← c.encode.ensures.entry) (c.push.ensures tr m o)
