-- `verifier::begin_block` meets its contract.
use Rattle.verifier.proofs.Opens.{begin_leaves, begin_stepped}
use Rattle.verifier.proofs.begin_block.Goals as goal

pub leave-requires : goal.leave-requires
leave-requires c = begin_leaves _ _ _ _ _ _ _ c.requires

pub returns : goal.returns
returns c = begin_stepped _ _ _ _ _ _ _ c.requires _ _ _ c.in_ok-m.ensures _ c.open_block.ensures
