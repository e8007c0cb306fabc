use Rattle.directory.specs.Layout.{block_weight}
use Rattle.directory.proofs.weight_of.Goals as goal

pub returns : goal.returns
unfolding block_weight
returns c = c.entry_at.ensures
