use Rattle.directory.specs.Layout.{block_in}
use Rattle.directory.proofs.block_of.Goals as goal

pub returns : goal.returns
unfolding block_in
returns c = c.entry_at.ensures
