use Rattle.directory.specs.Layout.{variables_in}
use Rattle.directory.proofs.variables_in.Goals as goal

pub returns : goal.returns
unfolding variables_in
returns c = c.entry_at.ensures
