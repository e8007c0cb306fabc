use Rattle.directory.specs.Layout.{sub_scopes_in}
use Rattle.directory.proofs.sub_scopes_in.Goals as goal

pub returns : goal.returns
unfolding sub_scopes_in
returns c = c.entry_at.ensures
