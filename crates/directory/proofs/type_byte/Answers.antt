use Rattle.directory.specs.Layout.{type_in}
use Rattle.directory.proofs.type_byte.Goals as goal

pub returns : goal.returns
unfolding type_in
returns c = rw (← c.entry_at.ensures)
