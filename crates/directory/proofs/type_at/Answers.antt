use mathlib.Core.Path.{◌∙◌}
use Rattle.directory.proofs.type_at.Goals as goal

pub returns : goal.returns
returns c = c.type_of.ensures ∙ c.type_byte.ensures
