-- `index::column_at` meets its contract.
use mathlib.Core.Path.{◌∙◌}
use Rattle.index.proofs.Rows.{column}
use Rattle.index.proofs.column_at.Goals as goal

pub returns : goal.returns
returns c = c.cell_at.ensures ∙ column _ _ _ c.requires.0 c.requires.1 c.requires.2
