-- `index::count_at` meets its contract.
use mathlib.Core.Path.{◌∙◌}
use Rattle.index.proofs.Rows.{no_row, count}
use Rattle.index.proofs.count_at.Goals as goal

pub returns-then-i-ge-SCOPES : goal.returns-then-i-ge-SCOPES
returns-then-i-ge-SCOPES c = no_row _ _ _ c.if-i-ge-SCOPES.true

pub returns : goal.returns
returns c = c.cell_at.ensures ∙ count _ _ _ c.if-i-ge-SCOPES.false c.requires.1
