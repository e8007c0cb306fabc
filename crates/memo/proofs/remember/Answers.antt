-- `memo::remember` meets its contract.
use Rattle.memo.proofs.Rows.{noted}
use Rattle.memo.proofs.remember.Goals as goal

pub returns : goal.returns
returns c = noted c.requires _ c.copy_cells.ensures c.if-not-asked.false
