-- `memo::recall` meets its contract.
use mathlib.Core.Path.{refl}
use Rattle.memo.proofs.Rows.{not_known, recalled}
use Rattle.memo.proofs.recall.Goals as goal

pub returns-then-known-eq-UNKNOWN : goal.returns-then-known-eq-UNKNOWN
returns-then-known-eq-UNKNOWN c = not_known c.requires c.if-known-eq-UNKNOWN.true

pub returns : goal.returns
returns c = recalled c.requires c.if-not-asked.false refl c.if-known-eq-UNKNOWN.false c.copy_cells.ensures
