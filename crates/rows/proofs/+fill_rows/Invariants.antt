-- `rows::fill_rows` meets its contract. The measure: the number of variables left.
use lib.ListN.{length}
use Rattle.rows.proofs.+fill_rows.Given as goal

abbrev pub decreases-fill_rows : goal.decreases-fill_rows
decreases-fill_rows l = length l.chosen.now
