-- `blocks::run_large` meets its contract. The measure is how often it calls itself.
use Rattle.blocks.proofs.+run_large.Given as goal

abbrev pub decreases-run_large : goal.decreases-run_large
decreases-run_large l = l.again
