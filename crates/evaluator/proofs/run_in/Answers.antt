-- `evaluator::run_in` meets its contract.
use native.Mathlib.Omega.{arith}
use Rattle.evaluator.proofs.Service.{blank_memo, scopes_few, runs_loaded}
use Rattle.evaluator.proofs.run_in.Goals as goal

pub run_loaded-requires : goal.run_loaded-requires
run_loaded-requires c = runs_loaded c.requires.asked c.fill_all_links.ensures (blank_memo c.requires.asked 33 (omega (arith, c.if-book-le1.true)))

pub run_loaded-requires-then-book-le8 : goal.run_loaded-requires-then-book-le8
run_loaded-requires-then-book-le8 c = runs_loaded c.requires.asked c.fill_all_links.ensures (blank_memo c.requires.asked 264 (omega (arith, c.if-book-le8.true)))

pub run_loaded-requires-2 : goal.run_loaded-requires-2
run_loaded-requires-2 c = runs_loaded c.requires.asked c.fill_all_links.ensures (blank_memo c.requires.asked 1056 (omega (arith, scopes_few c.requires.asked)))
