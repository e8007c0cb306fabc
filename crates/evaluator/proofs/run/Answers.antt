-- `evaluator::run` meets its contract.
use native.Mathlib.Omega.{arith}
use Rattle.evaluator.proofs.Service.{blank_links, scopes_few}
use Rattle.evaluator.proofs.run.Goals as goal

pub run_in-requires : goal.run_in-requires
run_in-requires c = record { asked = c.requires; blanks = blank_links c.requires 834 (omega (arith, c.if-book-le1.true)) }

pub run_in-requires-then-book-le8 : goal.run_in-requires-then-book-le8
run_in-requires-then-book-le8 c = record { asked = c.requires; blanks = blank_links c.requires 6672 (omega (arith, c.if-book-le8.true)) }

pub run_in-requires-2 : goal.run_in-requires-2
run_in-requires-2 c = record { asked = c.requires; blanks = blank_links c.requires 26688 (omega (arith, scopes_few c.requires)) }
