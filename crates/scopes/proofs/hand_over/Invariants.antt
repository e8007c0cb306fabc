-- `scopes::hand_over` meets its contract. The invariant: the cells hold what the variables so far are handed.
use Rattle.scopes.proofs.Hands.{Passed}
use Rattle.scopes.proofs.hand_over.Given as goal

abbrev pub invariant-loop-v : goal.invariant-loop-v
invariant-loop-v l = Passed l.book.bytes.now l.own l.called l.i l.k l.handed l.v
