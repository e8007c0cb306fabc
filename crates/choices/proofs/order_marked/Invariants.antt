-- `choices::order_marked` meets its contract. The invariant: the marked numbers below v are written.
use Rattle.choices.proofs.Ordering.{WritingMarked}
use Rattle.choices.proofs.order_marked.Given as goal

abbrev pub invariant-loop-v : goal.invariant-loop-v
invariant-loop-v l = WritingMarked l.marks l.ordered l.count l.v
