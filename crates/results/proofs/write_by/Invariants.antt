-- `results::write_by` meets its contract. The invariant: the records below v are written, and what is left makes the whole.
use Rattle.lists.proofs.Writing.{Written}
use Rattle.results.proofs.write_by.Given as goal

abbrev pub invariant-loop-v : goal.invariant-loop-v
invariant-loop-v l = Written l.own l.n l.initial.results l.results l.at l.v
