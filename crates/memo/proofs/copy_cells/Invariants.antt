-- `memo::copy_cells` meets its contract. The invariant: the cells below v are copied.
use Rattle.memo.specs.Rows.{Copied}
use Rattle.memo.proofs.copy_cells.Given as goal

abbrev pub invariant-loop-v : goal.invariant-loop-v
invariant-loop-v l = Copied l.from l.start l.v l.initial.to l.at l.to
