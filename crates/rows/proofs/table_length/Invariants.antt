-- `rows::table_length` meets its contract. The invariant: the length of the table of the first j.
use Rattle.rows.proofs.Power.{Doubling}
use Rattle.rows.proofs.table_length.Given as goal

abbrev pub invariant-loop-j : goal.invariant-loop-j
invariant-loop-j l = Doubling l.k l.size l.length l._j
