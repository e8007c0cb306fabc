-- `links::fill_all_links` meets its contract. The loop's invariant is `Filling`.
use Rattle.links.proofs.Rows.{Filling}
use Rattle.links.proofs.fill_all_links.Given as goal

abbrev pub invariant-loop-i : goal.invariant-loop-i
invariant-loop-i l = Filling l.book.bytes.now l.book.scopes l.initial.links l.links l.i
