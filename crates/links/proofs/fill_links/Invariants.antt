-- `links::fill_links` meets its contract. The loop's invariant: the clauses from the n-th on are linked.
use Rattle.book.specs.Decode.{scopes_of}
use Rattle.book.specs.References.{scope_at}
use Rattle.links.specs.Links.{LinkedFrom}
use Rattle.links.proofs.fill_links.Given as goal

abbrev pub invariant-loop-n : goal.invariant-loop-n
invariant-loop-n l = LinkedFrom (scope_at (scopes_of l.book.bytes.now) l.i).clauses l.n l.links
