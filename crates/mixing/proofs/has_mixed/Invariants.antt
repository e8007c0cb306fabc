-- `mixing::has_mixed` meets its contract. The invariant of its loop is `Passed`, and its laws give the rest.
use Rattle.book.specs.Decode.{scopes_of}
use Rattle.book.specs.Mixing.{mixed_in}
use Rattle.book.proofs.Scopes.{Passed}
use Rattle.mixing.proofs.has_mixed.Given as goal

abbrev pub invariant-loop-i : goal.invariant-loop-i
invariant-loop-i l = Passed (scopes_of l.book.bytes.now) (mixed_in) l.i
