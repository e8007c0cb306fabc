-- `mixing::mixed_at` meets its contract. The invariant of its loop is `Marking`.
use Rattle.book.specs.Decode.{scopes_of}
use Rattle.mixing.proofs.Marking.{Marking}
use Rattle.mixing.proofs.mixed_at.Given as goal

abbrev pub invariant-loop-n : goal.invariant-loop-n
invariant-loop-n l = Marking (scopes_of l.book.bytes.now) l.i l.seen l.n
