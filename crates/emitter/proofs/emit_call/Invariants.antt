-- `emitter::emit_call` meets its contract. The loop's invariant: the pieces from its number on are written.
use Rattle.emitter.specs.Pieces.{override_piece, override_size, called_count}
use Rattle.emitter.proofs.Emission.{Downward}
use Rattle.emitter.proofs.emit_call.Given as goal

abbrev pub invariant-loop-v : goal.invariant-loop-v
invariant-loop-v l =
    Downward l.initial.out l.initial.p (override_piece l.book.bytes.now l.i l.k) (override_size l.book.bytes.now l.i l.k) (called_count l.book.bytes.now l.i l.k) l.v l.p l.out
