-- `emitter::emit_heads` meets its contract. The loop's invariant: the pieces from its number on are written.
use Rattle.emitter.specs.Pieces.{head_count, head_piece, pair}
use Rattle.emitter.proofs.Emission.{Downward}
use Rattle.emitter.proofs.emit_heads.Given as goal

abbrev pub invariant-loop-n : goal.invariant-loop-n
invariant-loop-n l = Downward l.initial.out l.at (head_piece l.book.bytes.now l.i l.kind) pair (head_count l.book.bytes.now l.i l.kind) l.n l.p l.out
