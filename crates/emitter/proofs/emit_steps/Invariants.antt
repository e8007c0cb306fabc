-- `emitter::emit_steps` meets its contract. The loop's invariant: the pieces from its number on are written.
use Rattle.book.specs.Decode.{scopes_of}
use Rattle.book.specs.References.{scope_at}
use Rattle.emitter.proofs.Emission.{Downward}
use Rattle.book.specs.Steps.{step_count}
use Rattle.emitter.specs.Pieces.{ordered_piece, ordered_size}
use Rattle.emitter.proofs.emit_steps.Given as goal

abbrev pub invariant-loop-n : goal.invariant-loop-n
invariant-loop-n l =
    Downward l.initial.out l.at (ordered_piece l.book.bytes.now l.i) (ordered_size l.book.bytes.now l.i) (step_count (scope_at (scopes_of l.book.bytes.now) l.i)) l.n l.p l.out
