-- `emitter::emit_blocks` meets its contract. The loop's invariant: the pieces from its number on are written.
use lib.ListN.{length}
use Rattle.book.specs.Decode.{scopes_of}
use Rattle.emitter.proofs.Emission.{Downward}
use Rattle.emitter.specs.Pieces.{ordered_block, ordered_block_size}
use Rattle.emitter.proofs.emit_blocks.Given as goal

abbrev pub invariant-loop-m : goal.invariant-loop-m
invariant-loop-m l =
    Downward l.initial.out 0 (ordered_block l.book.bytes.now) (ordered_block_size l.book.bytes.now) (length (scopes_of l.book.bytes.now)) l.m l.p l.out
