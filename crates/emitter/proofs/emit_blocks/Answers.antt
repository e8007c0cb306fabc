-- `emitter::emit_blocks` meets its contract. The loop's invariant: the pieces from its number on are written.
use native.Mathlib.Omega.{arith}
use Rattle.emitter.proofs.Emission.{start, room, turn}
use mathlib.Core.Path.{refl}
use Rattle.acceptance.proofs.Acceptance.{accepted_count}
use Rattle.emitter.proofs.Book.{block_ready, block_number, emits_ordered, book_room, book_stop}
use Rattle.emitter.proofs.emit_blocks.Goals as goal

pub loop-m-init : goal.loop-m-init
loop-m-init c =
    start _ _ _ _ (accepted_count _ _ c.requires.accepted)

pub emit_block-p-requires : goal.emit_block-p-requires
emit_block-p-requires c =
    (block_ready _ _ c.requires.accepted c.requires _ _ (omega (arith, c.loop-m.invariant.below, c.loop-m-test.true, accepted_count c.args.book.now.bytes.now c.args.book.now.scopes c.requires.accepted)) c.byte_at-i.ensures, omega (arith, room c.loop-m.invariant _ refl c.loop-m-test.true (book_room _ _ c.requires.accepted), block_number _ _ c.requires.accepted c.requires _ _ (omega (arith, c.loop-m.invariant.below, c.loop-m-test.true, accepted_count c.args.book.now.bytes.now c.args.book.now.scopes c.requires.accepted)) c.byte_at-i.ensures))

pub loop-m-preserved : goal.loop-m-preserved
loop-m-preserved c =
    turn c.loop-m.invariant _ refl c.loop-m-test.true (emits_ordered _ _ c.requires.accepted c.requires _ _ (omega (arith, c.loop-m.invariant.below, c.loop-m-test.true, accepted_count c.args.book.now.bytes.now c.args.book.now.scopes c.requires.accepted)) c.byte_at-i.ensures c.emit_block-p.ensures)

pub shape_of-out : goal.shape_of-out
shape_of-out c =
    c.loop-m.invariant.sofar.same

pub returns : goal.returns
returns c =
    book_stop _ c.loop-m.invariant (omega (arith, c.loop-m-test.false))
