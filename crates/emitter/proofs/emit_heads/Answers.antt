-- `emitter::emit_heads` meets its contract. The loop's invariant: the pieces from its number on are written.
use mathlib.Core.Path.{refl}
use native.Mathlib.Omega.{arith}
use Rattle.emitter.proofs.Emission.{start, room, turn}
use Rattle.emitter.proofs.Pieces.{heads_size_lem, heads_stop, emits_head}
use Rattle.emitter.proofs.emit_heads.Goals as goal

pub loop-n-init : goal.loop-n-init
loop-n-init c = start _ _ _ _ c.requires.1

pub head_byte-b-requires : goal.head_byte-b-requires
head_byte-b-requires c = (c.requires.0, omega (arith, c.loop-n.invariant.below, c.loop-n-test.true))

pub put_two-p-requires : goal.put_two-p-requires
put_two-p-requires c =
    room c.loop-n.invariant _ refl c.loop-n-test.true
    (omega (arith, heads_size_lem c.args.book.now.bytes.now c.args.i c.args.kind, c.requires.2))

pub loop-n-preserved : goal.loop-n-preserved
loop-n-preserved c =
    turn c.loop-n.invariant _ refl c.loop-n-test.true
    (emits_head _ _ _ _ _ c.head_byte-b.ensures c.put_two-p.ensures)

pub shape_of-out : goal.shape_of-out
shape_of-out c = c.loop-n.invariant.sofar.same

pub returns : goal.returns
returns c = heads_stop _ _ _ c.loop-n.invariant (omega (arith, c.loop-n-test.false))
