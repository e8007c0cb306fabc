-- `emitter::emit_bases` meets its contract.
use native.Mathlib.Omega.{arith}
use Rattle.emitter.proofs.Terms.{bases_size, emits_bases}
use mathlib.Core.Path.{refl, ◌∙◌}
use Rattle.emitter.proofs.emit_bases.Goals as goal

pub put_last-p-requires : goal.put_last-p-requires
put_last-p-requires c =
    omega (arith, bases_size c.args.book.now.bytes.now c.args.i c.args.first c.args.ruled, c.requires.1)

pub overflow_sub-p : goal.overflow_sub-p
overflow_sub-p c =
    omega (arith, c.put_last-p.ensures.next)

pub emit_around-requires : goal.emit_around-requires
emit_around-requires c =
    (c.requires.0, omega (arith, bases_size c.args.book.now.bytes.now c.args.i c.args.first c.args.ruled, c.requires.1, c.put_last-p.ensures.next))

pub shape_of-out : goal.shape_of-out
shape_of-out c =
    c.emit_around.ensures.same ∙ c.put_last-p.ensures.same

pub returns : goal.returns
returns c =
    emits_bases _ _ _ _ c.put_last-p.ensures refl c.emit_around.ensures
