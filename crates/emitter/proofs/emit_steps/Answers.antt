-- `emitter::emit_steps` meets its contract. The loop's invariant: the pieces from its number on are written.
use native.Mathlib.Omega.{arith}
use Rattle.emitter.proofs.Emission.{start, room, turn}
use mathlib.Core.Path.{refl}
use Rattle.emitter.proofs.Pieces.{step_total, step_number, step_size_lem, emits_step, steps_size_lem, steps_stop}
use Rattle.emitter.proofs.emit_steps.Goals as goal

pub overflow_add-count : goal.overflow_add-count
overflow_add-count c =
    omega (arith, c.requires.0.sound.variables c.args.i, c.requires.0.sound.sub_scopes c.args.i, c.variable_count.ensures, c.sub_scope_count.ensures)

pub loop-n-init : goal.loop-n-init
loop-n-init c =
    start _ _ _ _ (step_total _ _ _ _ c.variable_count.ensures c.sub_scope_count.ensures)

pub overflow_mul-i : goal.overflow_mul-i
overflow_mul-i c =
    omega (arith, c.requires.1.few)

pub overflow_add-i : goal.overflow_add-i
overflow_add-i c =
    omega (arith, c.requires.1.few, c.loop-n.invariant.below, step_total c.args.book.now.bytes.now c.args.i _ _ c.variable_count.ensures c.sub_scope_count.ensures, c.requires.0.sound.variables c.args.i, c.requires.0.sound.sub_scopes c.args.i, c.variable_count.ensures, c.sub_scope_count.ensures)

pub emit_step-p-requires : goal.emit_step-p-requires
emit_step-p-requires c =
    (c.requires.0, step_number _ _ _ c.requires.1 _ _ (omega (arith, c.loop-n.invariant.below, c.loop-n-test.true)) c.byte_at-x.ensures, omega (arith, room c.loop-n.invariant _ refl c.loop-n-test.true (omega (arith, steps_size_lem c.args.book.now.bytes.now c.args.i, c.requires.2)), step_size_lem _ _ _ c.requires.1 _ _ (omega (arith, c.loop-n.invariant.below, c.loop-n-test.true)) c.byte_at-x.ensures))

pub loop-n-preserved : goal.loop-n-preserved
loop-n-preserved c =
    turn c.loop-n.invariant _ refl c.loop-n-test.true (emits_step _ _ _ c.requires.1 _ _ (omega (arith, c.loop-n.invariant.below, c.loop-n-test.true)) c.byte_at-x.ensures c.emit_step-p.ensures)

pub shape_of-out : goal.shape_of-out
shape_of-out c =
    c.loop-n.invariant.sofar.same

pub returns : goal.returns
returns c =
    steps_stop _ _ c.loop-n.invariant (omega (arith, c.loop-n-test.false))
