-- `emitter::emit_step` meets its contract.
use native.Mathlib.Omega.{arith}
use Rattle.emitter.proofs.Pieces.{own_size_lem, emits_own_step, call_step_size, emits_call_step}
use Rattle.evaluation.proofs.Running.{call_number}
use Rattle.emitter.proofs.emit_step.Goals as goal

pub overflow_cast-x : goal.overflow_cast-x
overflow_cast-x c =
    omega (arith, c.variable_count-variables.ensures, c.if-x-variables.true, c.requires.0.sound.variables c.args.i)

pub emit_variable-requires : goal.emit_variable-requires
emit_variable-requires c =
    (c.requires.0, omega (arith, own_size_lem c.args.book.now.bytes.now c.args.i c.args.x _ c.variable_count-variables.ensures c.if-x-variables.true, c.requires.2))

pub emit_call-requires : goal.emit_call-requires
emit_call-requires c =
    (c.requires.0, rw c.variable_count-variables.ensures (call_number _ _ c.requires.1 (omega (arith, c.variable_count-variables.ensures, c.if-x-variables.false))), omega (arith, call_step_size c.args.book.now.bytes.now c.args.i c.args.x _ c.variable_count-variables.ensures c.if-x-variables.false, c.requires.2))

pub shape_of-out-then-x-variables : goal.shape_of-out-then-x-variables
shape_of-out-then-x-variables c =
    c.emit_variable.ensures.same

pub returns-then-x-variables : goal.returns-then-x-variables
returns-then-x-variables c =
    emits_own_step c.args.book.now.bytes.now c.args.i c.args.x _ c.variable_count-variables.ensures c.if-x-variables.true c.emit_variable.ensures

pub shape_of-out-else-x-variables : goal.shape_of-out-else-x-variables
shape_of-out-else-x-variables c =
    c.emit_call.ensures.same

pub returns-else-x-variables : goal.returns-else-x-variables
returns-else-x-variables c =
    emits_call_step c.args.book.now.bytes.now c.args.i c.args.x _ c.variable_count-variables.ensures c.if-x-variables.false c.emit_call.ensures
