-- `emitter::emit_variable` meets its contract.
use native.Mathlib.Omega.{arith}
use Rattle.emitter.proofs.Pieces.{variable_size_lem, emits_variable}
use mathlib.Core.Path.{refl, ◌∙◌}
use Rattle.emitter.proofs.emit_variable.Goals as goal

pub put_two-p-requires : goal.put_two-p-requires
put_two-p-requires c =
    omega (arith, variable_size_lem c.args.book.now.bytes.now c.args.i c.args.x, c.requires.1)

pub emit_tree-q-requires : goal.emit_tree-q-requires
emit_tree-q-requires c =
    (c.requires.0, omega (arith, variable_size_lem c.args.book.now.bytes.now c.args.i c.args.x, c.requires.1, c.put_two-p.ensures.next))

pub overflow_sub-d : goal.overflow_sub-d
overflow_sub-d c =
    omega (arith, c.put_two-p.ensures.next, c.emit_tree-q.ensures.next)

pub put_two-r-requires : goal.put_two-r-requires
put_two-r-requires c =
    omega (arith, variable_size_lem c.args.book.now.bytes.now c.args.i c.args.x, c.requires.1, c.put_two-p.ensures.next, c.emit_tree-q.ensures.next)

pub put_two-requires : goal.put_two-requires
put_two-requires c =
    omega (arith, variable_size_lem c.args.book.now.bytes.now c.args.i c.args.x, c.requires.1, c.put_two-p.ensures.next, c.emit_tree-q.ensures.next, c.put_two-r.ensures.next)

pub shape_of-out : goal.shape_of-out
shape_of-out c =
    c.put_two.ensures.same ∙ c.put_two-r.ensures.same ∙ c.emit_tree-q.ensures.same ∙ c.put_two-p.ensures.same

pub returns : goal.returns
returns c =
    emits_variable _ _ _ _ c.put_two-p.ensures c.emit_tree-q.ensures refl c.put_two-r.ensures c.put_two.ensures
