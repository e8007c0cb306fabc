-- `emitter::emit_clause` meets its contract.
use native.Mathlib.Omega.{arith}
use Rattle.emitter.proofs.Chains.{few, clause_size, emits_clause}
use mathlib.Core.Path.{refl, ◌∙◌}
use Rattle.emitter.proofs.emit_clause.Goals as goal

pub overflow_add-c : goal.overflow_add-c
overflow_add-c c =
    omega (arith, few _ _ _ _ c.requires.0, c.requires.1)

pub emit_rest-p-requires : goal.emit_rest-p-requires
emit_rest-p-requires c =
    omega (arith, clause_size _ _ _ _ c.requires.0 c.args.c c.requires.1 _ c.byte_at-first.ensures, c.requires.2)

pub overflow_sub-p : goal.overflow_sub-p
overflow_sub-p c =
    omega (arith, c.emit_rest-p.ensures.next)

pub emit_around-requires : goal.emit_around-requires
emit_around-requires c =
    (c.requires.0, omega (arith, clause_size _ _ _ _ c.requires.0 c.args.c c.requires.1 _ c.byte_at-first.ensures, c.requires.2, c.emit_rest-p.ensures.next))

pub shape_of-out : goal.shape_of-out
shape_of-out c =
    c.emit_around.ensures.same ∙ c.emit_rest-p.ensures.same

pub returns : goal.returns
returns c =
    emits_clause _ _ _ _ c.requires.0 _ c.requires.1 _ c.byte_at-first.ensures c.emit_rest-p.ensures refl c.emit_around.ensures
