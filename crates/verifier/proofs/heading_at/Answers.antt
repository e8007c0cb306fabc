-- `verifier::heading_at` meets its contract.
use Rattle.verifier.proofs.Ways.{makes_kind}
use native.Mathlib.Omega.{arith}
use mathlib.Core.Path.{◌∙◌, sym}
use Rattle.verifier.proofs.Turns.{faulty_refused}
use Rattle.verifier.proofs.Ways.{next_within, makes_beginning, makes_variable_room, variable_stepped, makes_sub_room, sub_stepped, is_sub}
use Rattle.verifier.proofs.heading_at.Goals as goal

pub is_faulty-requires : goal.is_faulty-requires
is_faulty-requires c = makes_kind _ _ _ _ _ c.requires _ c.shape_in-shape.ensures

pub returns-then-is_faulty : goal.returns-then-is_faulty
returns-then-is_faulty c = faulty_refused _ _ _ c.requires.here c.requires.reading.sound (sym c.is_faulty.ensures ∙ c.if-is_faulty.true)

pub overflow_add-next-2 : goal.overflow_add-next-2
overflow_add-next-2 c = let h = next_within _ _ _ _ _ c.requires.reading c.requires.here _ c.is_faulty.ensures c.if-is_faulty.false _ c.shape_in-shape.ensures in omega arith

pub begin_block-requires : goal.begin_block-requires
begin_block-requires c = makes_beginning _ _ _ _ _ c.requires.reading c.requires.here _ c.is_faulty.ensures c.if-is_faulty.false _ c.shape_in-shape.ensures _ c.byte_at-first.ensures c.if-shape-eq1.true

pub variable-requires : goal.variable-requires
variable-requires c = makes_variable_room _ _ _ _ _ c.requires.reading c.requires.here _ c.is_faulty.ensures c.if-is_faulty.false _ c.shape_in-shape.ensures c.if-shape-eq2.true

pub returns-then-shape-eq2 : goal.returns-then-shape-eq2
returns-then-shape-eq2 c = variable_stepped _ _ _ _ _ c.requires.reading c.requires.here _ c.is_faulty.ensures c.if-is_faulty.false _ c.shape_in-shape.ensures _ c.byte_at-first.ensures c.if-shape-eq2.true _ _ c.variable.ensures

pub sub_scope-requires : goal.sub_scope-requires
sub_scope-requires c = makes_sub_room _ _ _ _ _ c.requires.reading c.requires.here _ c.is_faulty.ensures c.if-is_faulty.false _ c.shape_in-shape.ensures _ c.byte_at-first.ensures (is_sub _ _ _ _ _ c.requires.reading c.requires.here _ c.is_faulty.ensures c.if-is_faulty.false _ c.shape_in-shape.ensures c.requires.no_instruction c.if-shape-eq1.false c.if-shape-eq2.false)

pub returns : goal.returns
returns c = sub_stepped _ _ _ _ _ c.requires.reading c.requires.here _ c.is_faulty.ensures c.if-is_faulty.false _ c.shape_in-shape.ensures _ c.byte_at-first.ensures (is_sub _ _ _ _ _ c.requires.reading c.requires.here _ c.is_faulty.ensures c.if-is_faulty.false _ c.shape_in-shape.ensures c.requires.no_instruction c.if-shape-eq1.false c.if-shape-eq2.false) _ _ c.sub_scope.ensures
