-- `emitter::emit_tree` meets its contract.
use native.Mathlib.Omega.{arith}
use Rattle.emitter.proofs.Terms.{told, room_same, size_error, emits_error}
use Rattle.trees.proofs.Targets.{slot_few}
use Rattle.emitter.proofs.Chains.{few, tree_ruled, tree_none, tree_one, tree_many}
use mathlib.Core.Path.{refl}
use Rattle.emitter.proofs.emit_tree.Goals as goal

pub overflow_add-slot : goal.overflow_add-slot
overflow_add-slot c =
    omega (arith, slot_few _ _ _ _ c.requires.0 c.args.sub c.args.variable _ c.slot_of-slot.ensures)

pub emit_bases-requires : goal.emit_bases-requires
emit_bases-requires c =
    (c.requires.0, room_same _ _ _ (tree_ruled _ _ _ _ c.requires.0 c.args.sub c.args.variable _ c.slot_of-slot.ensures _ c.byte_at-first.ensures _ c.byte_at.ensures c.if-byte_at.true) c.requires.1)

pub shape_of-out-then-byte_at : goal.shape_of-out-then-byte_at
shape_of-out-then-byte_at c =
    c.emit_bases.ensures.same

pub returns-then-byte_at : goal.returns-then-byte_at
returns-then-byte_at c =
    told (tree_ruled _ _ _ _ c.requires.0 c.args.sub c.args.variable _ c.slot_of-slot.ensures _ c.byte_at-first.ensures _ c.byte_at.ensures c.if-byte_at.true) c.emit_bases.ensures

pub put_one-requires : goal.put_one-requires
put_one-requires c =
    omega (arith, size_error (tree_none _ _ _ _ c.requires.0 c.args.sub c.args.variable _ c.slot_of-slot.ensures _ c.byte_at-first.ensures _ c.byte_at.ensures c.if-byte_at.false (omega (arith, c.clause_count-count.ensures, c.if-count-first.true))), c.requires.1)

pub shape_of-out-then-count-first : goal.shape_of-out-then-count-first
shape_of-out-then-count-first c =
    c.put_one.ensures.same

pub returns-then-count-first : goal.returns-then-count-first
returns-then-count-first c =
    emits_error (tree_none _ _ _ _ c.requires.0 c.args.sub c.args.variable _ c.slot_of-slot.ensures _ c.byte_at-first.ensures _ c.byte_at.ensures c.if-byte_at.false (omega (arith, c.clause_count-count.ensures, c.if-count-first.true))) refl c.put_one.ensures

pub overflow_add-first : goal.overflow_add-first
overflow_add-first c =
    omega (arith, few _ _ _ _ c.requires.0, c.clause_count-count.ensures, c.if-count-first.false)

pub emit_clause-requires : goal.emit_clause-requires
emit_clause-requires c =
    (c.requires.0, omega (arith, c.clause_count-count.ensures, c.if-count-first.false), room_same _ _ _ (tree_one _ _ _ _ c.requires.0 c.args.sub c.args.variable _ c.slot_of-slot.ensures _ c.byte_at-first.ensures _ c.byte_at.ensures c.if-byte_at.false (omega (arith, c.clause_count-count.ensures, c.if-count-first.false)) _ c.byte_at-next.ensures (omega (arith, c.clause_count-count.ensures, c.if-count-next.true))) c.requires.1)

pub shape_of-out-then-count-next : goal.shape_of-out-then-count-next
shape_of-out-then-count-next c =
    c.emit_clause.ensures.same

pub returns-then-count-next : goal.returns-then-count-next
returns-then-count-next c =
    told (tree_one _ _ _ _ c.requires.0 c.args.sub c.args.variable _ c.slot_of-slot.ensures _ c.byte_at-first.ensures _ c.byte_at.ensures c.if-byte_at.false (omega (arith, c.clause_count-count.ensures, c.if-count-first.false)) _ c.byte_at-next.ensures (omega (arith, c.clause_count-count.ensures, c.if-count-next.true))) c.emit_clause.ensures

pub emit_bases-requires-2 : goal.emit_bases-requires-2
emit_bases-requires-2 c =
    (c.requires.0, room_same _ _ _ (tree_many _ _ _ _ c.requires.0 c.args.sub c.args.variable _ c.slot_of-slot.ensures _ c.byte_at-first.ensures _ c.byte_at.ensures c.if-byte_at.false (omega (arith, c.clause_count-count.ensures, c.if-count-first.false)) _ c.byte_at-next.ensures (omega (arith, c.clause_count-count.ensures, c.if-count-next.false))) c.requires.1)

pub shape_of-out : goal.shape_of-out
shape_of-out c =
    c.emit_bases-2.ensures.same

pub returns : goal.returns
returns c =
    told (tree_many _ _ _ _ c.requires.0 c.args.sub c.args.variable _ c.slot_of-slot.ensures _ c.byte_at-first.ensures _ c.byte_at.ensures c.if-byte_at.false (omega (arith, c.clause_count-count.ensures, c.if-count-first.false)) _ c.byte_at-next.ensures (omega (arith, c.clause_count-count.ensures, c.if-count-next.false))) c.emit_bases-2.ensures
