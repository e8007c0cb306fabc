-- `trees::eval_tree` meets its contract.
use native.Mathlib.Omega.{arith}
use native.Mathlib.Nat.{add-sub_cancel_left}
use Rattle.trees.proofs.Targets.{slot_few}
use Rattle.trees.proofs.Trees.{tree_walk, tree_many, tree_one, tree_empty, tree_no}
use Rattle.trees.proofs.eval_tree.Goals as goal

pub eval_bases-g-requires : goal.eval_bases-g-requires
eval_bases-g-requires c = rw (add-sub_cancel_left) (tree_walk _ _ _ _ _ _ c.requires _ _ _ c.slot_of-slot.ensures)

pub returns-then-g-eq-MANY : goal.returns-then-g-eq-MANY
returns-then-g-eq-MANY c = tree_many _ _ _ _ _ _ c.requires _ _ _ c.slot_of-slot.ensures _ c.eval_bases-g.ensures c.if-g-eq-MANY.true

pub returns-then-g-ne-NOTHING : goal.returns-then-g-ne-NOTHING
returns-then-g-ne-NOTHING c = tree_one _ _ _ _ _ _ c.requires _ _ _ c.slot_of-slot.ensures _ c.eval_bases-g.ensures c.if-g-eq-MANY.false c.if-g-ne-NOTHING.true

pub overflow_add-slot : goal.overflow_add-slot
overflow_add-slot c = omega (arith, slot_few _ _ _ _ c.requires.ready _ _ _ c.slot_of-slot.ensures)

pub bounds-links-slot : goal.bounds-links-slot
bounds-links-slot c = omega (arith, slot_few _ _ _ _ c.requires.ready _ _ _ c.slot_of-slot.ensures, c.requires.ready.linked.size)

pub returns-then-links-slot : goal.returns-then-links-slot
returns-then-links-slot c = tree_empty _ _ _ _ _ _ c.requires _ _ _ c.slot_of-slot.ensures _ c.eval_bases-g.ensures c.if-g-ne-NOTHING.false c.if-links-slot.true

pub returns-else-links-slot : goal.returns-else-links-slot
returns-else-links-slot c = tree_no _ _ _ _ _ _ c.requires _ _ _ c.slot_of-slot.ensures _ c.eval_bases-g.ensures c.if-g-ne-NOTHING.false c.if-links-slot.false
