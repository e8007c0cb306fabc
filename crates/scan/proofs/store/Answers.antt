-- `scan::store` meets its contract.
use native.Mathlib.Omega.{arith}
use Rattle.scan.proofs.Stores.{none, one, few, count_room}
use Rattle.scan.proofs.store.Goals as goal

pub returns-then-stage-lt2 : goal.returns-then-stage-lt2
returns-then-stage-lt2 c = none _ _ _ _ c.if-stage-lt2.true

pub overflow_sub-row : goal.overflow_sub-row
overflow_sub-row c = let h = few _ _ _ _ c.requires c.if-stage-lt2.false _ c.slot_of-slot.ensures _ c.number_of-number.ensures in omega arith

pub overflow_add-index-2 : goal.overflow_add-index-2
overflow_add-index-2 c = let h = few _ _ _ _ c.requires c.if-stage-lt2.false _ c.slot_of-slot.ensures _ c.number_of-number.ensures in omega arith

pub overflow_add-index-3 : goal.overflow_add-index-3
overflow_add-index-3 c = let h = few _ _ _ _ c.requires c.if-stage-lt2.false _ c.slot_of-slot.ensures _ c.number_of-number.ensures in omega arith

pub offset_bounds-index-row : goal.offset_bounds-index-row
offset_bounds-index-row c = let h = few _ _ _ _ c.requires c.if-stage-lt2.false _ c.slot_of-slot.ensures _ c.number_of-number.ensures in omega arith

pub bounds-index-row : goal.bounds-index-row
bounds-index-row c = let h = few _ _ _ _ c.requires c.if-stage-lt2.false _ c.slot_of-slot.ensures _ c.number_of-number.ensures in omega arith

pub overflow_add-index-4 : goal.overflow_add-index-4
overflow_add-index-4 c = let h = few _ _ _ _ c.requires c.if-stage-lt2.false _ c.slot_of-slot.ensures _ c.number_of-number.ensures in omega arith

pub overflow_cast-index-2 : goal.overflow_cast-index-2
overflow_cast-index-2 c = let h = few _ _ _ _ c.requires c.if-stage-lt2.false _ c.slot_of-slot.ensures _ c.number_of-number.ensures in omega arith

pub bounds-index-row-2 : goal.bounds-index-row-2
bounds-index-row-2 c = count_room _ _ _ _ c.requires c.if-stage-lt2.false _ _

pub returns : goal.returns
returns c = one _ _ _ _ c.requires c.if-stage-lt2.false _ c.slot_of-slot.ensures _ c.number_of-number.ensures
