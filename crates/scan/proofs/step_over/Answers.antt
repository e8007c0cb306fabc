-- `scan::step_over` meets its contract.
use mathlib.Core.List.{[]}
use Rattle.scan.proofs.Tallies.{out_of_order_lem, counts_after, limit_exceeded_lem, invalid_byte_lem, no_fault_found}
use Rattle.scan.proofs.step_over.Goals as goal

pub returns-then-not-may_follow : goal.returns-then-not-may_follow
returns-then-not-may_follow c = out_of_order_lem _ _ _ c.requires.0 _ _ _ _ c.requires.1 c.requires.2 _ c.may_follow.ensures c.if-not-may_follow.true

pub number_of-requires : goal.number_of-requires
number_of-requires c = counts_after _ _ _ c.requires.0 0 _ 0 [] c.requires.1 c.requires.2 _ c.may_follow.ensures c.if-not-may_follow.false

pub returns-then-slot-number_of : goal.returns-then-slot-number_of
returns-then-slot-number_of c = limit_exceeded_lem _ _ _ c.requires.0 _ _ _ _ c.requires.1 c.requires.2 _ c.may_follow.ensures c.if-not-may_follow.false _ c.slot_of-slot.ensures _ c.number_of.ensures c.if-slot-number_of.true

pub returns-then-is_invalid : goal.returns-then-is_invalid
returns-then-is_invalid c = invalid_byte_lem _ _ _ c.requires.0 _ _ _ _ c.requires.1 c.requires.2 _ c.may_follow.ensures c.if-not-may_follow.false _ c.slot_of-slot.ensures _ c.number_of.ensures c.if-slot-number_of.false _ c.is_invalid.ensures c.if-is_invalid.true

pub returns : goal.returns
returns c = no_fault_found _ _ _ c.requires.0 _ _ _ _ c.requires.1 c.requires.2 _ c.may_follow.ensures c.if-not-may_follow.false _ c.slot_of-slot.ensures _ c.number_of.ensures c.if-slot-number_of.false _ c.is_invalid.ensures c.if-is_invalid.false
