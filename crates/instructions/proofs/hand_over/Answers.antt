-- `instructions::hand_over` meets its contract.
use Rattle.std.proofs.lemmas.Bool.{not_from_true, not_from_false}
use native.Mathlib.Omega.{arith}
use Rattle.instructions.proofs.Memory.{hand_none, hand_other, hand_late, hand_twice, hand_go}
use Rattle.instructions.proofs.hand_over.Goals as goal

pub returns-then-not-has_type : goal.returns-then-not-has_type
returns-then-not-has_type c = hand_other _ _ _ _ _ c.top_value.ensures c.in-Some.is c.has_type.ensures (not_from_false _ c.if-not-has_type.true)

pub returns-then-frame-k-ne0 : goal.returns-then-frame-k-ne0
returns-then-frame-k-ne0 c = hand_late _ _ _ _ _ c.top_value.ensures c.in-Some.is c.has_type.ensures (not_from_true _ c.if-not-has_type.false) c.if-frame-k-ne0.true

pub returns-then-frame-at-ne-NOTHING : goal.returns-then-frame-at-ne-NOTHING
returns-then-frame-at-ne-NOTHING c = hand_twice _ _ _ _ _ c.top_value.ensures c.in-Some.is c.has_type.ensures (not_from_true _ c.if-not-has_type.false) c.if-frame-k-ne0.false c.if-frame-at-ne-NOTHING.true

pub overflow_sub-result : goal.overflow_sub-result
overflow_sub-result c = omega (arith, (c.top_value.ensures.some _ c.in-Some.is).1)

pub returns-in_default : goal.returns-in_default
returns-in_default c = hand_none _ _ _ _ _ c.top_value.ensures c.in_default.is

pub returns : goal.returns
returns c = hand_go _ _ _ _ _ c.top_value.ensures c.in-Some.is c.has_type.ensures (not_from_true _ c.if-not-has_type.false) c.if-frame-k-ne0.false c.if-frame-at-ne-NOTHING.false c.encode.ensures (c.requires.0, c.requires.1) c.requires.2
