-- `instructions::store` meets its contract.
use Rattle.std.proofs.lemmas.Bool.{not_from_true, not_from_false}
use native.Mathlib.Omega.{arith}
use Rattle.instructions.proofs.Memory.{store_none, store_other, store_twice, store_go}
use Rattle.instructions.proofs.store.Goals as goal

pub returns-then-not-has_type : goal.returns-then-not-has_type
returns-then-not-has_type c = store_other _ _ _ _ _ c.top_value.ensures c.in-Some.is c.has_type.ensures (not_from_false _ c.if-not-has_type.true)

pub returns-then-own-x-ne-NOTHING : goal.returns-then-own-x-ne-NOTHING
returns-then-own-x-ne-NOTHING c = store_twice _ _ _ _ _ c.top_value.ensures c.in-Some.is c.has_type.ensures (not_from_true _ c.if-not-has_type.false) c.if-own-x-ne-NOTHING.true

pub overflow_sub-result : goal.overflow_sub-result
overflow_sub-result c = omega (arith, (c.top_value.ensures.some _ c.in-Some.is).1)

pub returns-in_default : goal.returns-in_default
returns-in_default c = store_none _ _ _ _ _ c.top_value.ensures c.in_default.is

pub returns : goal.returns
returns c = store_go _ _ _ _ _ c.top_value.ensures c.in-Some.is c.has_type.ensures (not_from_true _ c.if-not-has_type.false) c.if-own-x-ne-NOTHING.false c.encode.ensures (c.requires.0, c.requires.1) c.requires.2 c.requires.3 c.requires.4
