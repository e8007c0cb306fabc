-- `instructions::binary` meets its contract.
use Rattle.instructions.specs.Views.{opened}
use Rattle.instructions.proofs.Stack.{binary_none, binary_one, binary_wrong, binary_right}
use native.Mathlib.Omega.{arith}
use Rattle.instructions.proofs.binary.Goals as goal

pub overflow_sub-less : goal.overflow_sub-less
overflow_sub-less c = omega (arith, (c.top_value.ensures.some _ c.in-Some.is).1)

pub returns-then-not-suits : goal.returns-then-not-suits
returns-then-not-suits c = λ env tr m left p. binary_wrong c.top_value.ensures env left _ m _ c.in-Some.is c.top_value-2.ensures c.in-Some-top_value.is (rw (← c.suits.ensures) c.if-not-suits.true)

pub overflow_sub-less-2 : goal.overflow_sub-less-2
overflow_sub-less-2 c = omega (arith, (c.top_value-2.ensures.some _ c.in-Some-top_value.is).1)

pub answer-requires : goal.answer-requires
answer-requires c = let q = (c.top_value-2.ensures.some _ c.in-Some-top_value.is).1 in (omega arith, omega arith)

pub returns-in_default : goal.returns-in_default
returns-in_default c = λ env tr m left p. binary_none c.top_value.ensures env left _ m _ c.in_default.is

pub returns-in_default-top_value : goal.returns-in_default-top_value
returns-in_default-top_value c = λ env tr m left p. binary_one c.top_value.ensures env left _ m _ c.in-Some.is c.top_value-2.ensures c.in_default-top_value.is

pub returns : goal.returns
returns c = λ env tr m left p. rw (binary_right c.top_value.ensures env left (opened tr c.args.t) m c.args.op c.in-Some.is c.top_value-2.ensures c.in-Some-top_value.is (rw (← c.suits.ensures) c.if-not-suits.false), ← c.apply_binary.ensures) (c.answer.ensures tr m p)
