-- `instructions::unary` meets its contract.
use Rattle.std.proofs.lemmas.Bool.{not_from_true, not_from_false}
use Rattle.instructions.specs.Views.{opened}
use Rattle.instructions.proofs.Stack.{unary_none, unary_wrong, unary_right}
use native.Mathlib.Omega.{arith}
use Rattle.instructions.proofs.unary.Goals as goal

pub returns-then-not-has_type : goal.returns-then-not-has_type
returns-then-not-has_type c = λ env tr m left p. unary_wrong c.top_value.ensures env left _ m _ c.in-Some.is c.unary_type.ensures c.has_type.ensures (not_from_false _ c.if-not-has_type.true)

pub overflow_sub-h : goal.overflow_sub-h
overflow_sub-h c = omega (arith, (c.top_value.ensures.some _ c.in-Some.is).1)

pub answer-requires : goal.answer-requires
answer-requires c = let q = (c.top_value.ensures.some _ c.in-Some.is).1 in (omega arith, omega arith)

pub returns-in_default : goal.returns-in_default
returns-in_default c = λ env tr m left p. unary_none c.top_value.ensures env left _ m _ c.in_default.is

pub returns : goal.returns
returns c = λ env tr m left p. rw (unary_right c.top_value.ensures env left (opened tr c.args.t) m c.args.op c.in-Some.is c.unary_type.ensures c.has_type.ensures (not_from_true _ c.if-not-has_type.false), ← c.apply_unary.ensures) (c.answer.ensures tr m p)
