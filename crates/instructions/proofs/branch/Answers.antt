-- `instructions::branch` meets its contract.
use Rattle.std.proofs.lemmas.Bool.{not_from_true, not_from_false}
use native.Mathlib.Omega.{arith}
use Rattle.instructions.proofs.Stack.{branch_none, branch_other, branch_yes, branch_no}
use Rattle.instructions.proofs.branch.Goals as goal

pub returns-then-not-has_type : goal.returns-then-not-has_type
returns-then-not-has_type c = λ env tr m left p. branch_other env left m c.top_value.ensures _ _ c.requires tr p c.in-Some.is c.has_type.ensures (not_from_false _ c.if-not-has_type.true)

pub overflow_sub-result : goal.overflow_sub-result
overflow_sub-result c = omega (arith, (c.top_value.ensures.some _ c.in-Some.is).1)

pub returns-then-truth_of : goal.returns-then-truth_of
returns-then-truth_of c = λ env tr m left p. branch_yes env left m c.top_value.ensures _ _ c.requires tr p c.in-Some.is c.has_type.ensures (not_from_true _ c.if-not-has_type.false) c.truth_of.ensures c.if-truth_of.true

pub overflow_sub-result-2 : goal.overflow_sub-result-2
overflow_sub-result-2 c = omega (arith, (c.top_value.ensures.some _ c.in-Some.is).1)

pub returns-in_default : goal.returns-in_default
returns-in_default c = λ env tr m left p. branch_none env left m c.top_value.ensures _ _ c.requires tr p c.in_default.is

pub returns : goal.returns
returns c = λ env tr m left p. branch_no env left m c.top_value.ensures _ _ c.requires tr p c.in-Some.is c.has_type.ensures (not_from_true _ c.if-not-has_type.false) c.truth_of.ensures c.if-truth_of.false
