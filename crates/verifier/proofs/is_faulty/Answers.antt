-- `verifier::is_faulty` meets its contract.
use Rattle.verifier.proofs.Faults.{fault_kind, fault_length, fault_order, fault_limit, fault_byte, fault_none}
use Rattle.verifier.proofs.is_faulty.Goals as goal

pub returns-then-stage-eq0 : goal.returns-then-stage-eq0
returns-then-stage-eq0 c = fault_kind _ _ _ _ c.requires.shape_is c.if-stage-eq0.true

pub returns-then-code-start : goal.returns-then-code-start
returns-then-code-start c = fault_length _ _ _ _ c.requires.shape_is c.if-stage-eq0.false c.if-code-start.true

pub returns-then-not-may_follow : goal.returns-then-not-may_follow
returns-then-not-may_follow c = fault_order _ _ _ _ c.requires.shape_is c.if-stage-eq0.false c.if-code-start.false _ c.may_follow.ensures c.if-not-may_follow.true

pub returns-then-too_many : goal.returns-then-too_many
returns-then-too_many c = fault_limit _ _ _ _ c.requires.shape_is c.if-stage-eq0.false c.if-code-start.false _ c.may_follow.ensures c.if-not-may_follow.false _ c.too_many.ensures c.if-too_many.true

pub returns-then-stage-eq2 : goal.returns-then-stage-eq2
returns-then-stage-eq2 c = fault_byte _ _ _ _ c.requires.shape_is c.if-stage-eq0.false c.if-code-start.false _ c.may_follow.ensures c.if-not-may_follow.false _ c.too_many.ensures c.if-too_many.false _ c.requires.kind_is _ c.body_at.ensures _ c.is_invalid.ensures

pub returns : goal.returns
returns c = fault_none _ _ _ _ c.requires.shape_is c.if-stage-eq0.false c.if-code-start.false _ c.may_follow.ensures c.if-not-may_follow.false _ c.too_many.ensures c.if-too_many.false c.if-stage-eq2.false c.requires.no_instruction
