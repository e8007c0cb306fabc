-- `instructions::settle` meets its contract.
use native.Mathlib.Omega.{arith}
use Rattle.instructions.proofs.Stack.{settle_empty, settle_nothing, settle_value, settle_many}
use Rattle.instructions.proofs.settle.Goals as goal

pub returns-then-h-eq0 : goal.returns-then-h-eq0
returns-then-h-eq0 c = λ env tr m left p. settle_empty env left m _ _ _ c.args.t c.requires _ c.if-h-eq0.true

pub returns-then-c-eq-NOTHING : goal.returns-then-c-eq-NOTHING
returns-then-c-eq-NOTHING c = λ env tr m left p. settle_nothing env left m _ _ _ _ c.requires tr p (omega arith) c.if-c-eq-NOTHING.true

pub returns-then-c-lt-MANY : goal.returns-then-c-lt-MANY
returns-then-c-lt-MANY c = λ env tr m left p. settle_value env left m _ _ _ _ c.requires tr p (omega arith) c.if-c-eq-NOTHING.false c.if-c-lt-MANY.true

pub returns : goal.returns
returns c = λ env tr m left p. settle_many env left m _ _ _ c.args.t c.requires _ (omega arith) c.if-c-lt-MANY.false
