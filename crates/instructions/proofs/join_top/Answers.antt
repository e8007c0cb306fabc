-- `instructions::join_top` meets its contract.
use Rattle.instructions.proofs.Stack.{join_low, join_go}
use Rattle.instructions.proofs.join_top.Goals as goal

pub returns-then-h-lt2 : goal.returns-then-h-lt2
returns-then-h-lt2 c = λ env tr m left p. join_low env left m _ _ _ c.if-h-lt2.true

pub returns : goal.returns
returns c = λ env tr m left p. join_go env left m _ _ _ _ c.if-h-lt2.false c.requires c.join.ensures tr p
