-- `instructions::push` meets its contract.
use Rattle.instructions.proofs.Stack.{push_full, push_go}
use Rattle.instructions.proofs.push.Goals as goal

pub returns-then-h-ge-STACK : goal.returns-then-h-ge-STACK
returns-then-h-ge-STACK c = λ tr m r. push_full _ _ _ c.if-h-ge-STACK.true _ m

pub returns : goal.returns
returns c = push_go _ _ _ _ _ c.if-h-ge-STACK.false c.if-st-h.false
