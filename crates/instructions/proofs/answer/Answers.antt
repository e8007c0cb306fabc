-- `instructions::answer` meets its contract.
use Rattle.instructions.proofs.Stack.{answer_go, answer_ends}
use Rattle.instructions.proofs.answer.Goals as goal

pub returns-in-Ok : goal.returns-in-Ok
returns-in-Ok c = answer_go _ _ _ _ c.in-Ok.is c.encode.ensures c.requires

pub returns-in-Err : goal.returns-in-Err
returns-in-Err c = answer_ends _ _ _ c.in-Err.is
