-- `instructions::end_try` meets its contract.
use Rattle.instructions.proofs.Tries.{close_none, close_go}
use native.Mathlib.Omega.{arith}
use Rattle.instructions.proofs.end_try.Goals as goal

pub returns-then-t-eq0 : goal.returns-then-t-eq0
returns-then-t-eq0 c = λ st tr m o. close_none st tr _ _ m o c.if-t-eq0.true

pub returns-else-t-eq0 : goal.returns-else-t-eq0
returns-else-t-eq0 c = λ st tr m o. close_go st tr _ _ m o (omega arith)
