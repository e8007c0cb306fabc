-- `verifier::verify` meets its contract.
use native.Mathlib.Omega.{arith}
use Rattle.verifier.proofs.Opens.{makes_empty}
use Rattle.verifier.proofs.verify.Goals as goal

pub judge_code-requires : goal.judge_code-requires
judge_code-requires c = let l = c.if-code-gt8191.false in makes_empty _ _ 8192 c.requires (λ d h. omega arith)

pub judge_code-requires-2 : goal.judge_code-requires-2
judge_code-requires-2 c = let l = c.if-code-gt1023.false in makes_empty _ _ 1024 c.requires (λ d h. omega arith)
