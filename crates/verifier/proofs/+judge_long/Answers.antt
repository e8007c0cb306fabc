-- `verifier::judge_long` meets its contract. The measure is how often it calls itself.
use native.Mathlib.Omega.{arith}
use Rattle.verifier.proofs.Opens.{makes_empty}
use borrow.Author.Rules.{rules}
use Rattle.verifier.proofs.+judge_long.Goals as goal

pub judge_long-requires : goal.judge_long-requires
judge_long-requires t c = (omega (arith, c.decreases), search rules)

pub judge_code-requires : goal.judge_code-requires
judge_code-requires t c = makes_empty _ _ 65536 c.requires (λ d h. omega arith)
