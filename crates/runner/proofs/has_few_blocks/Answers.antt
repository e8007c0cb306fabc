-- `runner::has_few_blocks` meets its contract.
use mathlib.Core.Path.{sym, ◌∙◌}
use borrow.Author.Tests.{le-ltb}
use Rattle.runner.proofs.Rows.{not_seen, seen}
use Rattle.runner.proofs.has_few_blocks.Goals as goal

pub returns-then-code-lt128 : goal.returns-then-code-lt128
returns-then-code-lt128 c = λ e. seen c.beginnings.ensures e

pub returns-else-code-lt128 : goal.returns-else-code-lt128
returns-else-code-lt128 c = λ e. not_seen (sym (le-ltb _ _ c.if-code-lt128.false) ∙ e)
