-- `trees::is_alone` meets its contract.
use borrow.Author.Tests.{eq-eqb, ne_eqb}
use Rattle.trees.proofs.is_alone.Goals as goal

pub returns-then-links-c : goal.returns-then-links-c
returns-then-links-c c = simp (eq-eqb _ _ c.if-links-c.true)

pub returns-else-links-c : goal.returns-else-links-c
returns-else-links-c c = simp (ne_eqb _ _ c.if-links-c.false)
