-- `terms::held_cell` meets its contract.
use borrow.Author.Tests.{eq-eqb, ne_eqb}
use Rattle.terms.proofs.held_cell.Goals as goal

pub returns-then-c-eq-NOTHING : goal.returns-then-c-eq-NOTHING
returns-then-c-eq-NOTHING c = rw (eq-eqb _ _ c.if-c-eq-NOTHING.true)

pub returns-else-c-eq-NOTHING : goal.returns-else-c-eq-NOTHING
returns-else-c-eq-NOTHING c = rw (ne_eqb _ _ c.if-c-eq-NOTHING.false)
