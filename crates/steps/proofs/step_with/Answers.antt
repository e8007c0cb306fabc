-- `steps::step_with` meets its contract.
use borrow.Author.Tests.{eq-eqb, ne_eqb}
use Rattle.steps.specs.Edges.{step_with}
use Rattle.steps.proofs.step_with.Goals as goal

pub returns-then-target : goal.returns-then-target
unfolding step_with
returns-then-target c = rw (eq-eqb _ _ c.if-target.true)

pub returns-else-target : goal.returns-else-target
unfolding step_with
returns-else-target c = rw (ne_eqb _ _ c.if-target.false)
