-- `steps::step_count` meets its contract.
use Rattle.book.specs.Steps.{step_count}
use Rattle.steps.proofs.step_count.Goals as goal

pub returns : goal.returns
unfolding step_count
returns c = rw (c.variable_count.ensures, c.sub_scope_count.ensures)
