-- `instructions::value_cell` meets its contract.
use Rattle.instructions.proofs.Memory.{cell_zero, cell_value, cell_high}
use Rattle.instructions.proofs.value_cell.Goals as goal

pub returns-then-c-eq-NOTHING : goal.returns-then-c-eq-NOTHING
returns-then-c-eq-NOTHING c = cell_zero c.if-c-eq-NOTHING.true

pub returns-then-c-lt-MANY : goal.returns-then-c-lt-MANY
returns-then-c-lt-MANY c = cell_value _ c.if-c-eq-NOTHING.false c.if-c-lt-MANY.true

pub returns : goal.returns
returns c = cell_high _ c.if-c-lt-MANY.false
