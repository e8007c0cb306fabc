-- `typing::own_type` meets its contract.
use Rattle.book.specs.Positions.{variable_at}
use Rattle.typing.specs.Types.{own_type}
use Rattle.typing.proofs.own_type.Goals as goal

pub returns : goal.returns
unfolding own_type variable_at
returns c = rw c.variable_at-variable.ensures
