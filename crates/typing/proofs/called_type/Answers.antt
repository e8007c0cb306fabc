-- `typing::called_type` meets its contract.
use Rattle.book.specs.Positions.{sub_scope_at}
use Rattle.typing.specs.Types.{own_type, called_type}
use Rattle.typing.proofs.called_type.Goals as goal

pub returns : goal.returns
unfolding own_type called_type sub_scope_at
returns c = rw (c.own_type.ensures, c.sub_scope_at.ensures)
