-- `steps::own_clause` meets its contract.
use Rattle.steps.proofs.Owners.{own_none, own_unless}
use Rattle.steps.proofs.own_clause.Goals as goal

pub returns-in-Of : goal.returns-in-Of
returns-in-Of c = rw c.in-Of.is (own_unless c.own_by.ensures c.own_by-in-Of.ensures)

pub returns-in_default : goal.returns-in_default
returns-in_default c = rw c.in_default.is (own_unless c.own_by.ensures own_none)
