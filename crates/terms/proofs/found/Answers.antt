-- `terms::found` meets its contract.
use Rattle.terms.proofs.Defaults.{found_empty, found_other}
use Rattle.terms.proofs.found.Goals as goal

pub returns-then-o-eq-EMPTY : goal.returns-then-o-eq-EMPTY
returns-then-o-eq-EMPTY c = found_empty _ c.if-o-eq-EMPTY.true

pub returns-else-o-eq-EMPTY : goal.returns-else-o-eq-EMPTY
returns-else-o-eq-EMPTY c = found_other _ c.if-o-eq-EMPTY.false
