use Rattle.scopes.proofs.Known.{noted}
use Rattle.scopes.proofs.remember_scope.Goals as goal

pub returns : goal.returns
returns c = noted c.requires.noting c.none_given-bare.ensures c.variable_count.ensures c.requires.came c.remember.auto.memo c.remember.ensures
