use mathlib.Core.Path.{◌∙◌}
use Rattle.scopes.proofs.Known.{recalled}
use Rattle.scopes.proofs.recall_scope.Goals as goal

pub returns : goal.returns
returns c = recalled c.requires c.none_given-bare.ensures c.variable_count.ensures (c.recall.auto.own ∙ c.requires.room) c.recall.ensures
