-- `scopes::override_cell` meets its contract.
use mathlib.Core.Path.{sym, ◌∙◌}
use Rattle.scopes.proofs.Hands.{hands_none, hands_tree}
use Rattle.scopes.proofs.override_cell.Goals as goal

pub has_clause-requires : goal.has_clause-requires
has_clause-requires c = c.requires.ready

pub returns-then-not-has_clause : goal.returns-then-not-has_clause
returns-then-not-has_clause c = hands_none _ _ _ _ _ _ (sym c.has_clause.ensures ∙ c.if-not-has_clause.true)

pub eval_tree-requires : goal.eval_tree-requires
eval_tree-requires c = c.requires

pub found-requires : goal.found-requires
found-requires c = tt

pub returns : goal.returns
returns c =
    hands_tree _ _ _ _ _ _ _ _ (sym c.has_clause.ensures ∙ c.if-not-has_clause.false)
    c.eval_tree.ensures c.found.ensures
