-- `scopes::step_cell` meets its contract.
use Rattle.scopes.proofs.Entering.{step_given, step_tree}
use Rattle.scopes.proofs.step_cell.Goals as goal

pub returns-then-g-ne-NOTHING : goal.returns-then-g-ne-NOTHING
returns-then-g-ne-NOTHING c = step_given _ _ _ _ _ _ (c.requires.given_kept c.args.x) c.if-g-ne-NOTHING.true

pub eval_tree-requires : goal.eval_tree-requires
eval_tree-requires c = c.requires.evaluable

pub returns : goal.returns
returns c = step_tree _ _ _ _ _ _ c.if-g-ne-NOTHING.false c.eval_tree.ensures
