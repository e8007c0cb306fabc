-- `trees::settle_clause` meets its contract.
use Rattle.terms.proofs.Defaults.{settled_many, settled, unsettled}
use Rattle.trees.proofs.settle_clause.Goals as goal

pub returns-then-x-eq-MANY : goal.returns-then-x-eq-MANY
returns-then-x-eq-MANY c = λ g h. settled_many g _ (rw c.if-x-eq-MANY.true at h)

pub returns-then-x-ne-NOTHING : goal.returns-then-x-ne-NOTHING
returns-then-x-ne-NOTHING c = λ g h. settled _ g _ c.if-x-eq-MANY.false c.if-x-ne-NOTHING.true h

pub returns : goal.returns
returns c = λ g h. rw (unsettled g _ (rw c.if-x-ne-NOTHING.false at h)) c.eval_rest.ensures
