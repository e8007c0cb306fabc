-- `references::target_scope` meets its contract.
use Rattle.references.specs.Dangling.{target_scope}
use borrow.Author.Tests.{eq-eqb, ne_eqb}
use Rattle.references.proofs.target_scope.Goals as goal

pub returns-then-sub-eq255 : goal.returns-then-sub-eq255
unfolding target_scope
returns-then-sub-eq255 c = rw (eq-eqb _ _ c.if-sub-eq255.true)

pub returns-else-sub-eq255 : goal.returns-else-sub-eq255
unfolding target_scope
returns-else-sub-eq255 c = rw (ne_eqb _ _ c.if-sub-eq255.false) c.sub_scope_at.ensures
