-- `sharing::mark_unless` meets its contract.
use borrow.Author.Tests.{eq-eqb, ne_eqb}
use Rattle.sharing.proofs.Marks.{marked_none}
use Rattle.sharing.proofs.mark_unless.Goals as goal

pub returns-then-w-eq255 : goal.returns-then-w-eq255
returns-then-w-eq255 c = rw (eq-eqb _ _ c.if-w-eq255.true) marked_none

pub returns-else-w-eq255 : goal.returns-else-w-eq255
returns-else-w-eq255 c = rw (ne_eqb _ _ c.if-w-eq255.false) c.mark.ensures
