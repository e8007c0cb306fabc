-- `mixing::slot_of` meets its contract.
use borrow.Author.Tests.{eq-eqb, ne_eqb}
use Rattle.mixing.specs.Marks.{slot_of}
use Rattle.mixing.proofs.slot_of.Goals as goal

pub returns-then-sub : goal.returns-then-sub
unfolding slot_of
returns-then-sub c = rw (eq-eqb _ _ c.if-sub.true)

pub returns-else-sub : goal.returns-else-sub
unfolding slot_of
returns-else-sub c = rw (ne_eqb _ _ c.if-sub.false)
