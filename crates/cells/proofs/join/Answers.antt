-- `cells::join` meets its contract.
use mathlib.Core.Path.{sym}
use Rattle.cells.proofs.Joining.{join_case, many_first}
use Rattle.cells.proofs.join.Goals as goal

pub returns-in-Nothing-Nothing : goal.returns-in-Nothing-Nothing
returns-in-Nothing-Nothing c = join_case _ _ (sym c.in-Nothing-Nothing.ensures) (sym c.in-Nothing-Nothing.ensures')

pub returns-in-Nothing-One : goal.returns-in-Nothing-One
returns-in-Nothing-One c = join_case _ _ (sym c.in-Nothing-One.ensures) (sym c.in-Nothing-One.ensures')

pub returns-in-Nothing-Many : goal.returns-in-Nothing-Many
returns-in-Nothing-Many c = join_case _ _ (sym c.in-Nothing-Many.ensures) (sym c.in-Nothing-Many.ensures')

pub returns-in-One-Nothing : goal.returns-in-One-Nothing
returns-in-One-Nothing c = join_case _ _ (sym c.in-One-Nothing.ensures) (sym c.in-One-Nothing.ensures')

pub returns-in-One-One : goal.returns-in-One-One
returns-in-One-One c = join_case _ _ (sym c.in-One-One.ensures) (sym c.in-One-One.ensures')

pub returns-in-One-Many : goal.returns-in-One-Many
returns-in-One-Many c = join_case _ _ (sym c.in-One-Many.ensures) (sym c.in-One-Many.ensures')

pub returns-in-Many-Nothing : goal.returns-in-Many-Nothing
returns-in-Many-Nothing c = many_first _ _ (sym c.in-Many-Nothing.ensures)

pub returns-in-Many-One : goal.returns-in-Many-One
returns-in-Many-One c = many_first _ _ (sym c.in-Many-One.ensures)

pub returns-in-Many-Many : goal.returns-in-Many-Many
returns-in-Many-Many c = many_first _ _ (sym c.in-Many-Many.ensures)
