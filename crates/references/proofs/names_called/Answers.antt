-- `references::names_called` meets its contract.
use Rattle.book.specs.Positions.{sub_scope_at}
use Rattle.book.specs.References.{names_called}
use Rattle.references.proofs.names_called.Goals as goal

pub returns-then-below : goal.returns-then-below
unfolding names_called sub_scope_at
returns-then-below c =
    rw (
      ← c.sub_scope_count.ensures,
      ← c.below.ensures,
      c.if-below.true,
      ← c.sub_scope_at.ensures,
      ← c.variable_count.ensures,
    )
    c.below-then-below.ensures

pub returns-else-below : goal.returns-else-below
unfolding names_called
returns-else-below c = rw (← c.sub_scope_count.ensures, ← c.below.ensures, c.if-below.false)
