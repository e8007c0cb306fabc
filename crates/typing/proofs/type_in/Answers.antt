-- `typing::type_in` meets its contract.
use borrow.Author.Tests.{eq-eqb, ne_eqb}
use Rattle.typing.specs.Types.{type_in}
use Rattle.typing.proofs.type_in.Goals as goal

pub returns-then-byte_at-eq0 : goal.returns-then-byte_at-eq0
unfolding type_in
returns-then-byte_at-eq0 c = rw (← c.byte_at.ensures, eq-eqb _ _ c.if-byte_at-eq0.true)

pub returns-else-byte_at-eq0 : goal.returns-else-byte_at-eq0
unfolding type_in
returns-else-byte_at-eq0 c = rw (← c.byte_at.ensures, ne_eqb _ _ c.if-byte_at-eq0.false)
