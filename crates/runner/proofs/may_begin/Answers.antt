-- `runner::may_begin` meets its contract.
use mathlib.Core.Path.{sym, ◌∙◌}
use borrow.Author.Tests.{ne_eqb}
use Rattle.runner.proofs.Rows.{begun_not, begun_so}
use Rattle.runner.proofs.may_begin.Goals as goal

pub returns-then-byte_at-eq-KIND_SCOPE : goal.returns-then-byte_at-eq-KIND_SCOPE
returns-then-byte_at-eq-KIND_SCOPE c = rw c.byte_at-then-byte_at-eq-KIND_SCOPE.ensures (begun_so _ _ (sym c.byte_at.ensures ∙ c.if-byte_at-eq-KIND_SCOPE.true))

pub returns-else-byte_at-eq-KIND_SCOPE : goal.returns-else-byte_at-eq-KIND_SCOPE
returns-else-byte_at-eq-KIND_SCOPE c = ne_eqb _ _ c.if-byte_at-eq-KIND_SCOPE.false ∙ begun_not _ _ (λ e. c.if-byte_at-eq-KIND_SCOPE.false (c.byte_at.ensures ∙ e))
