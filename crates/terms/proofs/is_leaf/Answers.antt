-- `terms::is_leaf` meets its contract.
use borrow.Author.Tests.{lt-leb, le-leb}
use Rattle.terms.specs.Outcomes.{is_leaf}
use Rattle.terms.proofs.is_leaf.Goals as goal

pub returns-then-kind-ge-KIND_CONSTANT : goal.returns-then-kind-ge-KIND_CONSTANT
unfolding is_leaf
returns-then-kind-ge-KIND_CONSTANT c = rw (le-leb _ _ c.if-kind-ge-KIND_CONSTANT.true)

pub returns-else-kind-ge-KIND_CONSTANT : goal.returns-else-kind-ge-KIND_CONSTANT
unfolding is_leaf
returns-else-kind-ge-KIND_CONSTANT c = rw (lt-leb _ _ c.if-kind-ge-KIND_CONSTANT.false)
