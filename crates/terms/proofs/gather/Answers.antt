-- `terms::gather` meets its contract.
use Rattle.terms.proofs.Defaults.{ended_stays, one_ends, one_joins}
use Rattle.terms.proofs.gather.Goals as goal

pub returns-then-g-ge-EMPTY : goal.returns-then-g-ge-EMPTY
returns-then-g-ge-EMPTY c = ended_stays _ _ c.if-g-ge-EMPTY.true

pub returns-then-more-ge-EMPTY : goal.returns-then-more-ge-EMPTY
returns-then-more-ge-EMPTY c = one_ends _ _ _ c.if-g-ge-EMPTY.false c.found-more.ensures c.if-more-ge-EMPTY.true

pub returns : goal.returns
returns c = rw c.join.ensures (one_joins _ _ _ c.if-g-ge-EMPTY.false c.found-more.ensures c.if-more-ge-EMPTY.false)
