-- `checks::check_leaf` meets its contract.
use Rattle.checks.specs.Findings.{leaf_finding}
use Rattle.checks.proofs.check_leaf.Goals as goal

pub returns : goal.returns
unfolding leaf_finding
returns c = rw c.byte_of-byte.ensures
