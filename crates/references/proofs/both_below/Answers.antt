-- `references::both_below` meets its contract.
use Rattle.references.specs.Dangling.{both_below}
use Rattle.references.proofs.both_below.Goals as goal

pub returns : goal.returns
unfolding both_below
returns c = rw (c.below.ensures, c.below-2.ensures)
