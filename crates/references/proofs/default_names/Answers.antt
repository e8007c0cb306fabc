-- `references::default_names` meets its contract.
use Rattle.references.specs.Dangling.{default_names}
use Rattle.references.proofs.default_names.Goals as goal

pub returns : goal.returns
unfolding default_names
returns c = rw (c.none_or_below.ensures, c.none_or_below-2.ensures, c.none_or_below-3.ensures, c.both_below.ensures)
