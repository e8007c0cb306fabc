-- `terms::number` meets its contract.
use mir.Facts.{to_z-of_z}
use Rattle.cells.specs.Codec.{value_cell}
use Rattle.terms.proofs.number.Goals as goal

pub returns : goal.returns
unfolding value_cell
returns c = rw (c.from.ensures, c.bits_of.ensures, to_z-of_z c.ranges.z)
