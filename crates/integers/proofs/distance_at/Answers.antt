-- `integers::distance_at` meets its contract.
use Rattle.std.proofs.Common.{◌∙◌}
use Rattle.integers.proofs.Endian.{part}
use Rattle.integers.proofs.Library.{two}
use Rattle.integers.proofs.distance_at.Goals as goal

pub returns : goal.returns
returns c = rw (c.from.ensures, c.from_be_bytes.ensures, c.byte_at.ensures, c.byte_at-2.ensures, c.part_of-part.ensures)
    (two _ ∙ part 2 c.args.s.now c.args.at)
