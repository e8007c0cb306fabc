-- `integers::number_at` meets its contract.
use Rattle.std.proofs.Common.{ap, to_z, to_z-of_z}
use Rattle.std.specs.Int.{w32}
use Rattle.slices.specs.Bytes.{number_at}
use Rattle.integers.proofs.Endian.{part}
use Rattle.integers.proofs.number_at.Goals as goal

pub returns : goal.returns
unfolding number_at
returns c = rw (to_z-of_z (record { sfits = c.number_of.type_inv }), c.number_of.ensures, c.four_bytes.ensures, c.part_of.ensures)
    (ap (to_z w32) (part 4 c.args.s.now c.args.at))
