-- `instructions::distance` meets its contract.
use Prim.Native.Nat.{◌+◌}
use native.Mathlib.Omega.{arith}
use Rattle.slices.specs.Bytes.{big_endian}
use Rattle.instructions.proofs.distance.Goals as goal

pub returns : goal.returns
unfolding big_endian
returns c = let a = c.type_inv.rest (c.args.at + 0) in let b = c.type_inv.rest (c.args.at + 1) in (c.distance_at.ensures, omega (arith, a, b, c.distance_at.ensures))
