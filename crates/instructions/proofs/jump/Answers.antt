-- `instructions::jump` meets its contract.
use Prim.Native.Nat.{◌+◌, ◌-◌}
use mathlib.Core.Path.{◌≡◌}
use native.Mathlib.Omega.{arith}
use Rattle.instructions.proofs.jump.Goals as goal

pub returns : goal.returns
returns c = λ st tr m o. let z : 2 + c.args.d - 2 ≡ c.args.d = omega arith in (rw z, omega arith, o)
