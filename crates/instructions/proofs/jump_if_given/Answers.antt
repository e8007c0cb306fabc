-- `instructions::jump_if_given` meets its contract.
use Prim.Native.Nat.{◌+◌, ◌-◌}
use mathlib.Core.Path.{◌≡◌}
use native.Mathlib.Omega.{arith}
use Rattle.instructions.proofs.Memory.{given_unset, given_given, given_stored}
use Rattle.instructions.proofs.jump_if_given.Goals as goal

pub returns-then-own-x-eq-NOTHING : goal.returns-then-own-x-eq-NOTHING
returns-then-own-x-eq-NOTHING c = λ st tr m o. (given_unset _ _ _ _ _ _ m c.if-own-x-eq-NOTHING.true, omega arith, o)

pub returns-then-frame-x-eq0 : goal.returns-then-frame-x-eq0
returns-then-frame-x-eq0 c = λ st tr m o. let z : 3 + c.args.d - 3 ≡ c.args.d = omega arith in (rw z (given_given _ _ _ _ _ _ m c.if-own-x-eq-NOTHING.false c.if-frame-x-eq0.true), omega arith, o)

pub returns : goal.returns
returns c = λ st tr m o. (given_stored _ _ _ _ _ _ m c.if-own-x-eq-NOTHING.false c.if-frame-x-eq0.false, omega arith, o)
