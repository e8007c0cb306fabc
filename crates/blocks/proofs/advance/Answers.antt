use mathlib.Core.Path.{refl}
use mathlib.Core.Logic.{inl, inr}
use native.Mathlib.Omega.{arith}
use Rattle.blocks.proofs.advance.Goals as goal

-- src/lib.rt:591:9
pub returns-then-end-next : goal.returns-then-end-next
returns-then-end-next c = record { on = omega arith; within = omega arith; lands = inr (refl, omega arith) }

-- src/lib.rt:586:1
pub returns : goal.returns
returns c = record { on = omega arith; within = omega arith; lands = inl refl }
