-- `verifier::variable` meets its contract.
use mathlib.Core.Path.{refl}
use native.Mathlib.Omega.{arith}
use Rattle.verifier.proofs.variable.Goals as goal

pub returns : goal.returns
returns c = (refl, rw c.from.ensures refl, omega arith)
