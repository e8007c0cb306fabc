-- `verifier::no_name` meets its contract.
use Rattle.verifier.proofs.Landings.{stops, lands_at}
use mathlib.Core.Bool.{true}
use mathlib.Core.Path.{refl}
use native.Mathlib.Omega.{arith}
use Rattle.verifier.proofs.no_name.Goals as goal

pub returns-then-body_passes : goal.returns-then-body_passes
returns-then-body_passes c = let w = c.body_passes.ensures.whole c.if-body_passes.true in lands_at _ _ _ _ _ c.body_passes.ensures true 0 c.if-body_passes.true refl _ refl (omega arith) (omega arith)

pub returns : goal.returns
returns c = stops _ _ _ _ _ c.body_passes.ensures true 0 c.if-body_passes.false
