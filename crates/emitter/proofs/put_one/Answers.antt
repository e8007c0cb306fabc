-- `emitter::put_one` meets its contract.
use native.Mathlib.Omega.{arith}
use Rattle.emitter.proofs.Emission.{put_byte, put_none}
use Rattle.emitter.proofs.put_one.Goals as goal

pub returns-then-out-at : goal.returns-then-out-at
returns-then-out-at c =
    put_none _ _ _ _ (omega (arith, c.if-out-at.true))

pub returns : goal.returns
returns c =
    put_byte _ _ _ (omega (arith, c.if-out-at.false))
