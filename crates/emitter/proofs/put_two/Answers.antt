-- `emitter::put_two` meets its contract.
use lib.ListN.{length-set}
use native.Mathlib.Omega.{arith}
use Rattle.emitter.proofs.Emission.{put_none, put_pair}
use Rattle.emitter.proofs.put_two.Goals as goal

pub returns-then-out-end : goal.returns-then-out-end
returns-then-out-end c =
    put_none _ _ _ _ c.if-out-end.true

pub bounds-out-place-2 : goal.bounds-out-place-2
bounds-out-place-2 c = simp length-set (let h = c.if-out-end.false in omega arith)

pub returns : goal.returns
returns c =
    put_pair _ _ _ _ c.if-out-end.false
