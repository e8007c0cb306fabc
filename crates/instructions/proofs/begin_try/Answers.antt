-- `instructions::begin_try` meets its contract.
use Prim.Native.Nat.{◌*◌}
use Rattle.instructions.proofs.Tries.{try_full, try_go}
use native.Mathlib.Omega.{arith}
use lib.ListN.{length-set}
use Rattle.instructions.proofs.begin_try.Goals as goal

pub returns-then-t-ge-TRIES : goal.returns-then-t-ge-TRIES
returns-then-t-ge-TRIES c = λ st m p. try_full _ _ st _ m _ c.if-t-ge-TRIES.true

pub bounds-tr-t-2 : goal.bounds-tr-t-2
bounds-tr-t-2 c = let l = length-set c.args.tr.now (c.args.t * 2) c.landing.result in omega arith

pub returns : goal.returns
returns c = λ st m p. rw (← c.landing.ensures) (try_go _ _ st _ m _ c.if-t-ge-TRIES.false (omega arith) p)
