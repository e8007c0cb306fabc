-- `capi::engine_evaluate` meets its contract.
use Rattle.capi.proofs.Packed.{evaluated}
use Rattle.capi.proofs.engine_evaluate.Goals as goal

pub returns : goal.returns
returns c = evaluated _ _ _ c.evaluate.ensures c.pack_answer.ensures
