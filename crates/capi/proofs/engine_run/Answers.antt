-- `capi::engine_run` meets its contract.
use Rattle.capi.proofs.Packed.{ran}
use Rattle.capi.proofs.engine_run.Goals as goal

pub returns : goal.returns
returns c = ran _ _ _ c.run.ensures c.pack_answer.ensures
