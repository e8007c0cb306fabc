-- `capi::engine_compile` meets its contract.
use Rattle.capi.proofs.Packed.{compiled}
use Rattle.capi.proofs.engine_compile.Goals as goal

pub returns : goal.returns
returns c = compiled _ c.compile.ensures c.pack_produced.ensures
