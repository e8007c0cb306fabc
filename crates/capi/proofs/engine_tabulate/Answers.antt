-- `capi::engine_tabulate` meets its contract.
use Rattle.capi.proofs.Packed.{tabulated}
use Rattle.capi.proofs.engine_tabulate.Goals as goal

pub returns : goal.returns
returns c = tabulated _ _ _ _ c.tabulate.ensures c.pack_produced.ensures
