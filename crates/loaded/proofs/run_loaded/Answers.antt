-- `loaded::run_loaded` meets its contract.
use mathlib.Core.Path.{refl}
use Rattle.scopes.proofs.Cells.{kept_none}
use Rattle.loaded.proofs.Running.{entry, typed, values_so, ends_so}
use Rattle.loaded.proofs.run_loaded.Goals as goal

pub enter-requires : goal.enter-requires
enter-requires c = entry c.requires refl (kept_none 32)

pub write_results-requires-clause-typed : goal.write_results-requires-clause-typed
write_results-requires-clause-typed c = typed c.requires c.enter.ensures.came c.in-Ok.is

pub returns-in-Ok : goal.returns-in-Ok
returns-in-Ok c = record { replied = values_so c.requires c.enter.ensures.came c.in-Ok.is c.result_length-length.ensures c.write_results.ensures; known = c.enter.ensures.known }

pub returns-in-Err : goal.returns-in-Err
returns-in-Err c = record { replied = ends_so c.requires c.enter.ensures.came c.in-Err.is; known = c.enter.ensures.known }
