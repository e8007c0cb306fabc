-- `steps::own_by` meets its contract.
use native.Mathlib.Omega.{arith}
use Rattle.steps.proofs.Owners.{own_one}
use Rattle.steps.proofs.own_by.Goals as goal

pub returns : goal.returns
returns c = own_one _ _ _ c.requires (omega arith)
