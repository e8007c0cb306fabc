-- `verifier::too_many` meets its contract.
use native.Mathlib.Omega.{arith}
use Rattle.verifier.proofs.Faults.{variable_more, sub_more, none_more}
use Rattle.verifier.proofs.too_many.Goals as goal

pub returns-in-2 : goal.returns-in-2
returns-in-2 c = variable_more _ _ c.in-2.is c.requires

pub returns-in-3 : goal.returns-in-3
returns-in-3 c = sub_more _ _ c.in-3.is c.requires

pub returns-in_default : goal.returns-in_default
returns-in_default c = none_more _ _ (omega arith) (omega arith) c.requires
