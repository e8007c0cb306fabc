-- `instructions::encode` meets its contract.
use Rattle.calculus.proofs.Numbers.{number_fits}
use Rattle.instructions.proofs.Stack.{encodes}
use Rattle.instructions.proofs.encode.Goals as goal

pub returns : goal.returns
returns c = rw c.cell_of.ensures (encodes _ (number_fits c.args.v c.well_formed.0))
