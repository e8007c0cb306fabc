-- `inputs::read_by` meets its contract. The invariant: the list is read up to a position, and the cells hold what it gives so far.
use Rattle.lists.specs.Reading.{typed}
use Rattle.lists.proofs.Reading.{Read}
use lib.ListN.{length}
use Prim.Native.Nat.{◌-◌}
use Rattle.inputs.proofs.read_by.Given as goal

abbrev pub invariant-loop-at : goal.invariant-loop-at
invariant-loop-at l = Read (typed l.types) l.inputs l.given l.at

abbrev pub decreases-loop-at : goal.decreases-loop-at
decreases-loop-at l = length l.inputs - l.at
