-- `choices::mark_chosen` meets its contract. The invariant: those from a place on are good and marked.
use mathlib.Core.List.{map}
use lib.ListN.{length}
use Prim.Native.Nat.{◌-◌}
use Rattle.cells.specs.Cells.{given_of}
use Rattle.lists.specs.Reading.{typed}
use Rattle.choices.proofs.Marking.{MarkingChosen}
use Rattle.choices.proofs.mark_chosen.Given as goal

abbrev pub invariant-loop-v : goal.invariant-loop-v
invariant-loop-v l = MarkingChosen (typed l.types) (map given_of l.given) l.chosen l.marks (length l.chosen - length l.yielded)
