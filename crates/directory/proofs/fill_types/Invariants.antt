use mathlib.Core.Path.{◌≡◌}
use mathlib.Core.List.{List}
use lib.ListN.{length}
use Rattle.book.specs.declared.Variable.{Variable}
use Rattle.lists.proofs.Types.{Filling}
use Rattle.directory.specs.Layout.{Declares}
use Rattle.directory.proofs.fill_types.Given as goal

abbrev pub invariant-loop-v : goal.invariant-loop-v
invariant-loop-v l = (length l.types ≡ 32) × ((vs : List Variable) → Declares l.directory l.p vs → Filling vs l.types l.v)
