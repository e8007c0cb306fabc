-- `order::write_order` meets its contract. The loop's invariant is `Filling`, `Met`: what rows pass over is done, and `Resting`: each vertex
use Prim.Native.Nat.{◌≤◌}
use mathlib.Core.Path.{◌≡◌}
use lib.ListN.{length}
use Rattle.order.specs.Memo.{Met, Resting}
use Rattle.order.proofs.Filling.{Filling}
use Rattle.order.proofs.write_order.Given as goal

abbrev pub invariant-loop-k : goal.invariant-loop-k
invariant-loop-k l =
    Filling l.initial.deps l.n l.initial.out l.out l.done l.k × Met l.initial.deps l.n l.done l.deps × Resting l.deps l.n l.done l.wakes l.low × (l.low ≤ l.n) × (length l.wakes ≡ 40)
