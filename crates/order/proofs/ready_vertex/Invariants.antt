-- `order::ready_vertex` meets its contract. The outer loop's invariant: each vertex below v rests, and what rows pass over is done. The inner
use Prim.Native.Nat.{ℕ, ◌<◌, ◌≤◌, ◌+◌, ◌-◌}
use mathlib.Core.Path.{◌≡◌}
use mathlib.Core.Bool.{false}
use lib.ListN.{length, get_or}
use Rattle.order.specs.Order.{unmet}
use Rattle.order.specs.Matrix.{marked, edge_of}
use Rattle.order.specs.Memo.{Met, Resting}
use Rattle.order.proofs.ready_vertex.Given as goal

abbrev pub invariant-loop-w : goal.invariant-loop-w
invariant-loop-w l =
    (get_or l.deps (1600 + l.v) 0 ≤ l.w)
    × ((u : ℕ) → u < l.w → unmet (edge_of l.deps) (marked l.done) l.v u ≡ false)
    × (l.deps ≡ l.initial.deps)
    × (l.wakes ≡ l.initial.wakes)

abbrev pub decreases-loop-w : goal.decreases-loop-w
decreases-loop-w l = l.n - l.w

abbrev pub invariant-search : goal.invariant-search
invariant-search l =
    (l.v ≤ l.n) × Met l.initial.deps l.n l.done l.deps × Resting l.deps l.n l.done l.wakes l.v × (length l.wakes ≡ length l.initial.wakes)

abbrev pub decreases-search : goal.decreases-search
decreases-search l = l.n - l.v
