-- `weights::weigh` meets its contract. The loop's invariant: with the weights of the sub-scopes from the k-th on, the total is the scope's weight.
use Prim.Native.Nat.{◌≤◌, ◌+◌, ◌*◌}
use mathlib.Core.Path.{◌≡◌}
use Rattle.book.specs.Decode.{scopes_of}
use Rattle.book.specs.References.{scope_at}
use Rattle.weights.specs.Weighing.{weight_by}
use Rattle.weights.proofs.Weighing.{sum_from}
use Rattle.weights.proofs.weigh.Given as goal

abbrev pub invariant-loop-k : goal.invariant-loop-k
invariant-loop-k l =
    (l.total ≤ 1 + l.k * 65535) × (l.total + sum_from (scopes_of l.book.bytes.now) l.i l.weights l.k ≡ weight_by l.weights (scope_at (scopes_of l.book.bytes.now) l.i))
