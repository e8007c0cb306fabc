-- `runner::beginnings` meets its contract.
use Prim.Native.Nat.{◌+◌, ◌≤◌}
use mathlib.Core.Path.{◌≡◌}
use lib.ListN.{drop}
use Rattle.runner.specs.Rows.{beginnings_in}
use Rattle.runner.proofs.beginnings.Given as goal

abbrev pub invariant-loop-at : goal.invariant-loop-at
invariant-loop-at l = (l.count + beginnings_in (drop l.at l.code) ≡ beginnings_in l.code) × (l.count ≤ l.at)
