-- `blocks::all_set` meets its contract.
use Prim.Native.Nat.{ℕ, ◌+◌, ◌-◌}
use mathlib.Core.Path.{◌≡◌, ap}
use native.Mathlib.Omega.{arith}
use lib.ListN.{take, drop}
use Rattle.std.proofs.Common.{rules, tests}
use Rattle.std.proofs.lemmas.Iterator.{cases_from_all, YieldsList-from_slice}
use Rattle.blocks.proofs.Ends.{looked_through}
use Rattle.blocks.proofs.all_set.Goals as goal

pub returns : goal.returns
returns c =
    let part = take (c.args.from + c.args.n - c.args.from) (drop c.args.from c.args.cells.now) in
    let count : c.args.from + c.args.n - c.args.from ≡ c.args.n = omega arith in
    looked_through _ c.args.from c.args.n _ c.requires part (ap (λ (k : ℕ). take k (drop c.args.from c.args.cells.now)) count)
    (cases_from_all _ _ _ (λ (x : ℕ). x ≡ 0 → ⊥) (λ (x : ℕ). x ≡ 0) c.all.ensures.ran
    (YieldsList-from_slice part c.iter.ensures.rest)
    (λ x f h. search (rules, tests))
    (λ x f h. search (rules, tests)))
