-- `memo::none_given` meets its contract.
use Prim.Native.Nat.{ℕ}
use mathlib.Core.Path.{◌≡◌, refl}
use native.Mathlib.Omega.{arith}
use Rattle.std.specs.Prelude.{None}
use Rattle.std.proofs.Common.{rules, tests}
use Rattle.std.proofs.lemmas.Iterator.{cases_from_all, YieldsList-from_range}
use Rattle.cells.specs.Cells.{given_at}
use Rattle.memo.proofs.Rows.{ungiven}
use Rattle.memo.proofs.none_given.Goals as goal

pub returns : goal.returns
returns c =
    let given = c.args.given.now in
    let count = c.args.count in
    ungiven given count _
    (cases_from_all _ _ _ (λ (u : ℕ). given_at given u ≡ None) (λ (u : ℕ). given_at given u ≡ None → ⊥) c.all.ensures.ran
    (YieldsList-from_range 0 count count refl (omega arith))
    (λ u f h. search (rules, tests))
    (λ u f h. search (rules, tests)))
