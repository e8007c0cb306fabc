-- Cells that an input list was read into.
--     taken_givens     they give what the list gives
--     taken_fitting    which fits the variables
-- Assumes nothing.
use Prim.Native.Nat.{ℕ, ◌+◌}
use mathlib.Core.Path.{◌≡◌, sym, ap, subst, ◌∙◌}
use mathlib.Core.List.{List}
use native.Mathlib.Omega.{arith}
use lib.ListN.{length}
use Rattle.cells.specs.Cells.{given_at}
use Rattle.book.specs.declared.Variable.{Variable}
use Rattle.lists.specs.Reading.{Taken}
use Rattle.evaluation.specs.Types.{Fitting}
use Rattle.evaluation.proofs.Types.{inputs_fitting}
use Rattle.scopes.specs.Steps.{givens_from}
use Rattle.scopes.proofs.Cells.{givens_list}

module _ {variables : List Variable} {list given : List ℕ} (taken : Taken variables list given) where
  pub taken_givens : givens_from given 0 (length variables) ≡ taken.givens
  taken_givens =
      ap (givens_from given 0) (sym taken.number)
      ∙ givens_list given 0 taken.givens (λ x. let z : 0 + x ≡ x = omega arith in ap (given_at given) z ∙ taken.decoded x)

  pub taken_fitting : Fitting variables (givens_from given 0 (length variables))
  taken_fitting = subst (Fitting variables) (sym taken_givens) (inputs_fitting variables list taken.givens taken.list)
