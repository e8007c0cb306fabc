-- The rest of a clause as a cell: one law for each way through the code.
-- Assumes nothing.
use Prim.Native.Nat.{ℕ, ◌+◌, ◌<◌, ◌≤◌}
use mathlib.Core.Path.{◌≡◌, refl}
use mathlib.Core.Bool.{true, false}
use mathlib.Core.List.{List}
use lib.ListN.{get_or}
use lib.Dec.{eqb}
use borrow.Author.Tests.{eq-eqb, ne_eqb}
use Rattle.calculus.proofs.Numbers.{zero_fits}
use Rattle.cells.specs.Codec.{empty_cell, yes_cell, truth_cell, cell_of, Codes}
use Rattle.terms.specs.Outcomes.{outcome_in}
use Rattle.terms.specs.Clauses.{condition_in, consequence_in, rest_in}
use Rattle.terms.proofs.Operators.{truth_codes}
use Rattle.terms.proofs.Nodes.{end_of_choice, branch_of_choice}

module _ (bytes row own called : List ℕ) (at : ℕ) where
  abbrev condition : ℕ
  condition = get_or bytes (at + 4) 0

  abbrev last : ℕ
  last = get_or bytes (at + 5) 0

  module _ (t : ℕ) (some : condition ≡ 255 → ⊥) (h : Codes t (outcome_in bytes row own called condition)) where
    found : Codes t (condition_in bytes row own called condition)
    found = rw (ne_eqb condition 255 some) h

    pub condition_ends : empty_cell ≤ t → Codes t (rest_in bytes row own called at)
    unfolding rest_in
    condition_ends l = end_of_choice t _ _ _ found l

    pub condition_fails : t < empty_cell → (t ≡ yes_cell → ⊥) → Codes empty_cell (rest_in bytes row own called at)
    unfolding rest_in cell_of
    condition_fails l q = branch_of_choice t empty_cell _ _ _ false found l (ne_eqb t yes_cell q) (record { is = refl; fits = zero_fits })

    pub condition_holds : t < empty_cell → t ≡ yes_cell → (r : ℕ)
        → Codes r (consequence_in bytes row own called (get_or bytes at 0) last) → Codes r (rest_in bytes row own called at)
    unfolding rest_in
    condition_holds l q r k = branch_of_choice t r _ _ _ true found l (eq-eqb t yes_cell q) k

  pub always : condition ≡ 255 → (r : ℕ) → Codes r (consequence_in bytes row own called (get_or bytes at 0) last) → Codes r (rest_in bytes row own called at)
  unfolding rest_in
  always e r k = rw (eq-eqb condition 255 e) k

  pub defined : get_or bytes at 0 ≡ 19 → (r : ℕ) → Codes r (outcome_in bytes row own called last) → Codes r (consequence_in bytes row own called (get_or bytes at 0) last)
  defined e r h = rw (eq-eqb (get_or bytes at 0) 19 e) h

  pub ruled : (get_or bytes at 0 ≡ 19 → ⊥) → (r : ℕ) → r ≡ truth_cell (eqb last 1) → Codes r (consequence_in bytes row own called (get_or bytes at 0) last)
  ruled e r h = rw (ne_eqb (get_or bytes at 0) 19 e) (truth_codes r _ _ h refl)
