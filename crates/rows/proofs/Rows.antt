-- The rows of all assignments.
--     no_choice, both_halves   the rows of no variable, and of one variable more: those with no, then those with yes
-- Assumes nothing.
use Prim.Native.Nat.{ℕ}
use mathlib.Core.Path.{◌≡◌}
use mathlib.Core.List.{List, [], ◌∷◌, ◌++◌, append-nil}
use lib.ListN.{length, set}
use Rattle.cells.specs.Codec.{no_cell, yes_cell, value_cell}
use Rattle.tabulation.specs.Assignments.{assignments}
use Rattle.book.specs.Sharing.{gathered}
use Rattle.tabulation.proofs.Halves.{rows_halves}
use Rattle.rows.specs.Filling.{assign, cell_row, cell_rows}

module _ (bytes : List ℕ) (i : ℕ) (cells : List ℕ) where
  pub no_choice : cell_rows bytes i [] cells ≡ cell_row bytes i cells
  unfolding cell_rows assignments gathered assign
  no_choice = append-nil (cell_row bytes i cells)

  pub both_halves : (v : ℕ) (vs : List ℕ)
      → cell_rows bytes i (v ∷ vs) cells ≡ cell_rows bytes i vs (set cells v no_cell) ++ cell_rows bytes i vs (set cells v yes_cell)
  unfolding cell_rows assignments assign value_cell
  both_halves v vs = rows_halves (λ a. cell_row bytes i (assign cells (v ∷ vs) a)) (length vs)
