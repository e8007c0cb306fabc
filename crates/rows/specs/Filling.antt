-- The rows of a scope of a loaded book, by cells: what the fixed input list gives is in cells, and an assignment is put into the chosen variables' cells.
use Rattle.std.specs.Prelude.{ℕ, suc, ◌*◌, ◌-◌, ◌≡◌, Bool, false, List, [], ◌∷◌, ◌++◌, length, set, take, drop, replicate}
use Rattle.calculus.specs.declared.Value.TheVariants.{Truth}
use Rattle.cells.specs.Codec.{value_cell}
use Rattle.book.specs.Lists.{any}
use Rattle.book.specs.Sharing.{gathered}
use Rattle.book.specs.Decode.{scopes_of}
use Rattle.book.specs.References.{scope_at}
use Rattle.lists.specs.Writing.{result_length_at}
use Rattle.evaluation.specs.Evaluate.{reply_of}
use Rattle.scopes.specs.Steps.{givens_from, entered_at}
use Rattle.scopes.specs.Known.{Known}
use Rattle.loaded.specs.Loaded.{Enterable, RunsLoaded}
use Rattle.tabulation.specs.Assignments.{assignments, power}
use Rattle.book.specs.Sharing.{repeats}
use Rattle.tabulation.specs.Chosen.{unfit}
use Rattle.tabulation.specs.Tabulate.{row_of}

-- zeros from a position on
unfoldable pub cleared : List ℕ → ℕ → List ℕ
cleared bytes from = take from bytes ++ replicate (length bytes - from) 0

-- an assignment in the cells of the chosen variables
unfoldable pub assign : List ℕ → List ℕ → List Bool → List ℕ
assign cells [] bs = cells
assign cells (v ∷ vs) [] = cells
assign cells (v ∷ vs) (b ∷ bs) = assign (set cells v (value_cell (Truth b))) vs bs

-- the row of scope i, run with what the cells give
unfoldable pub cell_row : List ℕ → ℕ → List ℕ → List ℕ
cell_row bytes i cells = row_of (result_length_at (scopes_of bytes) i) (reply_of (entered_at bytes i cells))

-- the rows of all assignments
unfoldable pub cell_rows : List ℕ → ℕ → List ℕ → List ℕ → List ℕ
cell_rows bytes i vs cells = gathered (λ a. cell_row bytes i (assign cells vs a)) (assignments (length vs))

-- scope i can be run, and its row has its length
pub record FillsRow (bytes index links orders : List ℕ) (i : ℕ) (given memo row : List ℕ) : Type 0 where
  pub runs : RunsLoaded bytes index links orders i given memo (drop 1 row)
  pub size : length row ≡ suc (result_length_at (scopes_of bytes) i)

-- scope i can be run with any assignment of the chosen variables, which are given by nothing else, and the table has its length
pub record FillsRows (bytes index links orders : List ℕ) (i : ℕ) (chosen given memo table : List ℕ) : Type 0 where
  pub enterable : Enterable bytes index links orders i given
  pub known : Known bytes memo
  pub distinct : repeats chosen ≡ false
  pub fit : any (unfit (scope_at (scopes_of bytes) i).variables (givens_from given 0 (length (scope_at (scopes_of bytes) i).variables))) chosen ≡ false
  pub size : length table ≡ power (length chosen) * suc (result_length_at (scopes_of bytes) i)
