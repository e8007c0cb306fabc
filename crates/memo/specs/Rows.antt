-- A table of rows of 33 cells, one row for each scope: a count, 0 where nothing is known of the scope, then the cells of its variables.
use Rattle.std.specs.Prelude.{ℕ, ◌+◌, ◌*◌, ◌<◌, ◌≤◌, ◌≡◌, Bool, true, false, List, length, get_or, take, drop, Option, None, Some}
use Rattle.cells.specs.Cells.{given_at}

-- 32 cells can be copied
pub record Copying (from : List ℕ) (start : ℕ) (to : List ℕ) (at : ℕ) : Type 0 where
  pub source : start + 32 ≤ length from
  pub room : at + 32 ≤ length to

-- n cells are copied, and the others are as they were
pub record Copied (from : List ℕ) (start n : ℕ) (before : List ℕ) (at : ℕ) (after : List ℕ) : Type 0 where
  pub size : length after ≡ length before
  pub inside : (x : ℕ) → x < n → get_or after (at + x) 0 ≡ get_or from (start + x) 0
  pub below : (x : ℕ) → x < at → get_or after x 0 ≡ get_or before x 0
  pub above : (x : ℕ) → at + n ≤ x → get_or after x 0 ≡ get_or before x 0

-- none of the first n variables is given
abbrev pub NoneGiven : List ℕ → ℕ → Type 0
NoneGiven given n = (u : ℕ) → u < n → given_at given u ≡ None

-- the answer is true if and only if none of the first n variables is given
pub record Ungiven (given : List ℕ) (n : ℕ) (r : Bool) : Type 0 where
  pub none : r ≡ true → NoneGiven given n
  pub if_none : NoneGiven given n → r ≡ true

unfoldable pub row_count : List ℕ → ℕ → ℕ
row_count memo i = get_or memo (i * 33) 0

unfoldable pub row_cells : List ℕ → ℕ → List ℕ
row_cells memo i = take 32 (drop (i * 33 + 1) memo)

-- the table has row i
abbrev pub HasRow : ℕ → List ℕ → Type 0
HasRow i memo = i * 33 + 33 ≤ length memo

-- row i and the cells of a scope's variables
pub record RowRoom (i : ℕ) (own memo : List ℕ) : Type 0 where
  pub row : HasRow i memo
  pub room : length own ≡ 32

-- the cells are as they were, and where it was asked for row i nothing is known
pub record Unfound (memo : List ℕ) (i : ℕ) (asked : Bool) (own own' : List ℕ) : Type 0 where
  pub kept : own' ≡ own
  pub unknown : asked ≡ true → row_count memo i ≡ 0

-- it was asked for row i, n is its count, not 0, and the row stands in the cells
pub record Found (memo : List ℕ) (i : ℕ) (asked : Bool) (n : ℕ) (own' : List ℕ) : Type 0 where
  pub wanted : asked ≡ true
  pub count : n ≡ row_count memo i
  pub known : n ≡ 0 → ⊥
  pub cells : own' ≡ row_cells memo i

-- what asking for row i came to: nothing, or its count
abbrev pub Recalled : List ℕ → ℕ → Bool → List ℕ → Option ℕ → List ℕ → Type 0
Recalled memo i asked own None own' = Unfound memo i asked own own'
Recalled memo i asked own (Some n) own' = Found memo i asked n own'

-- row i is this count and these cells, and the other rows are as they were
pub record Noted (own : List ℕ) (count i : ℕ) (memo memo' : List ℕ) : Type 0 where
  pub counts : row_count memo' i ≡ count
  pub cells : row_cells memo' i ≡ own
  pub others : (j : ℕ) → HasRow j memo → (j ≡ i → ⊥) → (row_count memo' j ≡ row_count memo j) × (row_cells memo' j ≡ row_cells memo j)

-- where row i was to be kept, it is
pub record Remembered (own : List ℕ) (count i : ℕ) (asked : Bool) (memo memo' : List ℕ) : Type 0 where
  pub kept : asked ≡ false → memo' ≡ memo
  pub noted : asked ≡ true → Noted own count i memo memo'

-- every row that has a count is as it must be, by its number, its count and its cells
pub record Memo (Right : ℕ → ℕ → List ℕ → Type 0) (memo : List ℕ) : Type 0 where
  pub rows : (i : ℕ) → HasRow i memo → (row_count memo i ≡ 0 → ⊥) → Right i (row_count memo i) (row_cells memo i)
