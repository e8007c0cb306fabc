-- What is known of a scope that was entered with nothing given: it comes to the same each time. A row for each scope: the count of scopes
-- entered, then the cells of its variables.
use Rattle.std.specs.Prelude.{ℕ, ◌*◌, ◌<◌, ◌≤◌, ◌≡◌, List, [], length, Ok, Option, Some}
use Rattle.cells.specs.Codec.{AllKept}
use Rattle.memo.specs.Rows.{Memo}
use Rattle.book.specs.Decode.{scopes_of}
use Rattle.book.specs.References.{scope_at}
use Rattle.index.specs.Index.{Laid}
use Rattle.scopes.specs.Steps.{World, Came}

-- there is a row for each scope, and every row that has a count is what entering its scope with nothing given comes to
pub record Known (bytes memo : List ℕ) : Type 0 where
  pub size : length (scopes_of bytes) * 33 ≤ length memo
  pub table : Memo (λ i count cells. Came bytes i [] (Ok count) cells) memo

-- the row of scope i can be read and written
pub record Noting (bytes index : List ℕ) (i : ℕ) (own memo : List ℕ) : Type 0 where
  pub laid : Laid bytes index
  pub scope : i < length (scopes_of bytes)
  pub room : length own ≡ 32
  pub kept : AllKept own
  pub known : Known bytes memo

-- where there is an answer, it is the count of scopes entered, and the cells hold the values
pub record Recalled (bytes : List ℕ) (i : ℕ) (given : List ℕ) (r : Option ℕ) (own : List ℕ) : Type 0 where
  pub size : length own ≡ 32
  pub kept : AllKept own
  pub found : (m : ℕ) → r ≡ Some m → Came bytes i given (Ok m) own

-- scope i can be entered: its variables have cells, with nothing or a value in each
pub record Entry (bytes index links orders : List ℕ) (i : ℕ) (given own memo : List ℕ) : Type 0 where
  pub world : World bytes index links orders
  pub scope : i < length (scopes_of bytes)
  pub given_room : length given ≡ 32
  pub given_kept : AllKept given
  pub room : length own ≡ 32
  pub kept : AllKept own
  pub known : Known bytes memo

-- the steps of scope i can be run: the variables of its sub-scopes have cells, with nothing or a value in each
pub record RunsSteps (bytes index links orders : List ℕ) (i : ℕ) (given own called memo : List ℕ) : Type 0 where
  pub entry : Entry bytes index links orders i given own memo
  pub called_room : length (scope_at (scopes_of bytes) i).sub_scopes * 32 ≤ length called
  pub called_kept : AllKept called
