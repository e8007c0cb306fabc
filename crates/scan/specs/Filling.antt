-- Filling the index of a book.
use Rattle.std.specs.Prelude.{ℕ, suc, ◌+◌, ◌-◌, ◌*◌, ◌≤◌, ◌<◌, ◌≡◌, Bool, true, cond, List, [], ◌∷◌, length, get_or, set, eqb, ltb, Option, None, Some, Result, Err, Ok}
use Rattle.book.specs.Records.{records}
use Rattle.book.specs.Decode.{scopes_of}
use Rattle.book.specs.Judge.{scan}
use Rattle.index.specs.Index.{cell_of, Laid}
use Rattle.scan.specs.Counting.{slot_of, number_of, Counts}
use Rattle.answers.specs.declared.Fault.{Fault}

-- the index with a record of a stage: where it begins, and one more of them; a record of stage 1 has no column
unfoldable pub stored : List ℕ → ℕ → ℕ → ℕ → List ℕ
stored index at s scopes =
    cond (ltb s 2) index
    (set (set index (cell_of (scopes - 1) ((slot_of s).base + number_of index s scopes)) at) (cell_of (scopes - 1) (s - 2)) (number_of index s scopes + 1))

-- there is a column for one more record of a stage
pub record Room (index : List ℕ) (at s scopes : ℕ) : Type 0 where
  pub counted : Counts index s scopes
  pub position : at < 65536
  pub place : 2 ≤ s → (slot_of s).base + number_of index s scopes < 422
  pub number : 2 ≤ s → number_of index s scopes < 255

-- how many bytes have the value of the kind that begins a scope: a book has no more scopes than these
unfoldable pub scope_bytes : List ℕ → ℕ
scope_bytes [] = 0
scope_bytes (b ∷ rest) = let n = scope_bytes rest in cond (eqb b 1) (suc n) n

-- a yes says that the book has at most 8 scopes
abbrev pub FewScopes : List ℕ → Bool → Type 0
FewScopes bytes r = r ≡ true → scope_bytes bytes ≤ 8

-- an index that is still empty, with a row for each scope that the book may have
pub record Unfilled (bytes index : List ℕ) : Type 0 where
  pub empty : (k : ℕ) → get_or index k 0 ≡ 0
  pub rows : (n : ℕ) → n ≤ 32 → n ≤ scope_bytes bytes → 128 + n * 418 ≤ length index

-- a book whose positions fit two bytes, and an index for it
pub record Blank (bytes index : List ℕ) : Type 0 where
  pub short : length bytes ≤ 65536
  pub unfilled : Unfilled bytes index

-- the index is that of the book, which has this many scopes
pub record Filled (bytes index : List ℕ) (n : ℕ) : Type 0 where
  pub laid : Laid bytes index
  pub scopes : n ≡ length (scopes_of bytes)

-- whether the records are sound
abbrev pub scanned_by : Result ℕ Fault → Option Fault
scanned_by (Err f) = Some f
scanned_by (Ok n) = None

-- an answer, and of sound records the index
pub record Recorded (bytes index : List ℕ) (r : Result ℕ Fault) : Type 0 where
  pub answer : scanned_by r ≡ scan (records bytes)
  pub laid : (n : ℕ) → r ≡ Ok n → Filled bytes index n
