-- The index of a book: how many records of each sort each scope has, and where each of them begins.
use Rattle.std.specs.Prelude.{ℕ, ◌+◌, ◌*◌, ◌<◌, ◌≤◌, ◌≡◌, cond, ◌&&◌, List, length, get_or, ltb}
use Rattle.book.specs.Decode.{scopes_of}
use Rattle.book.specs.References.{scope_at}
use Rattle.book.specs.Limits.{Within}
use Rattle.book.specs.Positions.{variable_from, sub_scope_from, node_from, clause_from, node_length, Found}

-- where column k of scope i stands. The columns 0 to 3 are the counts of variables, sub-scopes, nodes and clauses, and those of 32 scopes stand
-- first. Then each scope has a row of the others, 418 positions: of at most 32 variables (from column 4 on), 8 sub-scopes (36), 250 nodes (44)
-- and 128 clauses (294)
unfoldable pub cell_of : ℕ → ℕ → ℕ
cell_of i k = cond (ltb k 4) (i * 4 + k) (124 + i * 418 + k)

unfoldable pub index_at : List ℕ → ℕ → ℕ → ℕ
index_at index i k = cond (ltb i 32 && ltb k 422) (get_or index (cell_of i k) 0) 0

-- the records of one sort of scope i, whose positions begin in a column
abbrev pub Placed : {A : Type 0} → (List ℕ → ℕ → A) → (ℕ → ℕ) → List ℕ → List ℕ → ℕ → ℕ → List A → Type 0
Placed {A} from long bytes index i base xs =
    (n : ℕ) (d : A) → n < length xs → (base + n < 422) × Found from long bytes (index_at index i (base + n)) (get_or xs n d)

-- the index is that of a book within the limits, and has a row for each of its scopes
pub record Laid (bytes index : List ℕ) : Type 0 where
  pub rows : 128 + length (scopes_of bytes) * 418 ≤ length index
  pub within : Within (scopes_of bytes)
  pub variable_count : (i : ℕ) → index_at index i 0 ≡ length (scope_at (scopes_of bytes) i).variables
  pub sub_scope_count : (i : ℕ) → index_at index i 1 ≡ length (scope_at (scopes_of bytes) i).sub_scopes
  pub node_count : (i : ℕ) → index_at index i 2 ≡ length (scope_at (scopes_of bytes) i).nodes
  pub clause_count : (i : ℕ) → index_at index i 3 ≡ length (scope_at (scopes_of bytes) i).clauses
  pub variables : (i : ℕ) → Placed variable_from (λ k. 1) bytes index i 4 (scope_at (scopes_of bytes) i).variables
  pub sub_scopes : (i : ℕ) → Placed sub_scope_from (λ k. 1) bytes index i 36 (scope_at (scopes_of bytes) i).sub_scopes
  pub nodes : (i : ℕ) → Placed node_from node_length bytes index i 44 (scope_at (scopes_of bytes) i).nodes
  pub clauses : (i : ℕ) → Placed clause_from (λ k. 5) bytes index i 294 (scope_at (scopes_of bytes) i).clauses
