-- What the directory holds of accepted code.
use Rattle.std.specs.Prelude.{ℕ, suc, ◌+◌, ◌-◌, ◌*◌, ◌<◌, ◌≤◌, ◌≡◌, List, length, get_or}
use Rattle.machine.specs.Blocks.{Block, empty_block, parse}
use Rattle.directory.specs.Layout.{place_in, begin_in, end_in, body_in, sub_scopes_in, block_in, Declares}

-- block p of the code
unfoldable pub block_at : List ℕ → ℕ → Block
block_at code p = get_or (parse code 0).blocks p empty_block

unfoldable pub block_count : List ℕ → ℕ
block_count code = length (parse code 0).blocks

-- the row of block p is that block's
pub record Entered (code directory : List ℕ) (p : ℕ) : Type 0 where
  pub ordered : begin_in directory p ≤ end_in directory p
  pub inside : end_in directory p ≤ length code
  pub body : body_in code directory p ≡ (block_at code p).body
  pub declares : Declares directory p (block_at code p).variables
  pub sub_scopes : sub_scopes_in directory p ≡ length (block_at code p).sub_scopes
  pub earlier : (k : ℕ) → k < length (block_at code p).sub_scopes → block_in directory p k < p
  pub subs : (k : ℕ) → k < length (block_at code p).sub_scopes
      → (block_at code (block_in directory p k)).scope ≡ get_or (block_at code p).sub_scopes k 0

-- the directory is that of the code
pub record Tabled (code directory : List ℕ) (count : ℕ) : Type 0 where
  pub number : count ≡ block_count code
  pub few : count ≤ 32
  pub blocks : (p : ℕ) → p < count → Entered code directory p
  pub found : (p : ℕ) → p < count → place_in directory (block_at code p).scope ≡ suc p
  pub present : (i : ℕ) → 0 < place_in directory i → (place_in directory i ≤ count) × ((block_at code (place_in directory i - 1)).scope ≡ i)

-- room for the places, and for a row for each block before the first of a scope above 31: with that one code is refused
pub record Room (code directory : List ℕ) : Type 0 where
  pub places : 32 ≤ length directory
  pub rows : (p : ℕ) → p < 32 → p < block_count code → ((q : ℕ) → q ≤ p → (block_at code q).scope < 32) → p * 45 + 77 ≤ length directory
