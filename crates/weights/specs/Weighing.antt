-- Weights in a table, and what filling it answers.
use Rattle.std.specs.Prelude.{ℕ, suc, ◌<◌, ◌≡◌, Bool, false, List, length, get_or}
use Rattle.book.specs.Syntax.{Scope}
use Rattle.book.specs.Scopes.{sum, weight, weight_exceeded}

-- "1 plus the weights of the sub-scopes called", these taken from a table
unfoldable pub weight_by : List ℕ → Scope → ℕ
weight_by weights s = suc (sum (λ j. get_or weights j 0) s.sub_scopes)

-- a number of a table, 0 past its end
pub record Weight (weights : List ℕ) (j r : ℕ) : Type 0 where
  pub is : r ≡ get_or weights j 0
  pub small : r < 65536

-- whether some weight is above 4,096; where none is, every scope's weight by its number
pub record Weighed (book : List Scope) (r : Bool) (weights : List ℕ) : Type 0 where
  pub over : r ≡ weight_exceeded book
  pub each : r ≡ false → (i : ℕ) → i < length book → get_or weights i 0 ≡ weight book i
