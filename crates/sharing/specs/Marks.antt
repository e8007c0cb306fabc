-- Marks for the numbers that were named: a byte for each number, not 0 once it was named.
use Rattle.std.specs.Prelude.{ℕ, ◌<◌, ◌≡◌, Bool, ◌||◌, List, [], ◌∷◌, set}
use Rattle.order.specs.Matrix.{marked}

-- the marks once each number of a list is marked
unfoldable pub mark_all : List ℕ → List ℕ → List ℕ
mark_all [] marks = marks
mark_all (x ∷ xs) marks = mark_all xs (set marks x 1)

-- whether a number was met twice: so far, or in a list, where a number is marked already when its turn comes
unfoldable pub meets : List ℕ → List ℕ → Bool → Bool
meets [] marks twice = twice
meets (x ∷ xs) marks twice = meets xs (set marks x 1) (twice || marked marks x)

-- every number of a list is a byte
pub data Bytes : List ℕ → Type 0 where
  none : Bytes []
  also : {x : ℕ} {xs : List ℕ} → x < 256 → Bytes xs → Bytes (x ∷ xs)

-- the numbers of a list are marked: they are bytes, r says whether a number was met twice, and `after` is the marks afterwards
pub record Marking (names marks : List ℕ) (twice r : Bool) (after : List ℕ) : Type 0 where
  pub found : r ≡ meets names marks twice
  pub memory : after ≡ mark_all names marks
  pub bytes : Bytes names
