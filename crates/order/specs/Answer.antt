-- What `fill_order` answers, and what the memory lent holds afterwards.
use Rattle.std.specs.Prelude.{ℕ, ◌≡◌, Bool, cond, ◌&&◌, List, ◌++◌, length, drop, leb, Option, Some, None}
use Rattle.order.specs.Order.{order}
use Rattle.order.specs.Matrix.{edge_of}

-- at most 40 vertices, a matrix of 40 rows with where each is read from, and a byte of the memory lent for each vertex
unfoldable pub fits : List ℕ → ℕ → List ℕ → Bool
fits deps n out = leb n 40 && leb 1640 (length deps) && leb n (length out)

-- how many vertices the order has, where they fit
unfoldable pub answer_of : List ℕ → ℕ → List ℕ → Option ℕ
answer_of deps n out = cond (fits deps n out) (Some (length (order (edge_of deps) n))) None

-- where they fit, the order's vertices from the first byte on, every later byte as it was; else every byte as it was
unfoldable pub memory_of : List ℕ → ℕ → List ℕ → List ℕ
memory_of deps n out = cond (fits deps n out) (order (edge_of deps) n ++ drop (length (order (edge_of deps) n)) out) out

-- r is the answer, and `filled` what `out` holds afterwards
pub record Filled (deps : List ℕ) (n : ℕ) (out : List ℕ) (r : Option ℕ) (filled : List ℕ) : Type 0 where
  pub answer : r ≡ answer_of deps n out
  pub memory : filled ≡ memory_of deps n out
