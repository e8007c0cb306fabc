-- A graph's dependencies as bytes: for each of 40 vertices a row of 40, a byte for each vertex that it may depend on; behind the rows, for
-- each vertex, a byte that says from which vertex on its row is read.
use Rattle.std.specs.Prelude.{ℕ, ◌+◌, ◌*◌, Bool, not, ◌&&◌, List, get_or, eqb, leb}

-- the byte at i is not 0; past the end it counts as 0
unfoldable pub marked : List ℕ → ℕ → Bool
marked bytes i = not (eqb (get_or bytes i 0) 0)

-- in row v the byte of w is 0
unfoldable pub linked : List ℕ → ℕ → ℕ → Bool
linked deps v w = eqb (get_or deps (v * 40 + w) 0) 0

-- v depends on w: in row v, which is read from w or a lower vertex on, the byte of w is 0
unfoldable pub edge_of : List ℕ → ℕ → ℕ → Bool
edge_of deps v w = linked deps v w && leb (get_or deps (1600 + v) 0) w
