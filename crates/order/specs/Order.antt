-- The order in which the vertices of a graph are taken: "Among the steps not yet done, the ready step of lowest number is taken first";
-- "lowest number first among the possible".
-- A vertex is a number below n. `edge v w` says that v depends on w, `done v` that v has been taken.
use Rattle.std.specs.Prelude.{ℕ, zero, suc, Bool, false, not, cond, ◌&&◌, ◌||◌, List, [], ◌∷◌, ◌++◌, eqb, ltb}
use Rattle.order.specs.Search.{lowest, none}

-- v depends on w, and w is not done
unfoldable pub unmet : (ℕ → ℕ → Bool) → (ℕ → Bool) → ℕ → ℕ → Bool
unmet edge done v w = edge v w && not (done w)

-- v is not done, and all that it depends on is
unfoldable pub ready : (ℕ → ℕ → Bool) → ℕ → (ℕ → Bool) → ℕ → Bool
ready edge n done v = not (done v) && none (unmet edge done v) n

-- the ready vertex of lowest number; n where none is ready
unfoldable pub next : (ℕ → ℕ → Bool) → ℕ → (ℕ → Bool) → ℕ
next edge n done = lowest (ready edge n done) n

-- v is in a list
unfoldable pub among : List ℕ → ℕ → Bool
among [] v = false
among (x ∷ xs) v = eqb v x || among xs v

-- the vertices that the first k turns take: each turn the next one, where one is ready
unfoldable pub taken : (ℕ → ℕ → Bool) → ℕ → ℕ → List ℕ
taken edge n zero = []
taken edge n (suc k) =
    let before = taken edge n k in
    let v = next edge n (among before) in
    cond (ltb v n) (before ++ (v ∷ [])) before

-- the order: what n turns take; after them none is ready
unfoldable pub order : (ℕ → ℕ → Bool) → ℕ → List ℕ
order edge n = taken edge n n
