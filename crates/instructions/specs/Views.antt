-- What the machine's slices stand for: stack, open tries and memory. An entry has a cell for each of its 32 own variables, and a frame:
--   flags    for each of 32 own variables whether it was stored
--   marks    for each of 8 sub-scopes, from 32 on, whether it was entered
--   cells    from 40 on 32 for each sub-scope, of its variables
-- What a sub-scope works on as its own variables are its cells in the frame of the scope that enters it.
use Rattle.std.specs.Prelude.{ℕ, zero, suc, ◌+◌, ◌*◌, Bool, true, false, List, [], ◌∷◌, get_or, eqb, Option, None, Some}
use Rattle.calculus.specs.declared.Value.{Value}
use Rattle.calculus.specs.declared.Joined.{Joined}
use Rattle.cells.specs.Cells.{given_of, held}
use Rattle.cells.specs.Joining.{joined_of}
use Rattle.machine.specs.Machine.{Cell, unset, given, stored, Callee, waiting, entered, Memory, Try}

-- the entries below height h, the top first
unfoldable pub entries : List ℕ → ℕ → List Joined
entries st zero = []
entries st (suc h) = joined_of (get_or st h 0) ∷ entries st h

-- the t open tries, the latest first; each is two numbers
unfoldable pub opened : List ℕ → ℕ → List Try
opened tr zero = []
opened tr (suc t) = record { lands = get_or tr (t * 2) 0; height = get_or tr (t * 2 + 1) 0 } ∷ opened tr t

-- the list of f v, f (v + 1) and on, n of them
unfoldable pub tab : {A : Type 0} → (ℕ → A) → ℕ → ℕ → List A
tab f v zero = []
tab f v (suc n) = f v ∷ tab f (suc v) n

-- an own variable, from its cell and whether it was given
abbrev pub cell_with : Bool → Option Value → Cell
cell_with b None = unset
cell_with true (Some v) = given v
cell_with false (Some v) = stored v

-- own variable x
unfoldable pub own_cell : List ℕ → List ℕ → ℕ → Cell
own_cell own frame x = cell_with (eqb (get_or frame x 0) 0) (given_of (get_or own x 0))

-- what n cells from a place on hold, as what is given and as values
unfoldable pub givens_at : List ℕ → ℕ → ℕ → List (Option Value)
givens_at cells at n = tab (λ x. given_of (get_or cells (at + x) 0)) 0 n

unfoldable pub values_in : List ℕ → ℕ → ℕ → List Value
values_in cells at n = tab (λ x. held (given_of (get_or cells (at + x) 0))) 0 n

abbrev pub callee_with : Bool → List (Option Value) → List Value → Callee
callee_with true gs vs = waiting gs
callee_with false gs vs = entered vs

-- sub-scope k with n variables
unfoldable pub callee_at : List ℕ → ℕ → ℕ → Callee
callee_at frame n k = callee_with (eqb (get_or frame (32 + k) 0) 0) (givens_at frame (40 + k * 32) n) (values_in frame (40 + k * 32) n)

-- v own variables, s sub-scopes of so many variables each
unfoldable pub memory : ℕ → ℕ → (ℕ → ℕ) → List ℕ → List ℕ → ℕ → Memory
memory v s sizes own frame c =
    record { own = tab (own_cell own frame) 0 v; callees = tab (λ k. callee_at frame (sizes k) k) 0 s; count = c }
