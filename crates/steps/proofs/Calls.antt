-- The calls between scopes, marked in a matrix.
--     calls_left, calls-start, calls-turn, calls-done     of one scope, from sub-scope k on
--     rows_left, rows_start, rows-turn, rows-done         of the scopes from i on
-- Assumes nothing.
use Prim.Native.Nat.{ℕ, ◌<◌, ◌≤◌, ◌+◌}
use mathlib.Core.Path.{◌≡◌, refl, sym, ap, ◌∙◌}
use mathlib.Core.Bool.{Bool, true, false, ◌&&◌, ◌||◌, and-false, or-false, and-or_distrib_left}
use mathlib.Core.List.{List, [], ◌∷◌}
use mathlib.Core.Logic.{⊎_elim}
use native.Mathlib.Omega.{arith}
use native.Mathlib.Nat.{eq-or-lt_of_le}
use lib.ListN.{length, drop, get_or-eq_default}
use lib.Dec.{eqb, leb}
use borrow.Author.Tests.{eq-eqb, ne_eqb, le-leb, lt-leb, leb-true, leb-false}
use Rattle.order.specs.Order.{among}
use Rattle.book.specs.Lists.{any}
use Rattle.book.specs.Syntax.{Scope, empty_scope}
use Rattle.book.specs.References.{scope_at}
use Rattle.book.specs.Scopes.{calls}
use Rattle.book.specs.Positions.{sub_scope_at}
use Rattle.steps.specs.Edges.{one_edge, call_edges, Marked}
use Rattle.laws.proofs.Booleans.{decide}
use Rattle.laws.proofs.Booleans.{eqb_swap}
use Rattle.steps.proofs.Marking.{Marking, any_edge, start, turn, done, list_turn, list_done}

each : (i : ℕ) (xs : List ℕ) (x y : ℕ) → any_edge (one_edge i) xs x y ≡ (eqb i x && among xs y)
unfolding any_edge any one_edge among
each i [] x y = sym (and-false (eqb i x))
each i (s ∷ ss) x y =
    ap (λ (t : Bool). eqb i x && eqb s y || t) (each i ss x y)
    ∙ sym (and-or_distrib_left (eqb i x) (eqb s y) (among ss y))
    ∙ ap (λ (t : Bool). eqb i x && (t || among ss y)) (eqb_swap s y)

-- the calls of scope i's sub-scopes from the k-th on
unfoldable pub calls_left : List Scope → ℕ → ℕ → ℕ → ℕ → Bool
calls_left book i k = any_edge (one_edge i) (drop k (scope_at book i).sub_scopes)

module _ (book : List Scope) (i : ℕ) (from : List ℕ) where
  pub calls_start : Marking from from (calls_left book i 0) (call_edges book i)
  unfolding calls_left call_edges calls
  calls_start = start from (calls_left book i 0) (call_edges book i) (λ x y l m. each i (scope_at book i).sub_scopes x y)

  module _ (to : List ℕ) (k : ℕ) (g : Marking from to (calls_left book i k) (call_edges book i)) where
    pub calls_turn : (next : List ℕ) (j : ℕ) → j ≡ sub_scope_at book i k → k < length (scope_at book i).sub_scopes → Marked to next (one_edge i j)
        → Marking from next (calls_left book i (k + 1)) (call_edges book i)
    unfolding calls_left sub_scope_at
    calls_turn next j e l h = list_turn (one_edge i) (scope_at book i).sub_scopes from to (call_edges book i) k g next 0 l (rw e at h)

    pub calls_done : length (scope_at book i).sub_scopes ≤ k → Marked from to (call_edges book i)
    unfolding calls_left
    calls_done l = list_done (one_edge i) (scope_at book i).sub_scopes from to (call_edges book i) k g l

-- the calls of the scopes from i on
unfoldable pub rows_left : List Scope → ℕ → ℕ → ℕ → Bool
rows_left book i x y = leb i x && calls book x y

rows_split : (book : List Scope) (i x y : ℕ) → rows_left book i x y ≡ (call_edges book i x y || rows_left book (i + 1) x y)
unfolding rows_left call_edges
rows_split book i x y =
    ⊎_elim
    (λ (q : leb i x ≡ true).
    let l = leb-true i x q in
    ⊎_elim
    (λ (e : i ≡ x). rw (q, e, eq-eqb x x refl, lt-leb (x + 1) x (omega arith)) (sym (or-false (calls book x y))))
    (λ (h : i < x). rw (q, ne_eqb i x (omega arith), le-leb (i + 1) x (omega arith)))
    (eq-or-lt_of_le l))
    (λ (q : leb i x ≡ false). let l = leb-false i x q in rw (q, ne_eqb i x (omega arith), lt-leb (i + 1) x (omega arith)))
    (decide (leb i x))

no_calls : (book : List Scope) (x y : ℕ) → length book ≤ x → calls book x y ≡ false
unfolding calls among
no_calls book x y l = rw (get_or-eq_default book empty_scope l)

rows_none : (book : List Scope) (i x y : ℕ) → length book ≤ i → rows_left book i x y ≡ false
unfolding rows_left
rows_none book i x y l =
    ⊎_elim
    (λ (q : leb i x ≡ true). let h = leb-true i x q in rw q (no_calls book x y (omega arith)))
    (λ (q : leb i x ≡ false). rw q)
    (decide (leb i x))

module _ (book : List Scope) (from : List ℕ) where
  pub rows_start : Marking from from (rows_left book 0) (calls book)
  unfolding rows_left
  rows_start = start from (rows_left book 0) (calls book) (λ x y l m. rw (le-leb 0 x (omega arith)))

  module _ (to : List ℕ) (i : ℕ) (g : Marking from to (rows_left book i) (calls book)) where
    pub rows_turn : (next : List ℕ) → Marked to next (call_edges book i) → Marking from next (rows_left book (i + 1)) (calls book)
    rows_turn next h =
        turn from (rows_left book i) (calls book) to next (call_edges book i) (rows_left book (i + 1)) g h (λ x y l m. rows_split book i x y)

    pub rows_done : length book ≤ i → Marked from to (calls book)
    rows_done l = done from (rows_left book i) (calls book) to g (λ x y a b. rows_none book i x y l)
