-- Weighing: the loop over a scope's sub-scopes, and the loop over the blocks.
--     sum_start, sum-turn, sum-end     the sum of the weights of the sub-scopes from the k-th on
--     Weighing                         what holds when the scopes of the first k blocks are weighed; first, weighed, and the two ways out,
--                                      heavy and all-weighed
-- Assumes nothing.
use Prim.Native.Nat.{ℕ, suc, ◌<◌, ◌≤◌, ◌+◌}
use mathlib.Core.Path.{◌≡◌, refl, sym, ap, ◌∙◌}
use mathlib.Core.Bool.{true, false, ◌||◌, or-false, true≢false, false≢true}
use mathlib.Core.List.{List}
use mathlib.Core.Logic.{⊎_elim}
use native.Mathlib.Omega.{arith}
use native.Mathlib.Numerals.{add-one}
use lib.ListN.{length, get_or, take, drop, set, length-set, drop_of_length-le}
use lib.Seq.{drop-cons, get_or-set_same, get_or-set_other, take_all}
use lib.Dec.{eqb}
use borrow.Author.Tests.{eqb-true, eqb-false}
use Rattle.order.specs.Order.{among}
use Rattle.book.specs.Syntax.{Scope}
use Rattle.book.specs.Decode.{scopes_of}
use Rattle.book.specs.References.{scope_at}
use Rattle.book.specs.Scopes.{blocks, sum, weight}
use Rattle.book.specs.Positions.{sub_scope_at}
use Rattle.steps.specs.Limits.{WholeOrder}
use Rattle.weights.specs.Weighing.{weight_by, Weighed}
use Rattle.laws.proofs.Booleans.{decide}
use Rattle.book.proofs.Sums.{sum_same}
use Rattle.book.proofs.Weights.{block_bound, every_block, block_snoc, called_before, weight_sum, weight_exceeded_one, weight_exceeded_none}

-- the weights of the sub-scopes from the k-th on, taken from a table
unfoldable pub sum_from : List Scope → ℕ → List ℕ → ℕ → ℕ
sum_from book i weights k = sum (λ j. get_or weights j 0) (drop k (scope_at book i).sub_scopes)

module _ (book : List Scope) (i : ℕ) (weights : List ℕ) where
  pub sum_start : 1 + sum_from book i weights 0 ≡ weight_by weights (scope_at book i)
  unfolding sum_from weight_by
  sum_start = omega arith

  pub sum_turn : (total k j w : ℕ) → k < length (scope_at book i).sub_scopes → j ≡ sub_scope_at book i k → w ≡ get_or weights j 0
      → total + w + sum_from book i weights (k + 1) ≡ total + sum_from book i weights k
  unfolding sum_from sum sub_scope_at
  sum_turn total k j w l ej ew =
      rw (drop-cons (scope_at book i).sub_scopes k 0 l, add-one k, ew, ej) (omega arith)

  pub sum_end : (total k : ℕ) → length (scope_at book i).sub_scopes ≤ k
      → total + sum_from book i weights k ≡ weight_by weights (scope_at book i) → total ≡ weight_by weights (scope_at book i)
  unfolding sum_from sum
  sum_end total k l e =
      let e' : total + 0 ≡ weight_by weights (scope_at book i) = rw (drop_of_length-le (scope_at book i).sub_scopes l) at e in
      omega arith

pub record Weighing (book : List Scope) (from weights : List ℕ) (k : ℕ) : Type 0 where
  pub at : k ≤ length book
  pub long : length weights ≡ length from
  pub done : (j : ℕ) → among (take k (blocks book)) j ≡ true → (get_or weights j 0 ≡ weight book j) × (weight book j ≤ 4096)

pub first : (book : List Scope) (from : List ℕ) → Weighing book from from 0
unfolding among
first book from = record { at = omega arith; long = refl; done = λ j m. absurd (false≢true m) }

module _ (bytes order from : List ℕ) (n : ℕ) (count : n ≡ length (scopes_of bytes)) (blocked : WholeOrder bytes order n) where
  -- the blocks of an order of all of them
  abbrev rows : List ℕ
  rows = take n order

  abbrev book : List Scope
  book = scopes_of bytes

  whole : length (blocks book) ≡ length book
  whole = blocked.all ∙ count

  rows_all : length rows ≡ n
  rows_all = ap length blocked.is ∙ blocked.all

  module _ (weights : List ℕ) (k : ℕ) (g : Weighing book from weights k) where
    pub all_weighed : length rows ≤ k → Weighed book false weights
    all_weighed l =
        let at = g.at in
        let all = rows_all in
        let every : take k (blocks book) ≡ blocks book = take_all k (blocks book) (omega (arith, whole)) in
        let each : (i : ℕ) → i < length book → (get_or weights i 0 ≡ weight book i) × (weight book i ≤ 4096) =
        λ i h. g.done i (rw every (every_block book whole i h)) in
        record {
          over = sym (weight_exceeded_none book (λ i h. (each i h).1));
          each = λ e i h. (each i h).0;
        }

    module _ (l : k < length rows) (i : ℕ) (ei : i ≡ get_or rows k 0) where
      is_block : i ≡ get_or (blocks book) k 0
      is_block = ei ∙ ap (λ (xs : List ℕ). get_or xs k 0) blocked.is

      below : k < length book
      below = rw (blocked.is, whole) at l

      pub in_book : i < length book
      in_book = rw is_block (block_bound book whole k below)

      module _ (w : ℕ) (ew : w ≡ weight_by weights (scope_at book i)) where
        right : w ≡ weight book i
        unfolding weight_by
        right =
            ew
            ∙ ap suc
            (sum_same (λ j. get_or weights j 0) (weight book) (scope_at book i).sub_scopes
            (λ j m. (g.done j (called_before book whole blocked.sound k below j (rw is_block at m))).0))
            ∙ sym (weight_sum book whole blocked.sound i in_book)

        pub heavy : 4096 < w → Weighed book true weights
        heavy h =
            record {
              over = sym (weight_exceeded_one book i in_book (omega (arith, right)));
              each = λ e. absurd (true≢false e);
            }

        pub weighed : w ≤ 4096 → length book ≤ 32 → 32 ≤ length from → Weighing book from (set weights i w) (k + 1)
        weighed small few room =
            let long = g.long in
            let within = below in
            let all = whole in
            record {
              at = omega arith;
              long = length-set weights i w ∙ long;
              done =
                  λ j m.
                  let m' : (among (take k (blocks book)) j || eqb j i) ≡ true =
                  (rw is_block (sym (block_snoc book whole k below j))) ∙ (rw (add-one k) at m) in
                  ⊎_elim
                  (λ (q : eqb j i ≡ true).
                  let e : j ≡ i = eqb-true j i q in
                  rw e (get_or-set_same weights i w 0 (omega (arith, in_book)) ∙ right, omega (arith, right)))
                  (λ (q : eqb j i ≡ false).
                  let d = g.done j (sym (or-false (among (take k (blocks book)) j)) ∙ (rw q at m')) in
                  (get_or-set_other weights i j w 0 (eqb-false j i q) ∙ d.0, d.1))
                  (decide (eqb j i));
            }
