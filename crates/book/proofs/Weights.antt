-- Weights of scopes.
--     weight_sum              "Weight: 1 plus the weights of the sub-scopes called": where the blocks hold all scopes and no number dangles
--     called_before           the block of a sub-scope that is called stands before the caller's
--     weight_exceeded_one, weight-exceeded-none     whether a weight is above 4,096
-- Assumes nothing.
use Prim.Native.Nat.{ℕ, zero, suc, ◌<◌, ◌≤◌, ◌+◌, ◌-◌}
use mathlib.Core.Path.{◌≡◌, refl, sym, ap, ◌∙◌}
use mathlib.Core.Bool.{Bool, true, false, cond, ◌||◌, or-true, true≢false}
use mathlib.Core.List.{List, [], ◌∷◌, reverse, reverse-append}
use mathlib.Core.Logic.{⊎_elim}
use native.Mathlib.Omega.{arith}
use lib.ListN.{length, get_or, take}
use lib.Seq.{take-suc, take_all}
use lib.Dec.{eqb, ltb}
use borrow.Author.Tests.{eqb-true, eq-eqb, lt-ltb, le-ltb}
use Rattle.order.specs.Order.{among}
use Rattle.order.proofs.Among.{among_snoc, among_place}
use Rattle.order.proofs.Order.{order_no_repeats, order_after_dependencies, order_all}
use Rattle.book.specs.Syntax.{Scope, empty_scope}
use Rattle.book.specs.References.{scope_at, dangles_in, dangles}
use Rattle.book.specs.Scopes.{calls, blocks, sum, weight_in, weight, weight_exceeded}
use Rattle.laws.proofs.Booleans.{decide}
use Rattle.book.proofs.Searches.{any_false, any_from_at, any_from_none}
use Rattle.book.proofs.Naming.{named_sub_scopes}
use Rattle.book.proofs.Sums.{sum_same}

-- The order of all blocks

-- a number that a sub-scope has is that of a scope
names_scope : (book : List Scope) → dangles book ≡ false → (i j : ℕ) → i < length book → calls book i j ≡ true → j < length book
unfolding dangles calls
names_scope book sound i j l m =
    let s = scope_at book i in
    let r = among_place s.sub_scopes j m in
    rw (← r.2) (named_sub_scopes book s (any_false (dangles_in book) book sound i l empty_scope) r.0 r.1)

module _ (book : List Scope) (whole : length (blocks book) ≡ length book) where
  pub block_bound : (k : ℕ) → k < length book → get_or (blocks book) k 0 < length book
  unfolding blocks
  block_bound k l = (order_no_repeats (calls book) (length book) k (omega arith)).0

  pub new_block : (k : ℕ) → k < length book → among (take k (blocks book)) (get_or (blocks book) k 0) ≡ false
  unfolding blocks
  new_block k l = (order_no_repeats (calls book) (length book) k (omega arith)).1

  pub every_block : (i : ℕ) → i < length book → among (blocks book) i ≡ true
  unfolding blocks
  every_block i l = (order_all (calls book) (length book)).0 whole i l

  pub block_snoc : (k : ℕ) → k < length book → (j : ℕ)
      → among (take (suc k) (blocks book)) j ≡ (among (take k (blocks book)) j || eqb j (get_or (blocks book) k 0))
  block_snoc k l j = rw (take-suc (blocks book) k 0 (omega arith)) (among_snoc (take k (blocks book)) (get_or (blocks book) k 0) j)

  pub called_before : dangles book ≡ false → (k : ℕ) → k < length book → (j : ℕ) → among (scope_at book (get_or (blocks book) k 0)).sub_scopes j ≡ true
      → among (take k (blocks book)) j ≡ true
  unfolding blocks calls
  called_before sound k l j m =
      order_after_dependencies (calls book) (length book) k (omega arith) j
      (names_scope book sound (get_or (blocks book) k 0) j (block_bound k l) m)
      m

  -- the weights once the first k blocks are there
  after : ℕ → ℕ → ℕ
  after k = weight_in book (reverse (take k (blocks book)))

  after_more : (k : ℕ) → k < length book → (i : ℕ)
      → after (suc k) i ≡ cond (eqb (get_or (blocks book) k 0) i) (suc (sum (after k) (scope_at book i).sub_scopes)) (after k i)
  unfolding after weight_in
  after_more k l i =
      ap (λ (bs : List ℕ). weight_in book bs i)
      (ap reverse (take-suc (blocks book) k 0 (omega arith)) ∙ reverse-append (take k (blocks book)) (get_or (blocks book) k 0 ∷ []))

  -- a scope's weight stays what it is once its block is there
  after_same : (k d i : ℕ) → k + d ≤ length book → among (take k (blocks book)) i ≡ true
      → (after (k + d) i ≡ after k i) × (among (take (k + d) (blocks book)) i ≡ true)
  after_same k zero i l m = let e : k + 0 ≡ k = omega arith in rw e (refl, m)
  after_same k (suc d) i l m =
      let e : k + suc d ≡ suc (k + d) = omega arith in
      let n = k + d in
      let r = after_same k d i (omega arith) m in
      let x = get_or (blocks book) n 0 in
      let other : eqb x i ≡ false =
      ⊎_elim
      (λ (q : eqb x i ≡ true).
      absurd (true≢false (sym r.1 ∙ ap (among (take n (blocks book))) (sym (eqb-true x i q)) ∙ new_block n (omega arith))))
      (λ (q : eqb x i ≡ false). q)
      (decide (eqb x i)) in
      rw e (
        (rw other at (after_more n (omega arith) i)) ∙ r.0,
        block_snoc n (omega arith) i ∙ ap (λ (t : Bool). t || eqb i x) r.1,
      )

  last : (i : ℕ) → after (length book) i ≡ weight book i
  unfolding after weight
  last i = rw (take_all (length book) (blocks book) (omega arith))

  settled : (k i : ℕ) → k ≤ length book → among (take k (blocks book)) i ≡ true → after k i ≡ weight book i
  settled k i l m =
      let e : k + (length book - k) ≡ length book = omega arith in
      sym (after_same k (length book - k) i (omega arith) m).0 ∙ ap (λ (n : ℕ). after n i) e ∙ last i

  pub weight_sum : dangles book ≡ false → (i : ℕ) → i < length book → weight book i ≡ suc (sum (weight book) (scope_at book i).sub_scopes)
  weight_sum sound i l =
      let p = among_place (blocks book) i (every_block i l) in
      let k = p.0 in
      let few : k < length book = omega arith in
      let is : eqb (get_or (blocks book) k 0) i ≡ true = eq-eqb (get_or (blocks book) k 0) i p.2 in
      let there : among (take (suc k) (blocks book)) i ≡ true =
      block_snoc k few i
      ∙ ap (λ (t : Bool). among (take k (blocks book)) i || t) (eq-eqb i (get_or (blocks book) k 0) (sym p.2))
      ∙ or-true (among (take k (blocks book)) i) in
      sym (settled (suc k) i (omega arith) there)
      ∙ (rw is at (after_more k few i))
      ∙ ap suc
      (sum_same (after k) (weight book) (scope_at book i).sub_scopes
      (λ j m. settled k j (omega arith) (called_before sound k few j (rw p.2 m))))

-- Weights above 4,096

pub weight_exceeded_one : (book : List Scope) (i : ℕ) → i < length book → 4096 < weight book i → weight_exceeded book ≡ true
unfolding weight_exceeded
weight_exceeded_one book i l h =
    let z : 0 + i ≡ i = omega arith in
    any_from_at (λ j s. ltb 4096 (weight book j)) 0 book i l empty_scope (rw z (lt-ltb 4096 (weight book i) h))

pub weight_exceeded_none : (book : List Scope) → ((i : ℕ) → i < length book → weight book i ≤ 4096) → weight_exceeded book ≡ false
unfolding weight_exceeded
weight_exceeded_none book small =
    any_from_none (λ j s. ltb 4096 (weight book j)) 0 book empty_scope
    (λ i l. let z : 0 + i ≡ i = omega arith in rw z (le-ltb 4096 (weight book i) (small i l)))
