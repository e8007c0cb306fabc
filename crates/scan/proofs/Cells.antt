-- The columns of an index, and what storing a record does to them.
--     count_cell, place-cell      where a count and a position stand
--     column_zero                 an index that is still empty
--     stored_other                a column that is neither the record's own nor its sort's count
--     count_own, place-own        these two
-- Assumes nothing.
use Prim.Native.Nat.{ℕ, ◌+◌, ◌*◌, ◌≤◌, ◌<◌}
use mathlib.Core.Path.{◌≡◌, refl, ◌∙◌}
use mathlib.Core.Bool.{Bool, true, false, cond, ◌&&◌}
use mathlib.Core.List.{List}
use native.Mathlib.Omega.{arith}
use lib.ListN.{length, get_or, set, length-set}
use lib.Seq.{get_or-set_same, get_or-set_other}
use lib.Dec.{ltb}
use borrow.Author.Tests.{ltb-true, ltb-false, lt-ltb, le-ltb}
use Rattle.index.specs.Index.{cell_of, index_at}
use Rattle.book.proofs.Sorts.{Sort, number, base, limit, number_below, base_below, base_above}

module _ (i k : ℕ) where
  pub count_cell : k < 4 → i * 4 + k ≡ cell_of i k
  unfolding cell_of
  count_cell h = rw (lt-ltb k 4 h)

  pub place_cell : 4 ≤ k → 124 + i * 418 + k ≡ cell_of i k
  unfolding cell_of
  place_cell h = rw (le-ltb k 4 h)

-- no two columns are at one place
apart : (i k i' k' : ℕ) → i < 32 → k < 422 → i' < 32 → k' < 422 → cell_of i k ≡ cell_of i' k' → (i ≡ i') × (k ≡ k')
unfolding cell_of
apart i k i' k' a b a' b' = go (ltb k 4) (ltb k' 4) refl refl
  where
    go : (c c' : Bool) → ltb k 4 ≡ c → ltb k' 4 ≡ c' → cond c (i * 4 + k) (124 + i * 418 + k) ≡ cond c' (i' * 4 + k') (124 + i' * 418 + k') → (i ≡ i') × (k ≡ k')
    go true true q q' e = let l = ltb-true k 4 q in let l' = ltb-true k' 4 q' in (omega arith, omega arith)
    go true false q q' e = let l = ltb-true k 4 q in let l' = ltb-false k' 4 q' in absurd (omega arith)
    go false true q q' e = let l = ltb-false k 4 q in let l' = ltb-true k' 4 q' in absurd (omega arith)
    go false false q q' e = let l = ltb-false k 4 q in let l' = ltb-false k' 4 q' in (omega arith, omega arith)

module _ (xs : List ℕ) (i k v : ℕ) (row : i < 32) (inside : k < 422) where
  column_same : cell_of i k < length xs → index_at (set xs (cell_of i k) v) i k ≡ v
  unfolding index_at
  column_same h = rw (lt-ltb i 32 row, lt-ltb k 422 inside) (get_or-set_same xs (cell_of i k) v 0 h)

  column_other : (i' k' : ℕ) → (i' ≡ i → k' ≡ k → ⊥) → index_at (set xs (cell_of i k) v) i' k' ≡ index_at xs i' k'
  unfolding index_at
  column_other i' k' ne = go (ltb i' 32) (ltb k' 422) refl refl
    where
      go : (a b : Bool) → ltb i' 32 ≡ a → ltb k' 422 ≡ b → cond (a && b) (get_or (set xs (cell_of i k) v) (cell_of i' k') 0) 0 ≡ cond (a && b) (get_or xs (cell_of i' k') 0) 0
      go true true d e =
          get_or-set_other xs (cell_of i k) (cell_of i' k') v 0
          (λ q. let r = apart i' k' i k (ltb-true i' 32 d) (ltb-true k' 422 e) row inside q in ne r.0 r.1)
      go true false d e = refl
      go false b d e = refl

pub column_zero : (xs : List ℕ) → ((n : ℕ) → get_or xs n 0 ≡ 0) → (i k : ℕ) → index_at xs i k ≡ 0
unfolding index_at
column_zero xs zero i k = go (ltb i 32 && ltb k 422)
  where
    go : (b : Bool) → cond b (get_or xs (cell_of i k) 0) 0 ≡ 0
    go true = zero (cell_of i k)
    go false = refl

-- the index with one more record of a sort, the n-th of row i
abbrev pub with_record : List ℕ → ℕ → Sort → ℕ → ℕ → List ℕ
with_record xs i s n at = set (set xs (cell_of i (base s + n)) at) (cell_of i (number s)) (n + 1)

module _ (xs : List ℕ) (i : ℕ) (s : Sort) (n at : ℕ) (row : i < 32) (fits : n < limit s) where
  place_inside : base s + n < 422
  place_inside = let b = base_below s in omega arith

  count_inside : number s < 422
  count_inside = let b = number_below s in omega arith

  pub stored_other : (i' k : ℕ) → (i' ≡ i → k ≡ number s → ⊥) → (i' ≡ i → k ≡ base s + n → ⊥) → index_at (with_record xs i s n at) i' k ≡ index_at xs i' k
  stored_other i' k nc np =
      column_other (set xs (cell_of i (base s + n)) at) i (number s) (n + 1) row count_inside i' k nc
      ∙ column_other xs i (base s + n) at row place_inside i' k np

  pub count_own : 128 + (i * 418 + 418) ≤ length xs → index_at (with_record xs i s n at) i (number s) ≡ n + 1
  count_own l =
      let b = number_below s in
      let c = count_cell i (number s) (omega arith) in
      let e = length-set xs (cell_of i (base s + n)) at in
      column_same (set xs (cell_of i (base s + n)) at) i (number s) (n + 1) row count_inside (omega arith)

  pub place_own : 128 + (i * 418 + 418) ≤ length xs → index_at (with_record xs i s n at) i (base s + n) ≡ at
  place_own l =
      let b = number_below s in
      let a = base_above s in
      let h = place_inside in
      let c = place_cell i (base s + n) (omega arith) in
      column_other (set xs (cell_of i (base s + n)) at) i (number s) (n + 1) row count_inside i (base s + n) (λ _ q. absurd (omega arith))
      ∙ column_same xs i (base s + n) at row place_inside (omega arith)
