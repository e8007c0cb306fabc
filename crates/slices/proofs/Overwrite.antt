-- Laws of bytes written into lent memory.
--     stores        a run of stores where they fit
--     unfit         bytes that do not fit
--     length_same   the memory's length stays
--     written       the bytes stand where they were written
--     chain         two runs, one behind the other, are one
-- Assumes nothing.
use Prim.Native.Nat.{ℕ, suc, ◌+◌, ◌≤◌, ◌<◌}
use mathlib.Core.Path.{◌≡◌, refl, sym, ap, ◌∙◌}
use mathlib.Core.Bool.{Bool, true, false}
use mathlib.Core.List.{List, [], ◌∷◌, ◌++◌, append_assoc}
use native.Mathlib.Nat.{add-zero}
use native.Mathlib.Omega.{arith}
use lib.Dec.{leb}
use lib.ListN.{length, take, drop, set, length-append}
use lib.Seq.{sets, sets-eq, length-sets, length-take-le, drop_at, take-append_seam}
use borrow.Author.Tests.{le-leb, lt-leb, leb-true, leb-false}
use Rattle.slices.specs.Bytes.{overwrite}

module _ (s : List ℕ) (at : ℕ) (bs : List ℕ) where
  pub stores : at + length bs ≤ length s → sets s at bs ≡ overwrite s at bs
  unfolding overwrite
  stores h = rw (le-leb (at + length bs) (length s) h) (sets-eq bs s at h)

  pub unfit : length s < at + length bs → overwrite s at bs ≡ s
  unfolding overwrite
  unfit h = rw (lt-leb (at + length bs) (length s) h)

  pub length_same : length (overwrite s at bs) ≡ length s
  length_same = go (leb (at + length bs) (length s)) refl
    where
      go : (t : Bool) → leb (at + length bs) (length s) ≡ t → length (overwrite s at bs) ≡ length s
      go true e = ap length (sym (stores (leb-true (at + length bs) (length s) e))) ∙ length-sets s at bs
      go false e = ap length (unfit (leb-false (at + length bs) (length s) e))

  -- where the bytes fit: what stands before them, they themselves, what stands after them
  pub split : at + length bs ≤ length s → overwrite s at bs ≡ take at s ++ (bs ++ drop (at + length bs) s)
  unfolding overwrite
  split h = rw (le-leb (at + length bs) (length s) h) (append_assoc (take at s) bs (drop (at + length bs) s))

  pub written : at + length bs ≤ length s → take (length bs) (drop at (overwrite s at bs)) ≡ bs
  written h =
      rw (split h, drop_at (take at s) (bs ++ drop (at + length bs) s) at (length-take-le at s (omega arith)))
      (take-append_seam bs (drop (at + length bs) s))

sets_append : (s : List ℕ) (at : ℕ) (xs ys : List ℕ) → sets (sets s at xs) (at + length xs) ys ≡ sets s at (xs ++ ys)
sets_append s at [] ys = ap (λ (k : ℕ). sets s k ys) (add-zero at)
sets_append s at (x ∷ xs) ys =
    let e : at + suc (length xs) ≡ suc at + length xs = omega arith in
    ap (λ (k : ℕ). sets (sets (set s at x) (suc at) xs) k ys) e ∙ sets_append (set s at x) (suc at) xs ys

pub chain : (s : List ℕ) (at : ℕ) (xs ys : List ℕ) → at + length (xs ++ ys) ≤ length s
    → overwrite (overwrite s at xs) (at + length xs) ys ≡ overwrite s at (xs ++ ys)
chain s at xs ys h =
    let l = length-append xs ys in
    let a = length-sets s at xs in
    let p = stores s at xs (omega arith) in
    let q = stores (sets s at xs) (at + length xs) ys (omega arith) in
    rw (← p) (sym q ∙ sets_append s at xs ys ∙ stores s at (xs ++ ys) h)
