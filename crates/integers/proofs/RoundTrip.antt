-- The round trips: a number written and read again is the number; bytes read and written again are the bytes.
--     read_written, written_read     for every width
--     number_read, number-written    signed numbers of four bytes
-- Assumes nothing.
use Prim.Native.Nat.{ℕ, zero, suc, ◌+◌, ◌*◌, ◌/◌, ◌%◌, ◌≤◌, ◌<◌, ◌^◌}
use mathlib.Core.Path.{◌≡◌, refl, sym, ap, ◌∙◌}
use mathlib.Core.List.{List, [], ◌∷◌, ◌++◌}
use native.Mathlib.Omega.{arith}
use lib.ListN.{length, get_or, take, drop, length-drop}
use lib.Seq.{get_or_at, get_or-drop, take-suc}
use lib.IntN.{ℤ}
use mir.Syntax.{w32}
use mir.Val.{SFits, Fits, to_z, of_z}
use mir.Facts.{to_z-of_z, of_z-to_z, Fits-of_z}
use Rattle.slices.specs.Bytes.{big_endian, bytes_of, number_at, number_bytes, overwrite}
use Rattle.integers.proofs.Endian.{part, front, length_bytes}
use Rattle.slices.proofs.Overwrite.{written}

bytes_number : (n u : ℕ) → u < 256 ^ n → big_endian n (bytes_of n u) 0 ≡ u
unfolding big_endian bytes_of
bytes_number zero u h = omega arith
bytes_number (suc n) u h =
    let xs = bytes_of n (u / 256) in
    let l = length_bytes n (u / 256) in
    let e : 0 + n ≡ n = omega arith in
    let b : get_or (xs ++ (u % 256 ∷ [])) (0 + n) 0 ≡ u % 256 = ap (λ (i : ℕ). get_or (xs ++ (u % 256 ∷ [])) i 0) e ∙ get_or_at xs (u % 256) [] 0 n l in
    let r = bytes_number n (u / 256) (omega arith) in
    rw (front xs (u % 256 ∷ []) n (omega arith), b, r) (omega arith)

pub read_written : (n : ℕ) (s : List ℕ) (at u : ℕ) → at + n ≤ length s → u < 256 ^ n → big_endian n (overwrite s at (bytes_of n u)) at ≡ u
read_written n s at u h small =
    let l = length_bytes n u in
    let w : take n (drop at (overwrite s at (bytes_of n u))) ≡ bytes_of n u =
    ap (λ (k : ℕ). take k (drop at (overwrite s at (bytes_of n u)))) (sym l) ∙ written s at (bytes_of n u) (omega arith) in
    sym (part n (overwrite s at (bytes_of n u)) at) ∙ ap (λ (b : List ℕ). big_endian n b 0) w ∙ bytes_number n u small

pub written_read : (n : ℕ) (s : List ℕ) (at : ℕ) → at + n ≤ length s → ((i : ℕ) → get_or s i 0 < 256) → bytes_of n (big_endian n s at) ≡ take n (drop at s)
unfolding big_endian bytes_of
written_read zero s at h small = refl
written_read (suc n) s at h small =
    let a = big_endian n s at in
    let b = get_or s (at + n) 0 in
    let k = small (at + n) in
    let q : (a * 256 + b) / 256 ≡ a = omega arith in
    let r : (a * 256 + b) % 256 ≡ b = omega arith in
    let d = length-drop at s in
    let g = get_or-drop at s n 0 in
    rw (q, r, written_read n s at (omega arith) small, ← g) (sym (take-suc (drop at s) n 0 (omega arith)))

pub number_read : (s : List ℕ) (at : ℕ) (z : ℤ) → at + 4 ≤ length s → SFits w32 z → number_at (overwrite s at (number_bytes z)) at ≡ z
unfolding number_at number_bytes
number_read s at z h f = ap (to_z w32) (read_written 4 s at (of_z w32 z) h (Fits-of_z f).fits) ∙ to_z-of_z f

number_fits : (s : List ℕ) (at : ℕ) → ((i : ℕ) → get_or s i 0 < 256) → Fits w32 (big_endian 4 s at)
unfolding big_endian
number_fits s at small = record { fits = omega (arith, small (at + 0), small (at + 1), small (at + 2), small (at + 3)) }

pub number_written : (s : List ℕ) (at : ℕ) → at + 4 ≤ length s → ((i : ℕ) → get_or s i 0 < 256) → number_bytes (number_at s at) ≡ take 4 (drop at s)
unfolding number_at number_bytes
number_written s at h small = ap (bytes_of 4) (of_z-to_z (number_fits s at small)) ∙ written_read 4 s at h small
