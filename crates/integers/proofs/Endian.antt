-- Laws of numbers of several bytes, for every width.
--     part          the number of a part's bytes is that of the bytes where the part starts
--     length_bytes  n bytes are n
-- Assumes nothing.
use Prim.Native.Nat.{ℕ, zero, suc, ◌+◌, ◌/◌, ◌%◌, ◌≤◌}
use mathlib.Core.Path.{◌≡◌, refl, ap, ◌∙◌}
use mathlib.Core.List.{List, [], ◌∷◌, ◌++◌}
use native.Mathlib.Omega.{arith}
use lib.ListN.{length, get_or, take, drop, length-append, get_or-append}
use lib.Seq.{get_or-take, get_or-drop}
use Rattle.slices.specs.Bytes.{big_endian, bytes_of}

part_below : (n : ℕ) (s : List ℕ) (at k : ℕ) → k ≤ n → big_endian k (take n (drop at s)) 0 ≡ big_endian k s at
unfolding big_endian
part_below n s at zero h = refl
part_below n s at (suc k) h =
    let e : 0 + k ≡ k = omega arith in
    let b : get_or (take n (drop at s)) (0 + k) 0 ≡ get_or s (at + k) 0 =
    ap (λ (i : ℕ). get_or (take n (drop at s)) i 0) e ∙ get_or-take n (drop at s) k 0 (omega arith) ∙ get_or-drop at s k 0 in
    rw (b, part_below n s at k (omega arith))

pub part : (n : ℕ) (s : List ℕ) (at : ℕ) → big_endian n (take n (drop at s)) 0 ≡ big_endian n s at
part n s at = part_below n s at n (omega arith)

pub length_bytes : (n u : ℕ) → length (bytes_of n u) ≡ n
unfolding bytes_of
length_bytes zero u = refl
length_bytes (suc n) u =
    let l = length_bytes n (u / 256) in
    length-append (bytes_of n (u / 256)) (u % 256 ∷ []) ∙ omega arith

-- bytes after the n that are read do not count
pub front : (xs ys : List ℕ) (n : ℕ) → n ≤ length xs → big_endian n (xs ++ ys) 0 ≡ big_endian n xs 0
unfolding big_endian
front xs ys zero h = refl
front xs ys (suc n) h = rw (front xs ys n (omega arith), get_or-append xs ys 0 (0 + n) (omega arith))
