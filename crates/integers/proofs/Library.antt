-- Numbers of two and four bytes as the library has them.
--     two, four     the number of the first bytes
--     four_bytes    the bytes of a number
-- Assumes nothing.
use Prim.Native.Nat.{ℕ}
use mathlib.Core.Path.{◌≡◌}
use mathlib.Core.List.{List, [], ◌∷◌}
use native.Mathlib.Omega.{arith}
use lib.ListN.{get_or}
use Rattle.std.specs.Int.{w16, w32, from_be_bytes, to_be_bytes}
use Rattle.slices.specs.Bytes.{big_endian, bytes_of}

pub two : (s : List ℕ) → from_be_bytes w16 (get_or s 0 0 ∷ get_or s 1 0 ∷ []) ≡ big_endian 2 s 0
unfolding big_endian
two s = omega arith

pub four : (s : List ℕ) → from_be_bytes w32 (get_or s 0 0 ∷ get_or s 1 0 ∷ get_or s 2 0 ∷ get_or s 3 0 ∷ []) ≡ big_endian 4 s 0
unfolding big_endian
four s = omega arith

byte : (a b : ℕ) (xs ys : List ℕ) → a ≡ b → xs ≡ ys → a ∷ xs ≡ b ∷ ys
byte a b xs ys p q = λ i. p i ∷ q i

pub four_bytes : (u : ℕ) → to_be_bytes w32 u ≡ bytes_of 4 u
unfolding bytes_of
four_bytes u = byte _ _ _ _ (omega arith) (byte _ _ _ _ (omega arith) (byte _ _ _ _ (omega arith) (byte _ _ _ _ (omega arith) (λ i. []))))
