-- Numbers of several bytes, high byte first, and bytes written into lent memory.
use Rattle.std.specs.Prelude.{ℕ, zero, suc, ◌+◌, ◌*◌, ◌/◌, ◌%◌, Bool, true, false, List, [], ◌∷◌, ◌++◌, length, get_or, take, drop, leb, ℤ}
use Rattle.std.specs.Int.{w32}
use Rattle.std.proofs.Common.{to_z, of_z}

-- the number of the n bytes from a position on, high byte first; a byte past the end is 0
unfoldable pub big_endian : ℕ → List ℕ → ℕ → ℕ
big_endian zero s at = 0
big_endian (suc n) s at = big_endian n s at * 256 + get_or s (at + n) 0

-- a number's n low bytes, high byte first
unfoldable pub bytes_of : ℕ → ℕ → List ℕ
bytes_of zero u = []
bytes_of (suc n) u = bytes_of n (u / 256) ++ (u % 256 ∷ [])

-- "4 bytes, signed, two's complement, high byte first"
unfoldable pub number_at : List ℕ → ℕ → ℤ
number_at s at = to_z w32 (big_endian 4 s at)

unfoldable pub number_bytes : ℤ → List ℕ
number_bytes z = bytes_of 4 (of_z w32 z)

abbrev pub pick_list : Bool → List ℕ → List ℕ → List ℕ
pick_list true a b = a
pick_list false a b = b

-- bytes written from a position on, all other bytes as before; where they do not fit, nothing is written
unfoldable pub overwrite : List ℕ → ℕ → List ℕ → List ℕ
overwrite s at bs = pick_list (leb (at + length bs) (length s)) (take at s ++ bs ++ drop (at + length bs) s) s
