-- Bytes written from the end of the code to its beginning: what stands behind an instruction is there before it, so every distance is known.
-- A position counts the bytes behind it. Where the memory is too short nothing is written past its beginning, and the positions are the same:
-- so that the length is found whatever the memory holds.
use Rattle.std.specs.Prelude.{ℕ, zero, suc, ◌+◌, ◌-◌, ◌<◌, ◌≤◌, ◌≡◌, List, ◌∷◌, length, drop}
use Rattle.calculus.specs.Terms.{Term}
use Rattle.translation.specs.Code.{far, size, code}

-- the last n bytes
unfoldable pub back : ℕ → List ℕ → List ℕ
back n s = drop (length s - n) s

-- n bytes were put in front of the last `at`: bytes k is what they make of the bytes k behind them
pub record Emits (before : List ℕ) (at : ℕ) (bytes : List ℕ → List ℕ) (n end : ℕ) (after : List ℕ) : Type 0 where
  pub next : end ≡ at + n
  pub same : length after ≡ length before
  pub memory : end ≤ length before → back end after ≡ bytes (back at before)

-- the code of a term
abbrev pub Emitted : List ℕ → ℕ → Term → ℕ → List ℕ → Type 0
Emitted before at t end after = Emits before at (code t) (size t) end after

-- positions stay below 2^32
abbrev pub Room : ℕ → ℕ → Type 0
Room at n = at + n < 4294967296

abbrev pub one : ℕ → List ℕ → List ℕ
one a = λ k. a ∷ k

abbrev pub two : ℕ → ℕ → List ℕ → List ℕ
two a b = λ k. a ∷ b ∷ k

unfoldable pub jump : ℕ → ℕ → List ℕ → List ℕ
jump kind d k = far kind d k

-- m pieces from number v on, each in front of the later ones
unfoldable pub each : (ℕ → List ℕ → List ℕ) → ℕ → ℕ → List ℕ → List ℕ
each piece v zero k = k
each piece v (suc m) k = piece v (each piece (suc v) m k)

unfoldable pub total : (ℕ → ℕ) → ℕ → ℕ → ℕ
total n v zero = 0
total n v (suc m) = n v + total n (suc v) m
