-- The lowest number that has a property.
use Rattle.std.specs.Prelude.{ℕ, zero, suc, Bool, cond, eqb}

-- the lowest of the m numbers from k on that has p; k + m where none has
unfoldable pub lowest_from : (ℕ → Bool) → ℕ → ℕ → ℕ
lowest_from p k zero = k
lowest_from p k (suc m) = cond (p k) k (lowest_from p (suc k) m)

-- the lowest number below n that has p; n where none has
unfoldable pub lowest : (ℕ → Bool) → ℕ → ℕ
lowest p n = lowest_from p 0 n

-- no number below n has p
unfoldable pub none : (ℕ → Bool) → ℕ → Bool
none p n = eqb (lowest p n) n
