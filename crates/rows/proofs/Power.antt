-- Powers of two.
--     doubled              one variable more doubles a table's length
--     start, turn, stop    doubling: at first, one variable more, behind the last
--     few                  12 variables at most make a short table
-- Assumes nothing.
use Prim.Native.Nat.{ℕ, zero, suc, ◌+◌, ◌-◌, ◌*◌, ◌<◌, ◌≤◌}
use mathlib.Core.Path.{◌≡◌, sym, ap, ◌∙◌}
use native.Mathlib.Omega.{arith}
use native.Mathlib.Nat.{mul_assoc, mul-le-mul}
use native.Mathlib.Numerals.{add-one}
use Rattle.tabulation.specs.Assignments.{power}

pub doubled : (k s : ℕ) → power (suc k) * s ≡ 2 * (power k * s)
unfolding power
doubled k s = mul_assoc 2 (power k) s

grows : (k d : ℕ) → power k ≤ power (d + k)
unfolding power
grows k zero = let e : 0 + k ≡ k = omega arith in rw e (omega arith)
grows k (suc d) = let e : suc d + k ≡ suc (d + k) = omega arith in let g = grows k d in rw e (omega arith)

most : (k : ℕ) → k ≤ 12 → power k ≤ 4096
unfolding power
most k l = let e : (12 - k) + k ≡ 12 = omega arith in rw e at (grows k (12 - k))

-- the length of a table of j variables
pub record Doubling (k size length j : ℕ) : Type 0 where
  pub below : j ≤ k
  pub is : length ≡ power j * suc size

pub start : {k size : ℕ} → Doubling k size (size + 1) 0
unfolding power
start {k} {size} = record { below = omega arith; is = omega arith }

module _ {k size length j : ℕ} (d : Doubling k size length j) where
  pub few : k ≤ 12 → size ≤ 192 → length ≤ 4096 * 193
  few l m =
      let b = d.below in
      let n : suc size ≤ 193 = omega arith in
      let o : j ≤ 12 = omega arith in
      rw d.is (mul-le-mul (most j o) n)

  pub turn : j < k → Doubling k size (2 * length) (j + 1)
  turn l = record { below = omega arith; is = rw (add-one j, d.is) (sym (doubled j (suc size))) }

  pub stop : k ≤ j → length ≡ power k * suc size
  stop l = let b = d.below in let e : j ≡ k = omega arith in d.is ∙ ap (λ (n : ℕ). power n * suc size) e
