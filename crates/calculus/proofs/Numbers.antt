-- Whole numbers within their bounds. Assumes nothing.
use mathlib.Core.Path.{◌≡◌, refl}
use mathlib.Core.List.{List}
use mathlib.Core.Bool.{Bool, true, false, cond}
use Prim.Native.Nat.{ℕ, zero, suc, ◌+◌, ◌-◌, ◌<◌, ◌≤◌, ◌^◌}
use native.Mathlib.Omega.{arith}
use borrow.Author.Rules.{rules}
use borrow.Author.Tests.{ltb-true, ltb-false, eqb-true, eqb-false, eq-eqb, ne_eqb}
use lib.Dec.{ltb, eqb, lit<}
use lib.IntN.{ℤ, pos, negsuc, neg_ℤ, sub_ℕ, ◌+ℤ◌, ◌-ℤ◌}
use lib.Signed.{mag, lt_z}
use mir.Syntax.{w32, w64}
use mir.Val.{Val, SFits, of_z, to_z}
use mir.Facts.{to_z-of_z}
use denote.Enum.Declared.{row}
use denote.Laws.{Is}
use Rattle.std.specs.Prelude.{Result, Ok, Err}
use Rattle.calculus.specs.Values.{number_of, lowest, highest, ranged, equal_numbers}
use Rattle.calculus.specs.declared.Value.{Value}
use Rattle.calculus.specs.declared.Value.TheVariants.{Truth, Number}
use Rattle.answers.specs.declared.Side.TheVariants.{Above, Below}
use Rattle.answers.specs.declared.Cause.TheVariants.{OutOfRange}
use Rattle.calculus.specs.contracts.Value.{the_type}
use Rattle.answers.specs.declared.Cause.{Cause}

pub zero_fits : SFits w32 (pos 0)
zero_fits = record { sfits = lit< tt }

-- 32 bits hold the number of a value that a function holds
pub number_fits : (v : Value) {vs : List Val} → Is (row the_type) v vs → SFits w32 (number_of v)
number_fits (Truth b) h = zero_fits
number_fits (Number n) h = search rules

pub wide : {z : ℤ} → SFits w32 z → SFits w64 z
wide p = record { sfits = omega (arith, p.sfits) }

-- a number of 32 bits is the same on 64
pub kept : {r x : ℤ} → r ≡ x → SFits w32 x → to_z w64 (of_z w64 r) ≡ x
kept e p = rw e (to_z-of_z (wide p))

-- a sum and a difference of two such numbers fit 64 bits
subℕ_bound : (a b k : ℕ) → a ≤ k → b ≤ suc k → mag (sub_ℕ a b) ≤ k
subℕ_bound a b k p q = go (ltb a b) refl
  where
    go : (t : Bool) → ltb a b ≡ t → mag (cond t (negsuc (b - suc a)) (pos (a - b))) ≤ k
    go true e = omega (arith, ltb-true a b e)
    go false e = omega arith

sum_bound : (k : ℕ) (x y : ℤ) → mag x ≤ k → mag y ≤ k → mag (x +ℤ y) ≤ suc (k + k)
sum_bound k (pos a) (pos b) p q = omega arith
sum_bound k (pos a) (negsuc b) p q = subℕ_bound a (suc b) (suc (k + k)) (omega arith) (omega arith)
sum_bound k (negsuc a) (pos b) p q = subℕ_bound b (suc a) (suc (k + k)) (omega arith) (omega arith)
sum_bound k (negsuc a) (negsuc b) p q = omega arith

neg_bound : (k : ℕ) (x : ℤ) → mag x < k → mag (neg_ℤ x) ≤ k
neg_bound k (pos zero) p = omega arith
neg_bound k (pos (suc n)) p = omega arith
neg_bound k (negsuc n) p = omega arith

pub sum_fits : {x y : ℤ} → SFits w32 x → SFits w32 y → SFits w64 (x +ℤ y)
sum_fits {x} {y} p q =
    record { sfits = omega (arith, sum_bound 2147483648 x y (omega (arith, p.sfits)) (omega (arith, q.sfits))) }

pub difference_fits : {x y : ℤ} → SFits w32 x → SFits w32 y → SFits w64 (x -ℤ y)
difference_fits {x} {y} p q =
    record {
      sfits = omega (
        arith,
        sum_bound 2147483648 x (neg_ℤ y) (omega (arith, p.sfits)) (neg_bound 2147483648 y (omega (arith, q.sfits))),
      );
    }

-- `ranged`, by what its two tests said
abbrev pub ranged_by : Bool → Bool → ℤ → Result Value Cause
ranged_by low high z = cond low (Err (OutOfRange Below)) (cond high (Err (OutOfRange Above)) (Ok (Number z)))

-- what passes the two tests of the range fits 32 bits
pub within_range : (z : ℤ) → lt_z z lowest ≡ false → lt_z highest z ≡ false → SFits w32 z
within_range (pos n) e f = record { sfits = omega (arith, ltb-false 2147483647 n f) }
within_range (negsuc n) e f = record { sfits = omega (arith, ltb-false 2147483647 n e) }

-- both, with the tests as they are made on 64 bits
pub ranged_by_lem : (z : ℤ) {a b : Bool} → SFits w64 z → lt_z (to_z w64 (of_z w64 z)) lowest ≡ a → lt_z highest (to_z w64 (of_z w64 z)) ≡ b
    → ranged z ≡ ranged_by a b z
ranged_by_lem z {a} {b} p e f =
    let low : lt_z z lowest ≡ a = rw (to_z-of_z p) at e in
    let high : lt_z highest z ≡ b = rw (to_z-of_z p) at f in
    rw (low, high)

pub within_by : (z : ℤ) → SFits w64 z → lt_z (to_z w64 (of_z w64 z)) lowest ≡ false → lt_z highest (to_z w64 (of_z w64 z)) ≡ false → SFits w32 z
within_by z p e f = within_range z (rw (to_z-of_z p) at e) (rw (to_z-of_z p) at f)

-- two numbers are equal where their bits are
pub equal_bits : (x y : ℤ) → SFits w32 x → SFits w32 y → eqb (of_z w32 x) (of_z w32 y) ≡ equal_numbers x y
equal_bits (pos a) (pos b) p q = refl
equal_bits (pos a) (negsuc b) p q = ne_eqb a (2 ^ 32 - suc b) (λ e. omega (arith, p.sfits, q.sfits))
equal_bits (negsuc a) (pos b) p q = ne_eqb (2 ^ 32 - suc a) b (λ e. omega (arith, p.sfits, q.sfits))
equal_bits (negsuc a) (negsuc b) p q = go (eqb a b) refl
  where
    go : (t : Bool) → eqb a b ≡ t → eqb (2 ^ 32 - suc a) (2 ^ 32 - suc b) ≡ t
    go true e = eq-eqb (2 ^ 32 - suc a) (2 ^ 32 - suc b) (omega (arith, eqb-true a b e))
    go false e = ne_eqb (2 ^ 32 - suc a) (2 ^ 32 - suc b) (λ k. eqb-false a b e (omega (arith, p.sfits, q.sfits)))
