-- Booleans by cases.
--     decide      true or false
--     both        of a conjunction that holds, both parts hold
--     or_cases    of a disjunction that holds, one part holds
--     neither     of a disjunction that fails, both parts fail
--     both-ways   two that lead to each other are equal
--     untrue      what is not true is false
--     eqb_swap    a test of equality, turned round
-- Assumes nothing.
use mathlib.Core.Path.{◌≡◌, refl, sym}
use mathlib.Core.Bool.{Bool, true, false, ◌&&◌, ◌||◌, false≢true}
use mathlib.Core.Logic.{◌⊎◌, inl, inr, ⊎_elim}
use Prim.Native.Nat.{ℕ}
use lib.Dec.{eqb}
use borrow.Author.Tests.{eqb-true, eqb-false, eq-eqb, ne_eqb}

pub decide : (a : Bool) → (a ≡ true) ⊎ (a ≡ false)
decide true = inl refl
decide false = inr refl

pub both : (a b : Bool) → (a && b) ≡ true → (a ≡ true) × (b ≡ true)
both true b e = (refl, e)
both false b e = absurd (false≢true e)

pub or_cases : (a b : Bool) → (a || b) ≡ true → (a ≡ true) ⊎ (b ≡ true)
or_cases true b e = inl e
or_cases false b e = inr e

pub neither : (a b : Bool) → (a || b) ≡ false → (a ≡ false) × (b ≡ false)
neither true b e = absurd (false≢true (sym e))
neither false b e = (refl, e)

pub both_ways : (a b : Bool) → (a ≡ true → b ≡ true) → (b ≡ true → a ≡ true) → a ≡ b
both_ways true b f g = sym (f refl)
both_ways false true f g = g refl
both_ways false false f g = refl

pub untrue : (a : Bool) → (a ≡ true → ⊥) → a ≡ false
untrue true f = absurd (f refl)
untrue false f = refl

pub eqb_swap : (a b : ℕ) → eqb a b ≡ eqb b a
eqb_swap a b =
    ⊎_elim
    (λ (q : eqb a b ≡ true). rw q (sym (eq-eqb b a (sym (eqb-true a b q)))))
    (λ (q : eqb a b ≡ false). rw q (sym (ne_eqb b a (λ e. eqb-false a b q (sym e)))))
    (decide (eqb a b))
