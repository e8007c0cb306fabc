-- The numbers that stand in a list.
--     among_append   what is in two lists
--     among_snoc     what is in a list with one more number
--     among_at       each number of a list is in it
--     among_place    what is in a list stands at some place
--     among_first    what is in a list is its first number or in the rest
--     among_none     nothing is in the empty list
-- Assumes nothing.
use Prim.Native.Nat.{ℕ, zero, suc, ◌<◌}
use mathlib.Core.Path.{◌≡◌, refl, sym, ◌∙◌}
use mathlib.Core.Bool.{true, ◌||◌, false≢true, or-true, or-false}
use mathlib.Core.List.{List, [], ◌∷◌, ◌++◌}
use mathlib.Core.Logic.{◌⊎◌, inl, inr, ⊎_elim}
use native.Mathlib.Omega.{arith}
use lib.ListN.{length, get_or}
use lib.Dec.{eqb}
use borrow.Author.Tests.{eq-eqb, eqb-true}
use Rattle.order.specs.Order.{among}
use Rattle.laws.proofs.Booleans.{decide, or_cases}

pub among_append : (xs ys : List ℕ) (v : ℕ) → among (xs ++ ys) v ≡ (among xs v || among ys v)
unfolding among
among_append [] ys v = refl
among_append (x ∷ xs) ys v = ⊎_elim (λ e. rw e) (λ e. rw e (among_append xs ys v)) (decide (eqb v x))

pub among_snoc : (xs : List ℕ) (v w : ℕ) → among (xs ++ (v ∷ [])) w ≡ (among xs w || eqb w v)
unfolding among
among_snoc xs v w = among_append xs (v ∷ []) w ∙ rw (or-false (eqb w v))

pub among_none : {A : Type 0} (v : ℕ) → among [] v ≡ true → A
unfolding among
among_none v e = absurd (false≢true e)

pub among_at : (xs : List ℕ) (i : ℕ) → i < length xs → among xs (get_or xs i 0) ≡ true
unfolding among
among_at [] i h = absurd (omega arith)
among_at (x ∷ xs) zero h = rw (eq-eqb x x refl)
among_at (x ∷ xs) (suc i) h = rw (among_at xs i (omega arith)) (or-true (eqb (get_or xs i 0) x))

pub among_first : (x : ℕ) (xs : List ℕ) (v : ℕ) → among (x ∷ xs) v ≡ true → (v ≡ x) ⊎ (among xs v ≡ true)
unfolding among
among_first x xs v e = ⊎_elim (λ h. inl (eqb-true v x h)) (λ h. inr h) (or_cases (eqb v x) (among xs v) e)

pub among_place : (xs : List ℕ) (v : ℕ) → among xs v ≡ true → (i : ℕ) × (i < length xs) × (get_or xs i 0 ≡ v)
unfolding among
among_place [] v e = absurd (false≢true e)
among_place (x ∷ xs) v e =
    ⊎_elim
    (λ h. (0, omega arith, sym h))
    (λ h. let r = among_place xs v h in (suc r.0, omega (arith, r.1), r.2))
    (among_first x xs v e)
