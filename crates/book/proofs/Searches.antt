-- Searches through lists.
--     any_from_true, any-true      where the search holds, some element has it
--     any_from_false, any_false    where it does not, each element lacks it
--     any_from_at, any_at          an element that has it makes the search hold
--     any_from_none, any_none      where each element lacks it, the search does not hold
--     each_from, each             where no element lacks it, each has it
--     any_from_lem                    a search that does not look at the number
--     any_default                 where the search does not hold, what `get_or` gives lacks it if the default does
--     any_append                  a search through two lists
--     any_same                    two searches that find the same of each element
--     Sought                      the invariant of a loop that has passed n elements: start, turn and the two ways out, found and ended
-- Assumes nothing.
use Prim.Native.Nat.{ℕ, zero, suc, ◌<◌, ◌≤◌, ◌+◌}
use mathlib.Core.Path.{◌≡◌, refl, sym, ◌∙◌}
use mathlib.Core.Bool.{Bool, true, false, not, ◌||◌, false≢true, or-true}
use mathlib.Core.List.{List, [], ◌∷◌, ◌++◌}
use mathlib.Core.Logic.{⊎_elim}
use native.Mathlib.Omega.{arith}
use native.Mathlib.Numerals.{add-one}
use lib.ListN.{length, get_or, drop}
use lib.Seq.{drop-cons}
use borrow.Author.Tests.{not-false}
use Rattle.laws.proofs.Booleans.{decide, or_cases, neither}
use Rattle.book.specs.Lists.{any, any_from}

-- Searches that look at the number

module _ {A : Type 0} (p : ℕ → A → Bool) where
  pub any_from_true : (k : ℕ) (xs : List A) → any_from p k xs ≡ true
      → (i : ℕ) × (i < length xs) × ((d : A) → p (k + i) (get_or xs i d) ≡ true)
  unfolding any_from
  any_from_true k [] e = absurd (false≢true e)
  any_from_true k (x ∷ xs) e =
      ⊎_elim
      (λ h. let z : k + 0 ≡ k = omega arith in (0, omega arith, λ d. rw z h))
      (λ h.
      let r = any_from_true (suc k) xs h in
      let z : k + suc r.0 ≡ suc k + r.0 = omega arith in
      (suc r.0, omega (arith, r.1), λ d. rw z (r.2 d)))
      (or_cases (p k x) (any_from p (suc k) xs) e)

  pub any_from_false : (k : ℕ) (xs : List A) → any_from p k xs ≡ false → (i : ℕ) → i < length xs → (d : A) → p (k + i) (get_or xs i d) ≡ false
  unfolding any_from
  any_from_false k [] e i h d = absurd (omega arith)
  any_from_false k (x ∷ xs) e zero h d =
      let z : k + 0 ≡ k = omega arith in
      rw z (neither (p k x) (any_from p (suc k) xs) e).0
  any_from_false k (x ∷ xs) e (suc i) h d =
      let z : k + suc i ≡ suc k + i = omega arith in
      rw z (any_from_false (suc k) xs (neither (p k x) (any_from p (suc k) xs) e).1 i (omega arith) d)

  pub any_from_at : (k : ℕ) (xs : List A) (i : ℕ) → i < length xs → (d : A) → p (k + i) (get_or xs i d) ≡ true → any_from p k xs ≡ true
  unfolding any_from
  any_from_at k [] i h d e = absurd (omega arith)
  any_from_at k (x ∷ xs) zero h d e =
      let z : k + 0 ≡ k = omega arith in
      let e' : p k x ≡ true = rw z at e in
      rw e'
  any_from_at k (x ∷ xs) (suc i) h d e =
      let z : k + suc i ≡ suc k + i = omega arith in
      let e' : p (suc k + i) (get_or xs i d) ≡ true = rw z at e in
      rw (any_from_at (suc k) xs i (omega arith) d e') (or-true (p k x))

  pub any_from_none : (k : ℕ) (xs : List A) (d : A) → ((i : ℕ) → i < length xs → p (k + i) (get_or xs i d) ≡ false) → any_from p k xs ≡ false
  unfolding any_from
  any_from_none k [] d h = refl
  any_from_none k (x ∷ xs) d h =
      let z : k + 0 ≡ k = omega arith in
      let here : p k x ≡ false = rw z at (h 0 (omega arith)) in
      rw here
      (any_from_none (suc k) xs d
      (λ i l.
      let z' : k + suc i ≡ suc k + i = omega arith in
      rw z' at (h (suc i) (omega arith))))

module _ {A : Type 0} (p : ℕ → A → Bool) where
  pub each_from : (xs : List A) → any_from (λ n x. not (p n x)) 0 xs ≡ false → (n : ℕ) → n < length xs → (d : A) → p n (get_or xs n d) ≡ true
  each_from xs e n h d =
      let z : 0 + n ≡ n = omega arith in
      not-false (p n (get_or xs n d)) (rw z at (any_from_false (λ n x. not (p n x)) 0 xs e n h d))

-- Searches that do not

module _ {A : Type 0} (p : A → Bool) where
  pub any_from_lem : (k : ℕ) (xs : List A) → any_from (λ n x. p x) k xs ≡ any p xs
  unfolding any any_from
  any_from_lem k [] = refl
  any_from_lem k (x ∷ xs) = rw (any_from_lem (suc k) xs)

  pub any_true : (xs : List A) → any p xs ≡ true → (i : ℕ) × (i < length xs) × ((d : A) → p (get_or xs i d) ≡ true)
  any_true xs e = any_from_true (λ n x. p x) 0 xs (any_from_lem 0 xs ∙ e)

  pub any_false : (xs : List A) → any p xs ≡ false → (i : ℕ) → i < length xs → (d : A) → p (get_or xs i d) ≡ false
  any_false xs e = any_from_false (λ n x. p x) 0 xs (any_from_lem 0 xs ∙ e)

  pub any_at : (xs : List A) (i : ℕ) → i < length xs → (d : A) → p (get_or xs i d) ≡ true → any p xs ≡ true
  any_at xs i h d e = sym (any_from_lem 0 xs) ∙ any_from_at (λ n x. p x) 0 xs i h d e

  pub any_none : (xs : List A) (d : A) → ((i : ℕ) → i < length xs → p (get_or xs i d) ≡ false) → any p xs ≡ false
  any_none xs d h = sym (any_from_lem 0 xs) ∙ any_from_none (λ n x. p x) 0 xs d h

  pub any_default : (xs : List A) (d : A) → any p xs ≡ false → p d ≡ false → (i : ℕ) → p (get_or xs i d) ≡ false
  unfolding any
  any_default [] d e h i = h
  any_default (x ∷ xs) d e h zero = (neither (p x) (any p xs) e).0
  any_default (x ∷ xs) d e h (suc i) = any_default xs d (neither (p x) (any p xs) e).1 h i

  pub any_append : (xs ys : List A) → any p (xs ++ ys) ≡ (any p xs || any p ys)
  unfolding any
  any_append [] ys = refl
  any_append (x ∷ xs) ys = ⊎_elim (λ e. rw e) (λ e. rw e (any_append xs ys)) (decide (p x))

pub any_same : {A : Type 0} (p q : A → Bool) (xs : List A) (d : A) → ((j : ℕ) → j < length xs → p (get_or xs j d) ≡ q (get_or xs j d))
    → any p xs ≡ any q xs
unfolding any
any_same p q [] d h = refl
any_same p q (x ∷ xs) d h = rw (h 0 (omega arith), any_same p q xs d (λ j l. h (suc j) (omega arith)))

pub each : {A : Type 0} (p : A → Bool) (xs : List A) → any (λ x. not (p x)) xs ≡ false → (n : ℕ) → n < length xs → (d : A) → p (get_or xs n d) ≡ true
each p xs e n h d = not-false (p (get_or xs n d)) (any_false (λ x. not (p x)) xs e n h d)

-- Loops

pub record Sought {A : Type 0} (p : ℕ → A → Bool) (xs : List A) (n : ℕ) : Type 0 where
  pub within : n ≤ length xs
  pub same : any_from p n (drop n xs) ≡ any_from p 0 xs

module _ {A : Type 0} (p : ℕ → A → Bool) where
  none_left : (k n : ℕ) (xs : List A) → length xs ≤ n → any_from p k (drop n xs) ≡ false
  unfolding any_from
  none_left k zero [] h = refl
  none_left k (suc n) [] h = refl
  none_left k zero (x ∷ xs) h = absurd (omega arith)
  none_left k (suc n) (x ∷ xs) h = none_left k n xs (omega arith)

  module _ (xs : List A) where
    pub start : Sought p xs 0
    start = record { within = omega arith; same = refl }

    module _ (n : ℕ) (g : Sought p xs n) where
      pub ended : length xs ≤ n → false ≡ any_from p 0 xs
      ended h = sym (none_left n n xs h) ∙ g.same

      module _ (d : A) (h : n < length xs) where
        pub found : p n (get_or xs n d) ≡ true → true ≡ any_from p 0 xs
        unfolding any_from
        found e = rw (← g.same, drop-cons xs n d h, e)

        pub turn : p n (get_or xs n d) ≡ false → Sought p xs (n + 1)
        unfolding any_from
        turn e =
            let next : any_from p n (drop n xs) ≡ any_from p (suc n) (drop (suc n) xs) = rw (drop-cons xs n d h, e) in
            record { within = omega arith; same = rw (add-one n, ← next) g.same }
