-- The assignments of k variables: "Every choice is there once".
--     assignments_count     there are 2^k
--     row_number_below          an assignment's binary number is one of theirs
--     assignment_at         an assignment stands at its binary number
--     assignment_length     what stands at a number is an assignment of k variables
--     assignment_once       and that number is its binary number, so that it stands nowhere else
-- Assumes nothing.
use Prim.Native.Nat.{ℕ, zero, suc, ◌+◌, ◌-◌, ◌*◌, ◌<◌}
use mathlib.Core.Path.{◌≡◌, refl, sym, ap, ◌∙◌}
use mathlib.Core.Bool.{Bool, true, false}
use mathlib.Core.List.{List, [], ◌∷◌, ◌++◌, map}
use mathlib.Core.Logic.{⊎_elim}
use native.Mathlib.Omega.{arith}
use lib.ListN.{length, get_or, length-append, length-map, get_or-append}
use lib.Seq.{get_or-append-add}
use lib.Dec.{ltb}
use borrow.Author.Tests.{ltb-true, ltb-false}
use Rattle.laws.proofs.Booleans.{decide}
use Rattle.tabulation.specs.Assignments.{assignments, power, row_number}

-- two lists made of one
two_halves : (f g : List Bool → List Bool) (xs : List (List Bool)) → length (map f xs ++ map g xs) ≡ 2 * length xs
two_halves f g xs = omega (arith, length-append (map f xs) (map g xs), length-map xs f, length-map xs g)

pub assignments_count : (k : ℕ) → length (assignments k) ≡ power k
unfolding assignments power
assignments_count zero = refl
assignments_count (suc k) = two_halves _ _ (assignments k) ∙ ap (λ (n : ℕ). 2 * n) (assignments_count k)

abbrev with_no : List Bool → List Bool
with_no a = false ∷ a

abbrev with_yes : List Bool → List Bool
with_yes a = true ∷ a

-- what stands in a mapped list
map_at : (f : List Bool → List Bool) (xs : List (List Bool)) (n : ℕ) → n < length xs → get_or (map f xs) n [] ≡ f (get_or xs n [])
map_at f [] n l = absurd (omega arith)
map_at f (a ∷ xs) zero l = refl
map_at f (a ∷ xs) (suc n) l = map_at f xs n (omega arith)

-- the first half of them begins with no, the second with yes
module _ (k n : ℕ) (l : n < power k) where
  first_no : get_or (assignments (suc k)) n [] ≡ false ∷ get_or (assignments k) n []
  unfolding assignments
  first_no =
      let xs = assignments k in
      let c = assignments_count k in
      let m : length (map with_no xs) ≡ length xs = length-map xs with_no in
      get_or-append (map with_no xs) (map with_yes xs) [] n (omega arith) ∙ map_at with_no xs n (omega arith)

  then_yes : get_or (assignments (suc k)) (power k + n) [] ≡ true ∷ get_or (assignments k) n []
  unfolding assignments
  then_yes =
      let xs = assignments k in
      let c = assignments_count k in
      let m : length (map with_no xs) ≡ power k = length-map xs with_no ∙ c in
      ap (λ (j : ℕ). get_or (map with_no xs ++ map with_yes xs) (j + n) []) (sym m)
      ∙ get_or-append-add (map with_no xs) (map with_yes xs) n []
      ∙ map_at with_yes xs n (omega arith)

pub row_number_below : (a : List Bool) → row_number a < power (length a)
unfolding row_number power
row_number_below [] = omega arith
row_number_below (false ∷ bs) = let l = row_number_below bs in omega arith
row_number_below (true ∷ bs) = let l = row_number_below bs in omega arith

-- of no variable there is one assignment
of_none : (P : ℕ → List Bool → Type 0) → P 0 [] → (n : ℕ) → n < power 0 → P n (get_or (assignments 0) n [])
unfolding assignments power
of_none P p zero l = p
of_none P p (suc n) l = absurd (omega arith)

pub assignment_at : (a : List Bool) → get_or (assignments (length a)) (row_number a) [] ≡ a
unfolding row_number power
assignment_at [] = of_none (λ n a. a ≡ []) refl 0 (omega arith)
assignment_at (false ∷ bs) =
    let z : 0 * power (length bs) + row_number bs ≡ row_number bs = omega arith in
    rw z (first_no (length bs) (row_number bs) (row_number_below bs) ∙ ap with_no (assignment_at bs))
assignment_at (true ∷ bs) =
    let z : 1 * power (length bs) + row_number bs ≡ power (length bs) + row_number bs = omega arith in
    rw z (then_yes (length bs) (row_number bs) (row_number_below bs) ∙ ap with_yes (assignment_at bs))

-- a number below 2^(k+1) is one below 2^k, or such a one and 2^k
by_halves : (P : ℕ → List Bool → Type 0) (k : ℕ) → ((n : ℕ) → n < power k → P n (false ∷ get_or (assignments k) n []))
    → ((n : ℕ) → n < power k → P (power k + n) (true ∷ get_or (assignments k) n [])) → (n : ℕ) → n < power (suc k) → P n (get_or (assignments (suc k)) n [])
unfolding power
by_halves P k no-first yes-then n l =
    ⊎_elim
    (λ (q : ltb n (power k) ≡ true). let h = ltb-true n (power k) q in rw (first_no k n h) (no-first n h))
    (λ (q : ltb n (power k) ≡ false).
    let h = ltb-false n (power k) q in
    let m = n - power k in
    let z : n ≡ power k + m = omega arith in
    let w : m < power k = omega arith in
    rw z (rw (then_yes k m w) (yes-then m w)))
    (decide (ltb n (power k)))

pub assignment_length : (k n : ℕ) → n < power k → length (get_or (assignments k) n []) ≡ k
assignment_length zero n l = of_none (λ n a. length a ≡ 0) refl n l
assignment_length (suc k) n l =
    by_halves (λ n a. length a ≡ suc k) k (λ n h. ap suc (assignment_length k n h)) (λ n h. ap suc (assignment_length k n h)) n l

pub assignment_once : (k n : ℕ) → n < power k → row_number (get_or (assignments k) n []) ≡ n
unfolding row_number
assignment_once zero n l = of_none (λ n a. row_number a ≡ n) refl n l
assignment_once (suc k) n l =
    by_halves (λ n a. row_number a ≡ n) k
    (λ n h. let e = assignment_once k n h in omega arith)
    (λ n h. let e = assignment_once k n h in rw (assignment_length k n h) (omega arith))
    n l
