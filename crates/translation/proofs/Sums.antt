-- Sums of a function's values.
--     append_below, gathered_below    numbers that are below a bound in each of several lists
--     sum_append       over two lists
--     sum_below        over a list in which no number stands twice: no more than over all numbers below a bound of them
--     range_gathered   over all numbers of things each of which adds something to what it names
-- Assumes nothing.
use Prim.Native.Nat.{ℕ, zero, suc, ◌+◌, ◌≤◌, ◌<◌}
use mathlib.Core.Path.{◌≡◌, refl, sym, ap}
use mathlib.Core.Bool.{Bool, true, false, cond, false≢true, or-true}
use mathlib.Core.List.{List, [], ◌∷◌, ◌++◌}
use mathlib.Core.Logic.{⊎_elim}
use native.Mathlib.Omega.{arith}
use native.Mathlib.Nat.{eq-or-lt_of_le}
use lib.ListN.{length, get_or}
use lib.Dec.{eqb}
use borrow.Author.Tests.{eq-eqb}
use Rattle.order.specs.Order.{among}
use Rattle.laws.proofs.Booleans.{neither}
use Rattle.order.proofs.Among.{among_at, among_first}
use Rattle.book.specs.Sharing.{gathered, repeats}
use Rattle.book.specs.Scopes.{sum}
use Rattle.book.proofs.Sums.{range}

-- what is in a list's rest is in the list
among_rest : (x : ℕ) (xs : List ℕ) (y : ℕ) → among xs y ≡ true → among (x ∷ xs) y ≡ true
unfolding among
among_rest x xs y e = rw e (or-true (eqb y x))

-- every number of a list is below n
abbrev pub Below : ℕ → List ℕ → Type 0
Below n xs = (x : ℕ) → among xs x ≡ true → x < n

pub append_below : (n : ℕ) (xs ys : List ℕ) → Below n xs → Below n ys → Below n (xs ++ ys)
append_below n [] ys p q y e = q y e
append_below n (x ∷ xs) ys p q y e =
    ⊎_elim
    (λ (r : y ≡ x). let l : x < n = p x (among_at (x ∷ xs) 0 (omega arith)) in omega arith)
    (append_below n xs ys (λ z h. p z (among_rest x xs z h)) q y)
    (among_first x (xs ++ ys) y e)

pub gathered_below : {A : Type 0} (n : ℕ) (names : A → List ℕ) (xs : List A) (d : A)
    → ((i : ℕ) → i < length xs → Below n (names (get_or xs i d))) → Below n (gathered names xs)
unfolding gathered among
gathered_below n names [] d h = λ x e. absurd (false≢true e)
gathered_below n names (x ∷ xs) d h =
    append_below n (names x) (gathered names xs) (h 0 (omega arith))
    (gathered_below n names xs d (λ i l. h (suc i) (omega arith)))

pub sum_append : (f : ℕ → ℕ) (xs ys : List ℕ) → sum f (xs ++ ys) ≡ sum f xs + sum f ys
unfolding sum
sum_append f [] ys = omega arith
sum_append f (x ∷ xs) ys = omega (arith, sum_append f xs ys)

-- f, and 0 at x
abbrev except : ℕ → (ℕ → ℕ) → ℕ → ℕ
except x f n = cond (eqb x n) 0 (f n)

module _ (f : ℕ → ℕ) (x : ℕ) where
  except_less : (n : ℕ) → except x f n ≤ f n
  except_less n = go (eqb x n)
    where
      go : (b : Bool) → cond b 0 (f n) ≤ f n
      go true = omega arith
      go false = omega arith

  -- what is not in a list does not count
  sum_except : (xs : List ℕ) → among xs x ≡ false → sum (except x f) xs ≡ sum f xs
  unfolding among sum
  sum_except [] e = refl
  sum_except (y ∷ ys) e =
      let h = neither (eqb x y) (among ys x) e in
      rw (h.0, sum_except ys h.1)

  range_less : (a m : ℕ) → range (except x f) a m ≤ range f a m
  unfolding range
  range_less a zero = omega arith
  range_less a (suc m) = omega (arith, except_less a, range_less (suc a) m)

  range_except : (a m : ℕ) → a ≤ x → x < a + m → f x + range (except x f) a m ≤ range f a m
  unfolding range
  range_except a zero l h = absurd (omega arith)
  range_except a (suc m) l h =
      ⊎_elim
      (λ (e : a ≡ x).
      let none : except x f a ≡ 0 = rw (eq-eqb x a (sym e)) in
      let here : f a ≡ f x = ap f e in
      omega (arith, none, here, range_less (suc a) m))
      (λ (r : a < x). omega (arith, except_less a, range_except (suc a) m (omega arith) (omega arith)))
      (eq-or-lt_of_le {n = a} {m = x} l)

pub sum_below : (n : ℕ) (xs : List ℕ) → repeats xs ≡ false → Below n xs → (f : ℕ → ℕ) → sum f xs ≤ range f 0 n
unfolding repeats sum
sum_below n [] e below f = omega arith
sum_below n (x ∷ xs) e below f =
    let h = neither (among xs x) (repeats xs) e in
    let l : x < n = below x (among_at (x ∷ xs) 0 (omega arith)) in
    let rest = sum_below n xs h.1 (λ y r. below y (among_rest x xs y r)) (except x f) in
    omega (arith, sum_except f x xs h.0, rest, range_except f x 0 n (omega arith) (omega arith))

-- over all numbers from a on of things, each of which adds something to what it names
pub range_gathered : {A : Type 0} (f g : ℕ → ℕ) (names : A → List ℕ) (xs : List A) (a : ℕ) (d : A)
    → ((i : ℕ) → i < length xs → f (a + i) ≡ g (a + i) + sum f (names (get_or xs i d)))
    → range f a (length xs) ≡ range g a (length xs) + sum f (gathered names xs)
unfolding range gathered sum
range_gathered f g names [] a d h = omega arith
range_gathered f g names (x ∷ xs) a d h =
    let z : a + 0 ≡ a = omega arith in
    let here : f a ≡ g a + sum f (names x) = rw z at (h 0 (omega arith)) in
    let more = range_gathered f g names xs (suc a) d (λ i l. let y : suc a + i ≡ a + suc i = omega arith in rw y (h (suc i) (omega arith))) in
    omega (arith, here, more, sum_append f (names x) (gathered names xs))
