-- A search that goes through a whole list, though it may have found an element before its end.
--     start, more, whole    at the list's start, after one more element, at its end
-- Assumes nothing.
use Prim.Native.Nat.{ℕ, ◌+◌, ◌<◌, ◌≤◌}
use mathlib.Core.Path.{◌≡◌, refl, sym, ap, ◌∙◌}
use mathlib.Core.Bool.{Bool, false, ◌||◌, or-false, or_assoc}
use mathlib.Core.List.{List}
use native.Mathlib.Numerals.{add-one}
use lib.ListN.{length, get_or, drop, drop_of_length-le}
use lib.Seq.{drop-cons}
use Rattle.book.specs.Lists.{any}

-- b says whether something was found before the list, a, or an element below n has p: with those left, it does of the whole list
pub record Gathered {A : Type 0} (p : A → Bool) (xs : List A) (a : Bool) (n : ℕ) (b : Bool) : Type 0 where
  pub same : (b || any p (drop n xs)) ≡ (a || any p xs)

module _ {A : Type 0} (p : A → Bool) (xs : List A) (a : Bool) where
  pub start : Gathered p xs a 0 a
  start = record { same = refl }

  module _ (n : ℕ) (b : Bool) (g : Gathered p xs a n b) where
    pub more : (d : A) → n < length xs → (r : Bool) → r ≡ p (get_or xs n d) → Gathered p xs a (n + 1) (b || r)
    unfolding any
    more d h r e =
        let next : any p (drop n xs) ≡ (r || any p (drop (n + 1) xs)) = rw (drop-cons xs n d h, e, add-one n) in
        record { same = or_assoc b r (any p (drop (n + 1) xs)) ∙ ap (λ (t : Bool). b || t) (sym next) ∙ g.same }

    pub whole : length xs ≤ n → b ≡ (a || any p xs)
    unfolding any
    whole h =
        let none : any p (drop n xs) ≡ false = rw (drop_of_length-le xs h) in
        sym (or-false b) ∙ ap (λ (t : Bool). b || t) (sym none) ∙ g.same
