-- A search through the numbers of a list's elements.
--     any_numbered    it holds where the search through the list does
-- Assumes nothing.
use Prim.Native.Nat.{ℕ, suc, ◌+◌, ◌<◌}
use mathlib.Core.Path.{◌≡◌, refl, ap}
use mathlib.Core.Bool.{Bool, ◌||◌}
use mathlib.Core.List.{List, [], ◌∷◌}
use native.Mathlib.Omega.{arith}
use lib.ListN.{length, get_or}
use Rattle.std.specs.List.{list_any, range_with_len}
use Rattle.book.specs.Lists.{any}

module _ {A : Type 0} (p : A → Bool) (d : A) (test : ℕ → Bool) where
  numbered_from : (a : ℕ) (xs : List A) → ((k : ℕ) → k < length xs → test (a + k) ≡ p (get_or xs k d))
      → list_any test (range_with_len a (length xs)) ≡ any p xs
  unfolding any
  numbered_from a [] h = refl
  numbered_from a (x ∷ xs) h =
      let z : a + 0 ≡ a = omega arith in
      let here : test a ≡ p x = rw z at (h 0 (omega arith)) in
      rw here
      (ap (λ (b : Bool). p x || b)
      (numbered_from (a + 1) xs
      (λ k l.
      let e : a + 1 + k ≡ a + suc k = omega arith in
      rw e (h (suc k) (omega arith)))))

  pub any_numbered : (xs : List A) → ((k : ℕ) → k < length xs → test k ≡ p (get_or xs k d)) → list_any test (range_with_len 0 (length xs)) ≡ any p xs
  any_numbered xs h =
      numbered_from 0 xs
      (λ k l.
      let z : 0 + k ≡ k = omega arith in
      rw z (h k l))
