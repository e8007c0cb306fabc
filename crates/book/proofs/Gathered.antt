-- What the elements of a list give, one after the other.
--     gathered_append    of two lists, one after the other
-- Assumes nothing.
use Prim.Native.Nat.{ℕ}
use mathlib.Core.Path.{◌≡◌, refl, sym, ap, ◌∙◌}
use mathlib.Core.List.{List, [], ◌∷◌, ◌++◌, append_assoc}
use Rattle.book.specs.Sharing.{gathered}

pub gathered_append : {A : Type 0} (f : A → List ℕ) (xs ys : List A) → gathered f (xs ++ ys) ≡ gathered f xs ++ gathered f ys
unfolding gathered
gathered_append f [] ys = refl
gathered_append f (x ∷ xs) ys = ap (λ (l : List ℕ). f x ++ l) (gathered_append f xs ys) ∙ sym (append_assoc (f x) (gathered f xs) (gathered f ys))
