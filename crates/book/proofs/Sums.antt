-- Sums of a function's values.
--     sum_same    a sum depends only on what is given for the list's elements
--     range       the sum over numbers in sequence
-- Assumes nothing.
use Prim.Native.Nat.{ℕ, zero, suc, ◌+◌}
use mathlib.Core.Path.{◌≡◌, refl}
use mathlib.Core.Bool.{true, or-true}
use mathlib.Core.List.{List, [], ◌∷◌}
use lib.Dec.{eqb}
use borrow.Author.Tests.{eq-eqb}
use Rattle.order.specs.Order.{among}
use Rattle.book.specs.Scopes.{sum}

pub sum_same : (f g : ℕ → ℕ) (xs : List ℕ) → ((j : ℕ) → among xs j ≡ true → f j ≡ g j) → sum f xs ≡ sum g xs
unfolding sum among
sum_same f g [] same = refl
sum_same f g (x ∷ xs) same =
    let here : f x ≡ g x = same x (rw (eq-eqb x x refl)) in
    let later : sum f xs ≡ sum g xs = sum_same f g xs (λ j m. same j (rw m (or-true (eqb j x)))) in
    rw (here, later)

-- f a + f (a + 1) + .., m of them
unfoldable pub range : (ℕ → ℕ) → ℕ → ℕ → ℕ
range f a zero = 0
range f a (suc m) = f a + range f (suc a) m
