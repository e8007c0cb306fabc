-- Searches through lists.
use Rattle.std.specs.Prelude.{ℕ, suc, Bool, false, ◌||◌, List, [], ◌∷◌}

-- some element has p
unfoldable pub any : {A : Type 0} → (A → Bool) → List A → Bool
any p [] = false
any p (x ∷ xs) = p x || any p xs

-- some element has p together with its number, the first one's being k
unfoldable pub any_from : {A : Type 0} → (ℕ → A → Bool) → ℕ → List A → Bool
any_from p k [] = false
any_from p k (x ∷ xs) = p k x || any_from p (suc k) xs
