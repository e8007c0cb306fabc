-- What a vertex depends on "directly or through others".
use Rattle.std.specs.Prelude.{ℕ, ◌<◌, ◌≡◌, Bool, true}

-- v depends on w, or on a vertex that reaches w
pub data Reaches (edge : ℕ → ℕ → Bool) (n : ℕ) : ℕ → ℕ → Type 0 where
  direct : {v w : ℕ} → w < n → edge v w ≡ true → Reaches edge n v w
  through : {v u w : ℕ} → u < n → edge v u ≡ true → Reaches edge n u w → Reaches edge n v w
