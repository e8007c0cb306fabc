-- A distance of 0 lands: on the next instruction, or at the block's end.
-- Assumes nothing.
use Prim.Native.Nat.{ℕ}
use mathlib.Core.Path.{◌≡◌, refl}
use mathlib.Core.Bool.{true}
use mathlib.Core.List.{List, [], ◌∷◌}
use Rattle.machine.specs.Acceptance.{lands}

pub lands_here : (after : List ℕ) → lands after 0 0 ≡ true
unfolding lands
lands_here [] = refl
lands_here (b ∷ rest) = refl
