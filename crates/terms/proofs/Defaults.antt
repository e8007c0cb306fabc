-- The exceptions of a default as cells: one law for each way through the code.
--     found_empty, found-other         what one exception comes to
--     ended_stays .. one-joins         the exceptions so far, and one more
--     settled_many, settled, unsettled what they come to
-- Assumes nothing.
use Prim.Native.Nat.{ℕ, ◌<◌, ◌≤◌}
use mathlib.Core.Path.{◌≡◌, refl}
use native.Mathlib.Omega.{arith}
use Rattle.std.specs.Prelude.{Result, Ok, Err}
use Rattle.calculus.specs.Defaults.{found, together, settle}
use Rattle.calculus.proofs.Numbers.{zero_fits}
use Rattle.answers.specs.declared.Cause.{Cause}
use Rattle.answers.specs.declared.Side.TheVariants.{Above, Below}
use Rattle.answers.specs.declared.Cause.TheVariants.{Empty, Conflict, OutOfRange}
use Rattle.calculus.specs.declared.Joined.{Joined}
use Rattle.calculus.specs.declared.Joined.TheVariants.{Nothing, One, Many}
use Rattle.cells.specs.Codec.{conflict_cell, empty_cell, many_cell, cell_of, gathered_cell, Codes, Gathers}
use Rattle.cells.specs.Joining.{join_cell}
use Rattle.cells.proofs.Codec.{value_high, value_low, end_high, no_end}
use Rattle.cells.proofs.Joining.{join_gathers}
use Rattle.terms.specs.Operators.{OnFound, OnBoth}
use Rattle.calculus.specs.declared.Value.{Value}

-- what has not ended
so_far_low : (j : Joined) (x : ℕ) → Gathers x (Ok j) → x < empty_cell
unfolding gathered_cell
so_far_low Nothing x h = omega (arith, h.is)
so_far_low (One v) x h = let b = value_low v h.fits in omega (arith, h.is)
so_far_low Many x h = omega (arith, h.is)

pub no_so_far : {A : Type 0} (j : Joined) (x : ℕ) → Gathers x (Ok j) → empty_cell ≤ x → A
no_so_far j x h l = let b = so_far_low j x h in let none : ⊥ = omega arith in absurd none

pub no_ended : {A : Type 0} (k : Cause) (x : ℕ) → Gathers x (Err k) → x < empty_cell → A
unfolding gathered_cell
no_ended k x h l = let b = end_high k in let none : ⊥ = omega (arith, h.is) in absurd none

-- An empty exception comes to nothing, every other to itself.
pub found_empty : (x : ℕ) → x ≡ empty_cell → OnFound x 0
unfolding cell_of gathered_cell
found_empty x e (Ok v) k = no_end v x k (omega arith)
found_empty x e (Err Empty) k = record { is = refl; fits = zero_fits }
found_empty x e (Err Conflict) k = let none : ⊥ = omega (arith, k.is) in absurd none
found_empty x e (Err (OutOfRange Above)) k = let none : ⊥ = omega (arith, k.is) in absurd none
found_empty x e (Err (OutOfRange Below)) k = let none : ⊥ = omega (arith, k.is) in absurd none

pub found_other : (x : ℕ) → (x ≡ empty_cell → ⊥) → OnFound x x
unfolding cell_of gathered_cell
found_other x n (Ok v) k = record { is = k.is; fits = k.fits }
found_other x n (Err Empty) k = absurd (n k.is)
found_other x n (Err Conflict) k = record { is = k.is; fits = zero_fits }
found_other x n (Err (OutOfRange s)) k = record { is = k.is; fits = zero_fits }

-- "The first that is conflict or out of range is the result"
pub ended_stays : (x y : ℕ) → empty_cell ≤ x → OnBoth x y x
ended_stays x y l (Ok j) o h k = no_so_far j x h l
ended_stays x y l (Err c) o h k = h

-- two parts of the exceptions, as the code found them by their cells
end_ends : (x y : ℕ) (a b : Result Joined Cause) → x < empty_cell → empty_cell ≤ y → Gathers x a → Gathers y b → Gathers y (together a b)
end_ends x y (Err c) b l m h k = no_ended c x h l
end_ends x y (Ok j) (Ok i) l m h k = no_so_far i y k m
end_ends x y (Ok j) (Err c) l m h k = k

both_join : (x y : ℕ) (a b : Result Joined Cause) → x < empty_cell → y < empty_cell → Gathers x a → Gathers y b → Gathers (join_cell x y) (together a b)
both_join x y (Err c) b l m h k = no_ended c x h l
both_join x y (Ok j) (Err c) l m h k = no_ended c y k m
both_join x y (Ok j) (Ok i) l m h k = join_gathers j i x y h k

module _ (x y z : ℕ) (l : x < empty_cell) (f : OnFound y z) where
  pub one_ends : empty_cell ≤ z → OnBoth x y z
  one_ends m g o h k = end_ends x z g (found o) l m h (f o k)

  pub one_joins : z < empty_cell → OnBoth x y (join_cell x z)
  one_joins m g o h k = both_join x z g (found o) l m h (f o k)

-- "two or more that are not empty give conflict"
pub settled_many : (g : Result Joined Cause) (rest : Result Value Cause) → Gathers many_cell g → Codes conflict_cell (settle g rest)
unfolding cell_of gathered_cell
settled_many (Ok Nothing) rest h = let none : ⊥ = omega (arith, h.is) in absurd none
settled_many (Ok (One v)) rest h = let b = value_low v h.fits in let none : ⊥ = omega (arith, h.is) in absurd none
settled_many (Ok Many) rest h = record { is = refl; fits = zero_fits }
settled_many (Err c) rest h = no_ended c many_cell h (omega arith)

-- "exactly one is the result"; so is what ended the exceptions
pub settled : (x : ℕ) (g : Result Joined Cause) (rest : Result Value Cause) → (x ≡ many_cell → ⊥) → (x ≡ 0 → ⊥) → Gathers x g → Codes x (settle g rest)
unfolding cell_of gathered_cell
settled x (Ok Nothing) rest m z h = absurd (z h.is)
settled x (Ok (One v)) rest m z h = record { is = h.is; fits = h.fits }
settled x (Ok Many) rest m z h = absurd (m h.is)
settled x (Err c) rest m z h = record { is = h.is; fits = zero_fits }

-- with none, the rest is
pub unsettled : (g : Result Joined Cause) (rest : Result Value Cause) → Gathers 0 g → settle g rest ≡ rest
unfolding gathered_cell
unsettled (Ok Nothing) rest h = refl
unsettled (Ok (One v)) rest h = let b = value_high v in let none : ⊥ = omega (arith, h.is) in absurd none
unsettled (Ok Many) rest h = let none : ⊥ = omega (arith, h.is) in absurd none
unsettled (Err c) rest h = no_ended c 0 h (omega arith)
