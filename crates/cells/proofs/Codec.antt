-- The codec.
--     value_decoded, outcome-decoded   a cell that was made of a value or an outcome holds it
--     value_high, value_low            a value's cell stands above nothing and below many
--     value_before_ends, end-high      a value's cell stands below every end, an end's does not
--     no_end, no_value_lem                 what the code found by one comparison
--     is_yes, is_number, are-same      a value by its cell
-- Assumes nothing.
use Prim.Native.Nat.{ℕ, ◌+◌, ◌%◌, ◌<◌, ◌≤◌}
use mathlib.Core.Path.{◌≡◌, refl, ap, ◌∙◌}
use mathlib.Core.Bool.{Bool, true, false}
use native.Mathlib.Omega.{arith}
use lib.Dec.{eqb, lit<}
use mir.Syntax.{w32}
use mir.Val.{SFits, to_z, of_z}
use mir.Facts.{to_z-of_z, Fits-of_z}
use borrow.Author.Tests.{lt-ltb, le-ltb, eq-eqb, ne_eqb, eqb-true, eqb-false}
use Rattle.std.specs.Prelude.{Result, Ok, Err}
use Rattle.calculus.specs.Values.{truth_of, number_of, equal}
use Rattle.calculus.proofs.Numbers.{equal_bits}
use Rattle.calculus.specs.declared.Value.{Value}
use Rattle.calculus.specs.declared.Value.TheVariants.{Truth, Number}
use Rattle.answers.specs.declared.Cause.{Cause}
use Rattle.answers.specs.declared.Side.TheVariants.{Above, Below}
use Rattle.answers.specs.declared.Cause.TheVariants.{Empty, Conflict, OutOfRange}
use Rattle.cells.specs.Codec.{no_cell, yes_cell, zero_cell, many_cell, empty_cell, value_cell, cause_cell, cell_of, payload, value_of, cause_of, outcome_of, Codes}

number_value : (n : ℕ) → n < 4294967296 → value_of (zero_cell + n) ≡ Number (to_z w32 n)
unfolding value_of
number_value n h =
    let e : (zero_cell + n) % 4294967296 ≡ n = omega arith in
    rw (le-ltb (zero_cell + n) zero_cell (omega arith), e)

pub value_decoded : (v : Value) → SFits w32 (number_of v) → value_of (value_cell v) ≡ v
unfolding value_of value_cell
value_decoded (Truth false) f = refl
value_decoded (Truth true) f = refl
value_decoded (Number z) f = number_value (of_z w32 z) (Fits-of_z f).fits ∙ ap Number (to_z-of_z f)

-- values stand above nothing, below many, and below every end
pub value_high : (v : Value) → 0 < value_cell v
unfolding value_cell
value_high (Truth false) = lit< tt
value_high (Truth true) = lit< tt
value_high (Number z) = omega arith

pub value_low : (v : Value) → SFits w32 (number_of v) → value_cell v < many_cell
unfolding value_cell
value_low (Truth false) f = lit< tt
value_low (Truth true) f = lit< tt
value_low (Number z) f = omega (arith, (Fits-of_z f).fits)

pub value_before_ends : (v : Value) → SFits w32 (number_of v) → value_cell v < empty_cell
value_before_ends v f = let l = value_low v f in omega arith

pub end_high : (c : Cause) → empty_cell ≤ cause_cell c
end_high Empty = omega arith
end_high Conflict = omega arith
end_high (OutOfRange Above) = omega arith
end_high (OutOfRange Below) = omega arith

pub cause_decoded : (c : Cause) → cause_of (cause_cell c) ≡ c
unfolding cause_of
cause_decoded Empty = refl
cause_decoded Conflict = refl
cause_decoded (OutOfRange Above) = refl
cause_decoded (OutOfRange Below) = refl

pub outcome_decoded : (o : Result Value Cause) → (c : ℕ) → Codes c o → outcome_of c ≡ o
unfolding outcome_of cell_of
outcome_decoded (Ok v) c h = rw (h.is, lt-ltb (value_cell v) empty_cell (value_before_ends v h.fits)) (ap Ok (value_decoded v h.fits))
outcome_decoded (Err k) c h = rw (h.is, le-ltb (cause_cell k) empty_cell (end_high k)) (ap Err (cause_decoded k))

-- What the code found by one comparison

pub no_end : {A : Type 0} (v : Value) (x : ℕ) → Codes x (Ok v) → empty_cell ≤ x → A
unfolding cell_of
no_end v x h l = let b = value_before_ends v h.fits in let none : ⊥ = omega (arith, h.is) in absurd none

pub no_value_lem : {A : Type 0} (k : Cause) (x : ℕ) → Codes x (Err k) → x < empty_cell → A
unfolding cell_of
no_value_lem k x h l = let b = end_high k in let none : ⊥ = omega (arith, h.is) in absurd none

-- A value by its cell

pub payload_is : (v : Value) → SFits w32 (number_of v) → payload (value_cell v) ≡ number_of v
unfolding value_cell
payload_is (Truth false) f = refl
payload_is (Truth true) f = refl
payload_is (Number z) f =
    let e : (zero_cell + of_z w32 z) % 4294967296 ≡ of_z w32 z = omega (arith, (Fits-of_z f).fits) in
    rw e (to_z-of_z f)

shifted : (k a b : ℕ) → eqb (k + a) (k + b) ≡ eqb a b
shifted k a b = go (eqb a b) refl
  where
    go : (t : Bool) → eqb a b ≡ t → eqb (k + a) (k + b) ≡ t
    go true e = eq-eqb (k + a) (k + b) (omega (arith, eqb-true a b e))
    go false e = ne_eqb (k + a) (k + b) (λ h. eqb-false a b e (omega arith))

same : (v w : Value) → SFits w32 (number_of v) → SFits w32 (number_of w) → eqb (value_cell v) (value_cell w) ≡ equal v w
unfolding value_cell
same (Truth false) (Truth false) f g = refl
same (Truth false) (Truth true) f g = refl
same (Truth true) (Truth false) f g = refl
same (Truth true) (Truth true) f g = refl
same (Truth false) (Number z) f g = ne_eqb no_cell (zero_cell + of_z w32 z) (λ e. omega arith)
same (Truth true) (Number z) f g = ne_eqb yes_cell (zero_cell + of_z w32 z) (λ e. omega arith)
same (Number z) (Truth false) f g = ne_eqb (zero_cell + of_z w32 z) no_cell (λ e. omega arith)
same (Number z) (Truth true) f g = ne_eqb (zero_cell + of_z w32 z) yes_cell (λ e. omega arith)
same (Number y) (Number z) f g = shifted zero_cell (of_z w32 y) (of_z w32 z) ∙ equal_bits y z f g

-- yes is the cell of yes alone
yes_cell_lem : (v : Value) → eqb (value_cell v) yes_cell ≡ truth_of v
unfolding value_cell
yes_cell_lem (Truth false) = refl
yes_cell_lem (Truth true) = refl
yes_cell_lem (Number z) = ne_eqb (zero_cell + of_z w32 z) yes_cell (λ e. omega arith)

pub is_yes : (v : Value) (x : ℕ) → Codes x (Ok v) → eqb x yes_cell ≡ truth_of v
unfolding cell_of
is_yes v x h = rw h.is (yes_cell_lem v)

pub is_number : (v : Value) (x : ℕ) → Codes x (Ok v) → payload x ≡ number_of v
unfolding cell_of
is_number v x h = rw h.is (payload_is v h.fits)

pub are_same : (v w : Value) (x y : ℕ) → Codes x (Ok v) → Codes y (Ok w) → eqb x y ≡ equal v w
unfolding cell_of
are_same v w x y h k = rw (h.is, k.is) (same v w h.fits k.fits)
