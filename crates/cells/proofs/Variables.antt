-- The cells of variables.
--     given_cell         a value stored in a cell and read again is the value
--     held_is            what a variable holds where it is read
--     kept_nothing ..    cells that are nothing or a value's
-- Assumes nothing.
use Prim.Native.Nat.{ℕ, zero, suc, ◌%◌}
use mathlib.Core.Path.{◌≡◌, refl, ap}
use mathlib.Core.Bool.{Bool, true, false, cond}
use mathlib.Core.List.{List, [], ◌∷◌}
use native.Mathlib.Omega.{arith}
use lib.ListN.{set}
use lib.Dec.{eqb, ltb}
use mir.Syntax.{w32}
use mir.Val.{SFits}
use mir.ValLaws.{to_z-Fits}
use borrow.Author.Tests.{eqb-true, ne_eqb}
use Rattle.std.specs.Prelude.{Ok, None, Some}
use Rattle.calculus.specs.Values.{number_of}
use Rattle.calculus.proofs.Numbers.{zero_fits}
use Rattle.calculus.specs.declared.Value.{Value}
use Rattle.calculus.specs.declared.Value.TheVariants.{Truth, Number}
use Rattle.cells.specs.Codec.{value_cell, cell_of, payload, value_of, Codes, Kept, AllKept}
use Rattle.cells.specs.Cells.{given_of, held}
use Rattle.cells.proofs.Codec.{value_decoded, value_high}

pub given_cell : (v : Value) → SFits w32 (number_of v) → given_of (value_cell v) ≡ Some v
unfolding given_of
given_cell v f = let l = value_high v in rw (ne_eqb (value_cell v) 0 (λ e. omega arith)) (ap Some (value_decoded v f))

nothing_is_no : (n : ℕ) → n ≡ 0 → Truth false ≡ value_of n
unfolding value_of
nothing_is_no n e = rw e

pub held_is : (c : ℕ) → held (given_of c) ≡ value_of c
unfolding given_of
held_is c = go (eqb c 0) refl
  where
    go : (b : Bool) → eqb c 0 ≡ b → held (cond b None (Some (value_of c))) ≡ value_of c
    go true e = nothing_is_no c (eqb-true c 0 e)
    go false e = refl

-- the number in a cell is one of 32 bits, whatever the cell
pub value_fits : (c : ℕ) → SFits w32 (number_of (value_of c))
unfolding value_of
value_fits c = go (ltb c _) (eqb c _)
  where
    go : (a b : Bool) → SFits w32 (number_of (cond a (Truth b) (Number (payload c))))
    go true b = zero_fits
    go false b = to_z-Fits w32 (c % 4294967296) (record { fits = omega arith })

pub kept_nothing : Kept 0
unfolding cell_of value_of value_cell
kept_nothing = record { is = refl; fits = zero_fits }

pub kept_value : (c : ℕ) (v : Value) → Codes c (Ok v) → Kept c
unfolding cell_of
kept_value c v h =
    let l = value_high v in
    let e : c ≡ value_cell v = h.is in
    let d : value_of c ≡ v = rw e (value_decoded v h.fits) in
    rw (ne_eqb c 0 (λ z. omega arith), d) h

pub kept_put : (cells : List ℕ) (at c : ℕ) → Kept c → AllKept cells → AllKept (set cells at c)
kept_put [] at c k h x = h x
kept_put (y ∷ cells) zero c k h zero = k
kept_put (y ∷ cells) zero c k h (suc x) = h (suc x)
kept_put (y ∷ cells) (suc at) c k h zero = h zero
kept_put (y ∷ cells) (suc at) c k h (suc x) = kept_put cells at c k (λ x. h (suc x)) x

pub kept_stored : (cells : List ℕ) (at : ℕ) (v : Value) → SFits w32 (number_of v) → AllKept cells → AllKept (set cells at (value_cell v))
unfolding cell_of
kept_stored cells at v f h = kept_put cells at (value_cell v) (kept_value (value_cell v) v (record { is = refl; fits = f })) h
