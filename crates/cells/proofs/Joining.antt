-- Joined values by their cells.
--     joined_decoded       a cell that was made of exceptions so far holds them
--     join_case            the cell that each of the nine cases gives
--     many_first           many on the left gives many
--     join_decoded         the cell that two cells join to holds what they hold, joined
--     join_gathers         the same of exceptions so far
-- Assumes nothing.
use Prim.Native.Nat.{ℕ}
use mathlib.Core.Path.{◌≡◌, refl, sym, ap, ◌∙◌}
use mathlib.Core.Bool.{Bool, true, false, cond}
use native.Mathlib.Omega.{arith}
use lib.Dec.{eqb, ltb}
use borrow.Author.Tests.{lt-ltb, ne_eqb}
use Rattle.std.specs.Prelude.{Ok}
use Rattle.calculus.specs.Joining.{join}
use Rattle.calculus.proofs.Numbers.{zero_fits}
use Rattle.calculus.specs.declared.Joined.{Joined}
use Rattle.calculus.specs.declared.Joined.TheVariants.{Nothing, One, Many}
use Rattle.cells.specs.Codec.{many_cell, value_cell, value_of, gathered_cell, Gathers}
use Rattle.cells.specs.Joining.{joined_of, cell_from, join_cell}
use Rattle.cells.proofs.Codec.{value_decoded, value_high, value_low}

pub joined_decoded : (j : Joined) (c : ℕ) → Gathers c (Ok j) → joined_of c ≡ j
unfolding joined_of gathered_cell
joined_decoded Nothing c h = rw h.is
joined_decoded (One v) c h =
    let l = value_high v in
    rw (h.is, ne_eqb (value_cell v) 0 (λ e. omega arith), lt-ltb (value_cell v) many_cell (value_low v h.fits), value_decoded v h.fits)
joined_decoded Many c h = rw h.is

abbrev is_nothing : Joined → Bool
is_nothing Nothing = true
is_nothing (One v) = false
is_nothing Many = false

-- of two cells, the one that is not nothing's
filled : (a b : ℕ) → cond (is_nothing (joined_of a)) b a ≡ cond (eqb a 0) b a
unfolding joined_of
filled a b = go (eqb a 0) (ltb a many_cell)
  where
    go : (p q : Bool) → cond (is_nothing (cond p Nothing (cond q (One (value_of a)) Many))) b a ≡ cond p b a
    go true q = refl
    go false true = refl
    go false false = refl

-- the cell of one of the nine cases
abbrev cell_in : ℕ → ℕ → Joined → Joined → ℕ
cell_in a b Nothing Nothing = 0
cell_in a b Nothing (One v) = b
cell_in a b Nothing Many = many_cell
cell_in a b (One u) Nothing = a
cell_in a b (One u) (One v) = many_cell
cell_in a b (One u) Many = many_cell
cell_in a b Many Nothing = many_cell
cell_in a b Many (One v) = many_cell
cell_in a b Many Many = many_cell

pub join_case : (a b : ℕ) {j k : Joined} → joined_of a ≡ j → joined_of b ≡ k → cell_in a b j k ≡ join_cell a b
unfolding join_cell
join_case a b {j} {k} e f = rw (e, f) (go j k (rw (← e) (filled a b)))
  where
    go : (j k : Joined) → cond (is_nothing j) b a ≡ cond (eqb a 0) b a → cell_in a b j k ≡ cell_from a b (join j k)
    go Nothing Nothing e = refl
    go Nothing (One v) e = e
    go Nothing Many e = refl
    go (One u) Nothing e = e
    go (One u) (One v) e = refl
    go (One u) Many e = refl
    go Many Nothing e = refl
    go Many (One v) e = refl
    go Many Many e = refl

-- many with whatever the other cell holds
pub many_first : (a b : ℕ) → joined_of a ≡ Many → many_cell ≡ join_cell a b
many_first a b e = go (joined_of b) refl
  where
    go : (k : Joined) → joined_of b ≡ k → many_cell ≡ join_cell a b
    go Nothing f = join_case a b e f
    go (One v) f = join_case a b e f
    go Many f = join_case a b e f

pub join_decoded : (a b : ℕ) → joined_of (join_cell a b) ≡ join (joined_of a) (joined_of b)
unfolding joined_of
join_decoded a b = ap joined_of (sym (join_case a b refl refl)) ∙ go (joined_of a) (joined_of b) refl refl
  where
    go : (j k : Joined) → joined_of a ≡ j → joined_of b ≡ k → joined_of (cell_in a b j k) ≡ join j k
    go Nothing Nothing e f = refl
    go Nothing (One v) e f = f
    go Nothing Many e f = refl
    go (One u) Nothing e f = e
    go (One u) (One v) e f = refl
    go (One u) Many e f = refl
    go Many Nothing e f = refl
    go Many (One v) e f = refl
    go Many Many e f = refl

pub join_gathers : (j k : Joined) (a b : ℕ) → Gathers a (Ok j) → Gathers b (Ok k) → Gathers (join_cell a b) (Ok (join j k))
unfolding gathered_cell
join_gathers j k a b h i = rw (← join_case a b (joined_decoded j a h) (joined_decoded k b i)) (go j k h i)
  where
    many : Gathers many_cell (Ok Many)
    many = record { is = refl; fits = zero_fits }

    go : (j k : Joined) → Gathers a (Ok j) → Gathers b (Ok k) → Gathers (cell_in a b j k) (Ok (join j k))
    go Nothing Nothing h i = record { is = refl; fits = zero_fits }
    go Nothing (One v) h i = i
    go Nothing Many h i = many
    go (One u) Nothing h i = h
    go (One u) (One v) h i = many
    go (One u) Many h i = many
    go Many Nothing h i = many
    go Many (One v) h i = many
    go Many Many h i = many
