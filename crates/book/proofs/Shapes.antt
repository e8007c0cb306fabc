-- Every kind's shape, and the order of records.
--     at_every       what every element of a list has, the one at a place has
--     shape_below    a number of every kind's shape is at most n, where the table of kinds says so
--     stage_below    every kind has a stage of at most 5
--     either         of a disjunction that holds, where one part fails the other holds
--     in_order_lem       a record that follows another and begins nothing new is of the same stage or a later one
-- Assumes nothing.
use Prim.Native.Nat.{ℕ, zero, suc, ◌≤◌}
use mathlib.Core.Path.{◌≡◌}
use mathlib.Core.Bool.{Bool, true, false, ◌&&◌, ◌||◌, true≢false}
use mathlib.Core.List.{List, [], ◌∷◌}
use native.Mathlib.Omega.{arith}
use lib.ListN.{get_or}
use lib.Dec.{T, eqb, leb, leb→le}
use borrow.Author.Tests.{ne_eqb, leb-true}
use Rattle.laws.proofs.Booleans.{both}
use Rattle.record.proofs.Decision.{and_l, and_r}
use Rattle.record.specs.Kinds.{kinds, shapes_of, pick_shape, shape_in}
use Rattle.record.specs.declared.Medium.{Medium}
use Rattle.record.specs.declared.Medium.TheVariants.{Book}
use Rattle.record.specs.declared.Shape.{Shape}
use Rattle.book.specs.Records.{follows}

-- every element of a list, and what stands past its end, has p
unfoldable pub every : {A : Type 0} → (A → Bool) → List A → Bool
every p [] = true
every p (x ∷ xs) = p x && every p xs

pub at_every : {A : Type 0} (p : A → Bool) (xs : List A) (d : A) → T (every p xs) → T (p d) → (k : ℕ) → T (p (get_or xs k d))
unfolding every
at_every p [] d h e k = e
at_every p (x ∷ xs) d h e zero = and_l (p x) (every p xs) h
at_every p (x ∷ xs) d h e (suc k) = at_every p xs d (and_r (p x) (every p xs) h) e k

pub shape_below : (m : Medium) (f : Shape → ℕ) (n : ℕ) → T (every (λ s. leb (f (pick_shape m s)) n) kinds) → T (leb (f (pick_shape m (shapes_of 0))) n)
    → (k : ℕ) → f (shape_in m k) ≤ n
unfolding shape_in shapes_of kinds
shape_below m f n h e k = leb→le (f (shape_in m k)) n (at_every (λ s. leb (f (pick_shape m s)) n) kinds (shapes_of 0) h e k)

pub stage_below : (k : ℕ) → (shape_in Book k).stage ≤ 5
unfolding shape_in shapes_of kinds every
stage_below k = shape_below Book (λ s. s.stage) 5 tt tt k

pub either : (a b : Bool) → (a || b) ≡ true → a ≡ false → b ≡ true
either true b e h = absurd (true≢false h)
either false b e h = e

pub in_order_lem : (last st : ℕ) → follows last st ≡ true → 2 ≤ st → (1 ≤ last) × (last ≤ st)
unfolding follows
in_order_lem last st e h =
    let q = either (eqb st 1) (leb 1 last && leb last st) e (ne_eqb st 1 (omega arith)) in
    let o = both (leb 1 last) (leb last st) q in
    (leb-true 1 last o.0, leb-true last st o.1)
