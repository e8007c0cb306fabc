-- The blocks of accepted code, by their numbers.
--     back_all                      the blocks last first are those below their count
--     formed_at                     each block is well-formed over those below it
--     has_place                     a scope that has a block has a number
--     found_at                      what is found of a scope is found at its number
-- Assumes nothing.
use Prim.Native.Nat.{ℕ, zero, suc, ◌<◌, ◌≤◌}
use mathlib.Core.Path.{◌≡◌, refl, ap, sym, ◌∙◌}
use mathlib.Core.Bool.{true, cond, true≢false}
use mathlib.Core.List.{List, [], ◌∷◌, ◌++◌, reverse, reverse-cons}
use mathlib.Core.Logic.{⊎_elim}
use native.Mathlib.Omega.{arith}
use lib.ListN.{length, get_or}
use lib.Dec.{eqb, leb}
use borrow.Author.Tests.{eqb-true, eq-eqb, leb-true, leb-false}
use Rattle.laws.proofs.Booleans.{both, decide, or_cases}
use Rattle.book.specs.Lists.{any}
use Rattle.machine.specs.Blocks.{Block, empty_block, has_block}
use Rattle.machine.specs.Acceptance.{well_formed, all_well_formed}
use Rattle.blocks.specs.Entries.{back}

back_cons : (b : Block) (bs : List Block) (p : ℕ) → back (b ∷ bs) (suc p) ≡ back bs p ++ (b ∷ [])
unfolding back
back_cons b bs zero = refl
back_cons b bs (suc p) = ap (◌∷◌ (get_or bs p empty_block)) (back_cons b bs p)

pub back_all : (bs : List Block) → back bs (length bs) ≡ reverse bs
unfolding back
back_all [] = refl
back_all (b ∷ bs) = back_cons b bs (length bs) ∙ ap (λ (xs : List Block). xs ++ (b ∷ [])) (back_all bs) ∙ sym (reverse-cons b bs)

module _ (bs : List Block) where
  pub formed_below : (n p : ℕ) → p ≤ n → all_well_formed (back bs n) ≡ true → all_well_formed (back bs p) ≡ true
  unfolding back all_well_formed
  formed_below zero p l e = let z : p ≡ 0 = omega arith in rw z
  formed_below (suc n) p l e =
      ⊎_elim
      (λ q. formed_below n p (leb-true p n q) (both (well_formed (back bs n) (get_or bs n empty_block)) (all_well_formed (back bs n)) e).1)
      (λ q. let z : p ≡ suc n = omega (arith, leb-false p n q) in rw z e)
      (decide (leb p n))

  pub formed_at : (n p : ℕ) → p < n → all_well_formed (back bs n) ≡ true → well_formed (back bs p) (get_or bs p empty_block) ≡ true
  unfolding back all_well_formed
  formed_at n p l e = (both (well_formed (back bs p) (get_or bs p empty_block)) (all_well_formed (back bs p)) (formed_below n (suc p) l e)).0

  pub has_place : (p i : ℕ) → has_block (back bs p) i ≡ true → (q : ℕ) × (q < p) × ((get_or bs q empty_block).scope ≡ i)
  unfolding back has_block any
  has_place zero i e = absurd (true≢false (sym e))
  has_place (suc p) i e =
      ⊎_elim
      (λ r. (p, omega arith, eqb-true (get_or bs p empty_block).scope i r))
      (λ r. let k = has_place p i r in (k.0, omega (arith, k.1), k.2))
      (or_cases (eqb (get_or bs p empty_block).scope i) (any (λ b. eqb b.scope i) (back bs p)) e)

  -- a search through the blocks ends at the one block of a scope
  pub found_at : {A : Type 0} (i : ℕ) (F : List Block → A) (here : Block → List Block → A)
      → ((b : Block) (xs : List Block) → F (b ∷ xs) ≡ cond (eqb b.scope i) (here b xs) (F xs))
      → (q : ℕ) → (get_or bs q empty_block).scope ≡ i → (p : ℕ) → q < p → ((r : ℕ) → r < p → (get_or bs r empty_block).scope ≡ i → r ≡ q)
      → F (back bs p) ≡ here (get_or bs q empty_block) (back bs q)
  unfolding back
  found_at i F here k q e zero l one = absurd (omega arith)
  found_at i F here k q e (suc p) l one =
      ⊎_elim
      (λ r.
      let z : p ≡ q = one p (omega arith) (eqb-true (get_or bs p empty_block).scope i r) in
      k (get_or bs p empty_block) (back bs p) ∙ rw r (rw z))
      (λ r.
      let ne : p ≡ q → ⊥ = λ z. true≢false (sym (eq-eqb (get_or bs p empty_block).scope i (rw z e)) ∙ r) in
      k (get_or bs p empty_block) (back bs p) ∙ rw r (found_at i F here k q e p (omega arith) (λ s m f. one s (omega arith) f)))
      (decide (eqb (get_or bs p empty_block).scope i))
