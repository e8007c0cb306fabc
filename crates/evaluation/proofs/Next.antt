-- The next element of an order that is complete, where those in front of it are done.
--     next_below      it is one of the numbers below n
--     next_after      all that it depends on is done
--     next_new        it is not done itself
--     snoc_here, snoc_more, snoc_other, append_more, append_none    once it is done as well
-- Assumes nothing.
use Prim.Native.Nat.{ℕ, ◌<◌}
use mathlib.Core.Path.{◌≡◌, refl, sym, ap, subst, ◌∙◌}
use mathlib.Core.Bool.{Bool, true, false, ◌||◌, or-true, or-false}
use mathlib.Core.List.{List, [], ◌∷◌, ◌++◌}
use mathlib.Core.Logic.{⊎_elim}
use native.Mathlib.Omega.{arith}
use lib.ListN.{length, get_or, take, length-append, get_or-append}
use lib.Seq.{take-append_seam, get_or-append_seam}
use lib.Dec.{eqb}
use borrow.Author.Tests.{eq-eqb, ne_eqb}
use Rattle.order.specs.Order.{among}
use Rattle.laws.proofs.Booleans.{decide}
use Rattle.order.proofs.Among.{among_snoc, among_place}
use Rattle.acceptance.specs.Accepted.{CompleteOrder}

module _ (edge : ℕ → ℕ → Bool) (n : ℕ) (order : List ℕ) (complete : CompleteOrder edge n order)
    (x : ℕ) (xs done : List ℕ) (split : order ≡ done ++ x ∷ xs) where
  place : (length done < length order) × (get_or order (length done) 0 ≡ x)
  place = (rw split (omega (arith, length-append done (x ∷ xs))), rw split (get_or-append_seam done x xs 0))

  pub next_below : x < n
  next_below = subst (λ (y : ℕ). y < n) place.1 (complete.below (length done) place.0)

  pub next_after : (w : ℕ) → w < n → edge x w ≡ true → among done w ≡ true
  next_after w l e =
      ap (λ (ys : List ℕ). among ys w) (sym (ap (take (length done)) split ∙ take-append_seam done (x ∷ xs)))
      ∙ complete.after (length done) place.0 w l (ap (λ (y : ℕ). edge y w) place.1 ∙ e)

  pub next_new : among done x ≡ false
  next_new =
      ⊎_elim
      (λ (q : among done x ≡ true).
      let r = among_place done x q in
      let same : get_or order r.0 0 ≡ x =
      ap (λ (ys : List ℕ). get_or ys r.0 0) split ∙ get_or-append done (x ∷ xs) 0 r.0 r.1 ∙ r.2 in
      let z : r.0 ≡ length done =
      complete.once r.0 (length done) (omega (arith, place.0, r.1)) place.0 (same ∙ sym place.1) in
      absurd (omega (arith, z, r.1)))
      (λ (q : among done x ≡ false). q)
      (decide (among done x))

pub snoc_other : (done : List ℕ) (x w : ℕ) → (w ≡ x → ⊥) → among (done ++ x ∷ []) w ≡ among done w
snoc_other done x w ne = among_snoc done x w ∙ ap (λ (t : Bool). among done w || t) (ne_eqb w x ne) ∙ or-false (among done w)

pub snoc_here : (done : List ℕ) (x w : ℕ) → w ≡ x → among (done ++ x ∷ []) w ≡ true
snoc_here done x w e = among_snoc done x w ∙ ap (λ (t : Bool). among done w || t) (eq-eqb w x e) ∙ or-true (among done w)

pub snoc_more : (done : List ℕ) (x w : ℕ) → among done w ≡ true → among (done ++ x ∷ []) w ≡ true
snoc_more done x w m = among_snoc done x w ∙ ap (λ (t : Bool). t || eqb w x) m

pub append_more : (xs : List ℕ) (y : ℕ) (ys : List ℕ) → xs ++ y ∷ ys ≡ (xs ++ y ∷ []) ++ ys
append_more [] y ys = refl
append_more (x ∷ xs) y ys = ap (λ (zs : List ℕ). x ∷ zs) (append_more xs y ys)

pub append_none : (xs : List ℕ) → xs ++ [] ≡ xs
append_none [] = refl
append_none (x ∷ xs) = ap (λ (zs : List ℕ). x ∷ zs) (append_none xs)
