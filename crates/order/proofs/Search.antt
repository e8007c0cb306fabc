-- Laws of the search for the lowest number that has a property.
--     lowest_before       no number lower than the one found has it
--     lowest_bound        the search finds n at most
--     lowest_has          what is found below n has it
--     lowest_congruent    what is found depends only on the numbers below n
--     none_each           where none has it, each number below n lacks it
--     none_not            where it is not so that none has it, some number below n has
--     left_start, left_end, left_step, left_here    what is left of the search at v, in a loop that counts v up to n
--     left_from                                     the same, in a loop that starts at k, where no number below k has it
-- Assumes nothing.
use Prim.Native.Nat.{ℕ, zero, suc, ◌<◌, ◌≤◌, ◌+◌, ◌-◌}
use mathlib.Core.Path.{◌≡◌, refl, sym, ap, ◌∙◌}
use mathlib.Core.Bool.{Bool, true, false}
use mathlib.Core.Logic.{⊎_elim}
use native.Mathlib.Omega.{arith}
use native.Mathlib.Nat.{eq-or-lt_of_le}
use native.Mathlib.Numerals.{add-one}
use borrow.Author.Tests.{eqb-true, eqb-false}
use Rattle.order.specs.Search.{lowest_from, lowest, none}
use Rattle.laws.proofs.Booleans.{decide}

before_from : (p : ℕ → Bool) (k m : ℕ) (w : ℕ) → k ≤ w → w < lowest_from p k m → p w ≡ false
unfolding lowest_from
before_from p k zero w l h = absurd (omega arith)
before_from p k (suc m) w l h =
    ⊎_elim
    (λ q. let h' : w < k = rw q at h in absurd (omega arith))
    (λ q.
    let h' : w < lowest_from p (suc k) m = rw q at h in
    ⊎_elim (λ e. ap p (sym e) ∙ q) (λ less. before_from p (suc k) m w (omega arith) h') (eq-or-lt_of_le l))
    (decide (p k))

bound_from : (p : ℕ → Bool) (k m : ℕ) → lowest_from p k m ≤ k + m
unfolding lowest_from
bound_from p k zero = omega arith
bound_from p k (suc m) =
    let later = bound_from p (suc k) m in
    ⊎_elim (λ q. rw q (omega arith)) (λ q. rw q (omega arith)) (decide (p k))

has_from : (p : ℕ → Bool) (k m : ℕ) → lowest_from p k m < k + m → p (lowest_from p k m) ≡ true
unfolding lowest_from
has_from p k zero h = absurd (omega arith)
has_from p k (suc m) h =
    ⊎_elim
    (λ q. rw q q)
    (λ q. let h' : lowest_from p (suc k) m < k + suc m = rw q at h in rw q (has_from p (suc k) m (omega arith)))
    (decide (p k))

congruent_from : (p q : ℕ → Bool) (k m : ℕ) → ((w : ℕ) → w < k + m → p w ≡ q w) → lowest_from p k m ≡ lowest_from q k m
unfolding lowest_from
congruent_from p q k zero same = refl
congruent_from p q k (suc m) same =
    let later = congruent_from p q (suc k) m (λ w h. same w (omega arith)) in
    rw (same k (omega arith), later)

pub lowest_before : (p : ℕ → Bool) (n w : ℕ) → w < lowest p n → p w ≡ false
unfolding lowest
lowest_before p n w h = before_from p 0 n w (omega arith) h

pub lowest_bound : (p : ℕ → Bool) (n : ℕ) → lowest p n ≤ n
unfolding lowest
lowest_bound p n = let b = bound_from p 0 n in omega arith

pub lowest_has : (p : ℕ → Bool) (n : ℕ) → lowest p n < n → p (lowest p n) ≡ true
unfolding lowest
lowest_has p n h = has_from p 0 n (omega arith)

pub lowest_congruent : (p q : ℕ → Bool) (n : ℕ) → ((w : ℕ) → w < n → p w ≡ q w) → lowest p n ≡ lowest q n
unfolding lowest
lowest_congruent p q n same = congruent_from p q 0 n (λ w h. same w (omega arith))

pub none_each : (p : ℕ → Bool) (n : ℕ) → none p n ≡ true → (w : ℕ) → w < n → p w ≡ false
unfolding none
none_each p n e w h = let f = eqb-true (lowest p n) n e in lowest_before p n w (omega arith)

pub none_not : (p : ℕ → Bool) (n : ℕ) → none p n ≡ false → (w : ℕ) × (w < n) × (p w ≡ true)
unfolding none
none_not p n e =
    let d = eqb-false (lowest p n) n e in
    let b = lowest_bound p n in
    let h : lowest p n < n = omega arith in
    (lowest p n, h, lowest_has p n h)

left_more : (n v : ℕ) → v < n → n - v ≡ suc (n - suc v)
left_more n v h = omega arith

left_none : (n : ℕ) → n - n ≡ 0
left_none n = omega arith

left_all : (n : ℕ) → n - 0 ≡ n
left_all n = omega arith

module _ (p : ℕ → Bool) (n : ℕ) where
  pub left_start : lowest_from p 0 (n - 0) ≡ lowest p n
  unfolding lowest
  left_start = rw left_all

  pub left_end : (v : ℕ) → v ≡ n → lowest_from p v (n - v) ≡ n
  unfolding lowest_from
  left_end v e = rw (e, left_none)

  pub left_step : (v : ℕ) → v < n → p v ≡ false → lowest_from p (v + 1) (n - (v + 1)) ≡ lowest_from p v (n - v)
  unfolding lowest_from
  left_step v h e = rw (left_more n v h, e, add-one v)

  pub left_here : (v : ℕ) → v < n → p v ≡ true → lowest_from p v (n - v) ≡ v
  unfolding lowest_from
  left_here v h e = rw (left_more n v h, e)

  pub left_from : (k : ℕ) → k ≤ n → ((w : ℕ) → w < k → p w ≡ false) → lowest_from p k (n - k) ≡ lowest p n
  left_from zero b lacks = left_start
  left_from (suc k) b lacks =
      let step = left_step k (omega arith) (lacks k (omega arith)) in
      (rw (add-one k) at step) ∙ left_from k (omega arith) (λ w h. lacks w (omega arith))
