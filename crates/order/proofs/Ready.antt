-- Laws of readiness.
--     unmet_here, met-done, met-none           whether a dependency is unmet
--     unmet_none                               a dependency that is not unmet is done
--     lacks_more                               a number more that lacks a property
--     ready_now, ready-blocked, ready-done     whether a vertex is ready
--     ready_new, ready-met                     a ready vertex is not done, and all that it depends on is
--     blocked                                  a vertex that is neither done nor ready depends on one that is not done
--     next_before                              no vertex of lower number than the next one is ready
--     next_bound                               the next vertex is n at most
--     next_ready                               the next vertex, where it is below n, is ready
--     next_unmet                               it depends only on which dependencies among the vertices below n are unmet
--     next_congruent                           it depends only on the edges among the vertices below n and on which of them are done
-- Assumes nothing.
use Prim.Native.Nat.{ℕ, ◌<◌, ◌≤◌, ◌+◌}
use mathlib.Core.Path.{◌≡◌, refl, sym, ap, ◌∙◌}
use mathlib.Core.Bool.{Bool, true, false, not, false≢true, and-false}
use mathlib.Core.Logic.{⊎_elim}
use native.Mathlib.Omega.{arith}
use lib.Dec.{eqb}
use borrow.Author.Tests.{eq-eqb, eqb-true, eqb-false, not-true, not-false}
use Rattle.order.specs.Search.{none}
use Rattle.order.specs.Order.{unmet, ready, next}
use Rattle.laws.proofs.Booleans.{decide, both}
use Rattle.order.proofs.Search.{lowest_has, lowest_before, lowest_bound, lowest_congruent, none_each, none_not, left_from, left_end}

module _ (edge : ℕ → ℕ → Bool) (done : ℕ → Bool) (v w : ℕ) where
  pub unmet_here : edge v w ≡ true → done w ≡ false → unmet edge done v w ≡ true
  unfolding unmet
  unmet_here e d = rw (e, d)

  pub met_done : done w ≡ true → unmet edge done v w ≡ false
  unfolding unmet
  met_done d = rw d (and-false (edge v w))

  pub met_none : edge v w ≡ false → unmet edge done v w ≡ false
  unfolding unmet
  met_none e = rw e

  pub unmet_none : unmet edge done v w ≡ false → edge v w ≡ true → done w ≡ true
  unfolding unmet
  unmet_none u e = not-false (done w) (rw e at u)

-- what holds below w and at w holds below the next
pub lacks_more : (p : ℕ → Bool) (w : ℕ) → ((u : ℕ) → u < w → p u ≡ false) → p w ≡ false → (u : ℕ) → u < w + 1 → p u ≡ false
lacks_more p w lacks here u h =
    ⊎_elim
    (λ (q : eqb u w ≡ true). ap p (eqb-true u w q) ∙ here)
    (λ (q : eqb u w ≡ false). let d = eqb-false u w q in lacks u (omega arith))
    (decide (eqb u w))

module _ (edge : ℕ → ℕ → Bool) (n : ℕ) (done : ℕ → Bool) where
  pub ready_met : (v w : ℕ) → ready edge n done v ≡ true → w < n → edge v w ≡ true → done w ≡ true
  unfolding ready unmet
  ready_met v w r h e =
      let m = none_each (unmet edge done v) n (both (not (done v)) _ r).1 w h in
      not-false (done w) (rw e at m)

  pub ready_now : (v w : ℕ) → done v ≡ false → ((u : ℕ) → u < w → unmet edge done v u ≡ false) → n ≤ w → ready edge n done v ≡ true
  unfolding ready none
  ready_now v w d lacks h =
      rw d
      (eq-eqb _ n
      (sym (left_from (unmet edge done v) n n (omega arith) (λ u l. lacks u (omega arith))) ∙ left_end (unmet edge done v) n n refl))

  pub ready_blocked : (v w : ℕ) → w < n → edge v w ≡ true → done w ≡ false → ready edge n done v ≡ false
  ready_blocked v w h e d =
      ⊎_elim
      (λ r. absurd (false≢true (sym d ∙ ready_met v w r h e)))
      (λ r. r)
      (decide (ready edge n done v))

  pub ready_done : (v : ℕ) → done v ≡ true → ready edge n done v ≡ false
  unfolding ready
  ready_done v d = rw d

  pub ready_new : (v : ℕ) → ready edge n done v ≡ true → done v ≡ false
  unfolding ready
  ready_new v r = not-true (done v) (both (not (done v)) _ r).0

  pub blocked : (v : ℕ) → ready edge n done v ≡ false → done v ≡ false → (w : ℕ) × (w < n) × (edge v w ≡ true) × (done w ≡ false)
  unfolding ready unmet
  blocked v r d =
      let a = none_not (unmet edge done v) n (rw d at r) in
      let b = both (edge v a.0) _ a.2 in
      (a.0, a.1, b.0, not-true (done a.0) b.1)

  pub next_bound : (v : ℕ) → v ≡ next edge n done → v ≤ n
  unfolding next
  next_bound v e = rw e (lowest_bound (ready edge n done) n)

  pub next_ready : next edge n done < n → ready edge n done (next edge n done) ≡ true
  unfolding next
  next_ready h = lowest_has (ready edge n done) n h

  pub next_before : (v : ℕ) → v < next edge n done → ready edge n done v ≡ false
  unfolding next
  next_before v h = lowest_before (ready edge n done) n v h

pub next_unmet : (edge edge' : ℕ → ℕ → Bool) (n : ℕ) (done : ℕ → Bool)
    → ((v w : ℕ) → v < n → w < n → unmet edge done v w ≡ unmet edge' done v w) → next edge n done ≡ next edge' n done
unfolding next ready none
next_unmet edge edge' n done same =
    lowest_congruent (ready edge n done) (ready edge' n done) n
    (λ v h. let found = lowest_congruent (unmet edge done v) (unmet edge' done v) n (λ w l. same v w h l) in rw found refl)

pub next_congruent : (edge edge' : ℕ → ℕ → Bool) (n : ℕ) (done done' : ℕ → Bool)
    → ((v w : ℕ) → v < n → w < n → edge v w ≡ edge' v w)
    → ((v : ℕ) → v < n → done v ≡ done' v)
    → next edge n done ≡ next edge' n done'
unfolding next ready none unmet
next_congruent edge edge' n done done' edges dones =
    lowest_congruent (ready edge n done) (ready edge' n done') n
    (λ v h.
    let same = lowest_congruent (unmet edge done v) (unmet edge' done' v) n (λ w l. cc (edges v w h l, dones w l)) in
    cc (dones v h, same))
