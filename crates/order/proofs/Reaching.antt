-- Where every vertex left depends on one that is left, some vertex reaches itself.
--     cycle    from a vertex that is left, a walk along those dependencies comes back to a vertex that it has passed
-- Assumes nothing.
use Prim.Native.Nat.{ℕ, zero, suc, ◌<◌, ◌≤◌, ◌+◌}
use mathlib.Core.Path.{◌≡◌, ap, ◌∙◌}
use mathlib.Core.Bool.{Bool, true, false, false≢true}
use mathlib.Core.Logic.{⊎_elim}
use native.Mathlib.Omega.{arith}
use lib.Dec.{eqb}
use borrow.Author.Tests.{eqb-true}
use Rattle.order.specs.Reaching.{Reaches}
use Rattle.laws.proofs.Booleans.{decide, or_cases}
use Rattle.order.proofs.Count.{count, with_one, count_lacks, count_more}

module _ (edge : ℕ → ℕ → Bool) (n : ℕ) where
  further : {u v w : ℕ} → Reaches edge n u v → w < n → edge v w ≡ true → Reaches edge n u w
  further (Reaches.direct l e) h d = Reaches.through l e (Reaches.direct h d)
  further (Reaches.through l e r) h d = Reaches.through l e (further r h d)

  module _ (left : ℕ → Bool)
      (step : (v : ℕ) → v < n → left v ≡ true → (w : ℕ) × (w < n) × (edge v w ≡ true) × (left w ≡ true)) where
    -- the vertices passed, marked by p, all reach v; f more turns pass all n
    walk : (f : ℕ) (p : ℕ → Bool) (v : ℕ) → n ≤ count p n + f → v < n → left v ≡ true
        → ((u : ℕ) → p u ≡ true → Reaches edge n u v) → (u : ℕ) × (u < n) × Reaches edge n u u
    walk zero p v big l o reach =
        ⊎_elim (λ q. (v, l, reach v q)) (λ q. let c = count_lacks p n v l q in absurd (omega arith)) (decide (p v))
    walk (suc f) p v big l o reach =
        ⊎_elim
        (λ q. (v, l, reach v q))
        (λ q.
        let s = step v l o in
        let c = count_more p n v l q in
        walk f (with_one p v) s.0 (omega arith) s.1 s.3
        (λ u m.
        ⊎_elim
        (λ a. further (reach u a) s.1 s.2)
        (λ a. Reaches.direct s.1 (ap (λ (k : ℕ). edge k s.0) (eqb-true u v a) ∙ s.2))
        (or_cases (p u) (eqb u v) m)))
        (decide (p v))

    pub cycle : (v : ℕ) → v < n → left v ≡ true → (u : ℕ) × (u < n) × Reaches edge n u u
    cycle v l o = walk n (λ w. false) v (omega arith) l o (λ u m. absurd (false≢true m))
