-- How many numbers below n have a property.
--     count_bound    at most n
--     count_lacks    fewer than n, where one lacks it
--     count_all      n, where all have it
--     count_same     it depends only on the numbers below n
--     count_more     one more, where one that lacked it is given it
--     count_none     0, where none has it
-- Assumes nothing.
use Prim.Native.Nat.{ℕ, zero, suc, ◌<◌, ◌≤◌, ◌+◌}
use mathlib.Core.Path.{◌≡◌, refl, sym, ap, ◌∙◌}
use mathlib.Core.Bool.{Bool, true, false, cond, ◌||◌, or-true, or-false}
use mathlib.Core.Logic.{⊎_elim}
use native.Mathlib.Omega.{arith}
use native.Mathlib.Nat.{eq-or-lt_of_le}
use lib.Dec.{eqb}
use borrow.Author.Tests.{eq-eqb, ne_eqb}
use Rattle.laws.proofs.Booleans.{decide}

unfoldable pub count : (ℕ → Bool) → ℕ → ℕ
count p zero = 0
count p (suc n) = cond (p n) 1 0 + count p n

-- p, and v too
abbrev pub with_one : (ℕ → Bool) → ℕ → ℕ → Bool
with_one p v w = p w || eqb w v

pub count_bound : (p : ℕ → Bool) (n : ℕ) → count p n ≤ n
unfolding count
count_bound p zero = omega arith
count_bound p (suc n) =
    let h = count_bound p n in
    ⊎_elim (λ q. rw q (omega arith)) (λ q. rw q (omega arith)) (decide (p n))

pub count_lacks : (p : ℕ → Bool) (n v : ℕ) → v < n → p v ≡ false → count p n < n
unfolding count
count_lacks p zero v h q = absurd (omega arith)
count_lacks p (suc n) v h q =
    ⊎_elim
    (λ e. let b = count_bound p n in let here : p n ≡ false = ap p (sym e) ∙ q in rw here (omega arith))
    (λ l. let r = count_lacks p n v l q in ⊎_elim (λ e. rw e (omega arith)) (λ e. rw e (omega arith)) (decide (p n)))
    (eq-or-lt_of_le {n = v} {m = n} (omega arith))

pub count_all : (p : ℕ → Bool) (n : ℕ) → ((v : ℕ) → v < n → p v ≡ true) → count p n ≡ n
unfolding count
count_all p zero h = refl
count_all p (suc n) h = let r = count_all p n (λ v l. h v (omega arith)) in rw (h n (omega arith)) (omega arith)

pub count_same : (p q : ℕ → Bool) (n : ℕ) → ((v : ℕ) → v < n → p v ≡ q v) → count p n ≡ count q n
unfolding count
count_same p q zero h = refl
count_same p q (suc n) h = let r = count_same p q n (λ v l. h v (omega arith)) in cc (h n (omega arith))

pub count_more : (p : ℕ → Bool) (n v : ℕ) → v < n → p v ≡ false → count (with_one p v) n ≡ suc (count p n)
unfolding count
count_more p zero v h q = absurd (omega arith)
count_more p (suc n) v h q =
    ⊎_elim
    (λ (e : v ≡ n).
    let old : count (with_one p v) n ≡ count p n =
    count_same (with_one p v) p n (λ w l. ap (λ (b : Bool). p w || b) (ne_eqb w v (omega arith)) ∙ or-false (p w)) in
    let here : with_one p v n ≡ true = rw (eq-eqb n v (sym e)) (or-true (p n)) in
    let there : p n ≡ false = ap p (sym e) ∙ q in
    rw (here, there) (omega arith))
    (λ l.
    let old : count (with_one p v) n ≡ suc (count p n) = count_more p n v l q in
    let here : with_one p v n ≡ p n = rw (ne_eqb n v (omega arith)) (or-false (p n)) in
    rw here (omega arith))
    (eq-or-lt_of_le {n = v} {m = n} (omega arith))

pub count_none : (n : ℕ) → count (λ w. false) n ≡ 0
unfolding count
count_none zero = refl
count_none (suc n) = let r = count_none n in omega arith
