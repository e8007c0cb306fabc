-- The slots of targets, and the cells in which chains begin.
--     slot_bound                             no slot is above 288
--     slot_own, slot-called, slot-none       the slot of an own variable, of a sub-scope's, and of any other target
--     Fit                                    a target that has a slot of its own
--     slot_same                              a target that fits shares its slot with no other
--     head_base, head-exception              where the chain of a base begins, and where that of an exception does
--     in_exceptions, in-bases                the clauses of a chain: the exceptions of a clause, the bases of a target
-- Assumes nothing.
use Prim.Native.Nat.{ℕ, ◌<◌, ◌≤◌, ◌+◌, ◌*◌}
use mathlib.Core.Path.{◌≡◌, refl, sym, ap, ◌∙◌}
use mathlib.Core.Bool.{Bool, true, false, ◌&&◌, and-false, and-true}
use mathlib.Core.Logic.{◌⊎◌, ⊎_elim}
use native.Mathlib.Omega.{arith}
use lib.Dec.{eqb, ltb}
use borrow.Author.Tests.{ltb-true, ltb-false, eqb-true, eqb-false, lt-ltb, le-ltb, eq-eqb, ne_eqb}
use Rattle.laws.proofs.Booleans.{decide}
use Rattle.book.specs.Syntax.{same_target}
use Rattle.book.specs.Trees.{has_target, is_base}
use Rattle.book.specs.declared.Target.{Target}
use Rattle.book.specs.declared.Clause.{Clause}
use Rattle.links.specs.Links.{slot_of, head_of, in_chain}

module _ (t : Target) where
  pub slot_past : 32 ≤ t.variable → slot_of t ≡ 288
  unfolding slot_of
  slot_past h = rw (le-ltb t.variable 32 h)

  pub slot_own : t.variable < 32 → t.sub ≡ 255 → slot_of t ≡ t.variable
  unfolding slot_of
  slot_own h e = rw (lt-ltb t.variable 32 h, eq-eqb t.sub 255 e)

  pub slot_called : t.variable < 32 → (t.sub ≡ 255 → ⊥) → t.sub < 8 → slot_of t ≡ 32 + t.sub * 32 + t.variable
  unfolding slot_of
  slot_called h d l = rw (lt-ltb t.variable 32 h, ne_eqb t.sub 255 d, lt-ltb t.sub 8 l)

  pub slot_none : t.variable < 32 → (t.sub ≡ 255 → ⊥) → 8 ≤ t.sub → slot_of t ≡ 288
  unfolding slot_of
  slot_none h d l = rw (lt-ltb t.variable 32 h, ne_eqb t.sub 255 d, le-ltb t.sub 8 l)

-- the three ways in which a slot comes about
data Slot (sub variable slot : ℕ) : Type 0 where
  own : variable < 32 → sub ≡ 255 → slot ≡ variable → Slot sub variable slot
  called : variable < 32 → sub < 8 → slot ≡ 32 + sub * 32 + variable → Slot sub variable slot
  missing : slot ≡ 288 → Slot sub variable slot

slot_case : (t : Target) → Slot t.sub t.variable (slot_of t)
slot_case t =
    ⊎_elim
    (λ (q : ltb t.variable 32 ≡ true).
    let h = ltb-true t.variable 32 q in
    ⊎_elim
    (λ (r : eqb t.sub 255 ≡ true). let e = eqb-true t.sub 255 r in own h e (slot_own t h e))
    (λ (r : eqb t.sub 255 ≡ false).
    let d = eqb-false t.sub 255 r in
    ⊎_elim
    (λ (u : ltb t.sub 8 ≡ true). let l = ltb-true t.sub 8 u in called h l (slot_called t h d l))
    (λ (u : ltb t.sub 8 ≡ false). missing (slot_none t h d (ltb-false t.sub 8 u)))
    (decide (ltb t.sub 8)))
    (decide (eqb t.sub 255)))
    (λ (q : ltb t.variable 32 ≡ false). missing (slot_past t (ltb-false t.variable 32 q)))
    (decide (ltb t.variable 32))

bound : (s v n : ℕ) → Slot s v n → n ≤ 288
bound s v n (own h e p) = omega arith
bound s v n (called h l p) = omega arith
bound s v n (missing p) = omega arith

pub slot_bound : (t : Target) → slot_of t ≤ 288
slot_bound t = bound t.sub t.variable (slot_of t) (slot_case t)

pub record Fit (t : Target) : Type 0 where
  pub variable : t.variable < 32
  pub sub : (t.sub ≡ 255) ⊎ (t.sub < 8)

-- equal slots, the first of a target that fits
same : (s v n s' v' n' : ℕ) → n < 288 → Slot s v n → Slot s' v' n' → n ≡ n' → (s ≡ s') × (v ≡ v')
same s v n s' v' n' l (own h e p) (own h' e' p') q = (omega arith, omega arith)
same s v n s' v' n' l (own h e p) (called h' e' p') q = absurd (omega arith)
same s v n s' v' n' l (own h e p) (missing p') q = absurd (omega arith)
same s v n s' v' n' l (called h e p) (own h' e' p') q = absurd (omega arith)
same s v n s' v' n' l (called h e p) (called h' e' p') q = (omega arith, omega arith)
same s v n s' v' n' l (called h e p) (missing p') q = absurd (omega arith)
same s v n s' v' n' l (missing p) c q = absurd (omega arith)

pub fit_bound : (t : Target) → Fit t → slot_of t < 288
fit_bound t f =
    let h = f.variable in
    ⊎_elim
    (λ (e : t.sub ≡ 255). omega (arith, slot_own t h e))
    (λ (l : t.sub < 8). omega (arith, slot_called t h (λ e. omega arith) l))
    f.sub

alike : (t u : Target) → t.sub ≡ u.sub → t.variable ≡ u.variable → slot_of t ≡ slot_of u
unfolding slot_of
alike t u p q = rw (p, q)

pub slot_same : (t u : Target) → Fit t → eqb (slot_of t) (slot_of u) ≡ same_target t u
slot_same t u f =
    ⊎_elim
    (λ (q : eqb (slot_of t) (slot_of u) ≡ true).
    let e = same t.sub t.variable (slot_of t) u.sub u.variable (slot_of u) (fit_bound t f) (slot_case t) (slot_case u) (eqb-true (slot_of t) (slot_of u) q) in
    q ∙ sym (rw (eq-eqb t.sub u.sub e.0, eq-eqb t.variable u.variable e.1) refl))
    (λ (q : eqb (slot_of t) (slot_of u) ≡ false). q ∙ sym (differ q))
    (decide (eqb (slot_of t) (slot_of u)))
  where
    differ : eqb (slot_of t) (slot_of u) ≡ false → same_target t u ≡ false
    differ q =
        ⊎_elim
        (λ (a : eqb t.sub u.sub ≡ true).
        ⊎_elim
        (λ (b : eqb t.variable u.variable ≡ true).
        absurd (eqb-false (slot_of t) (slot_of u) q (alike t u (eqb-true t.sub u.sub a) (eqb-true t.variable u.variable b))))
        (λ (b : eqb t.variable u.variable ≡ false). rw (a, b))
        (decide (eqb t.variable u.variable)))
        (λ (a : eqb t.sub u.sub ≡ false). rw a)
        (decide (eqb t.sub u.sub))

module _ (c : Clause) where
  pub head_base : c.parent ≡ 255 → head_of c ≡ slot_of c.target
  unfolding head_of
  head_base e = rw (eq-eqb c.parent 255 e)

  pub head_exception : (c.parent ≡ 255 → ⊥) → head_of c ≡ 289 + c.parent
  unfolding head_of
  head_exception d = rw (ne_eqb c.parent 255 d)

  pub in_exceptions : (n : ℕ) → n < 128 → in_chain (289 + n) c ≡ eqb c.parent n
  in_exceptions n l =
      ⊎_elim
      (λ (q : eqb c.parent 255 ≡ true).
      let e = eqb-true c.parent 255 q in
      let b = slot_bound c.target in
      let h = head_base e in
      ne_eqb (head_of c) (289 + n) (λ p. omega arith) ∙ sym (ne_eqb c.parent n (λ p. omega arith)))
      (λ (q : eqb c.parent 255 ≡ false).
      let h = head_exception (eqb-false c.parent 255 q) in
      ⊎_elim
      (λ (r : eqb c.parent n ≡ true). let e = eqb-true c.parent n r in eq-eqb (head_of c) (289 + n) (omega arith) ∙ sym r)
      (λ (r : eqb c.parent n ≡ false).
      let d = eqb-false c.parent n r in
      ne_eqb (head_of c) (289 + n) (λ p. d (omega arith)) ∙ sym r)
      (decide (eqb c.parent n)))
      (decide (eqb c.parent 255))

  pub in_bases : (t : Target) → Fit c.target → in_chain (slot_of t) c ≡ is_base t c
  in_bases t f =
      ⊎_elim
      (λ (q : eqb c.parent 255 ≡ true).
      ap (λ (k : ℕ). eqb k (slot_of t)) (head_base (eqb-true c.parent 255 q))
      ∙ slot_same c.target t f
      ∙ sym (ap (λ (b : Bool). has_target t c && b) q ∙ and-true (has_target t c)))
      (λ (q : eqb c.parent 255 ≡ false).
      let h = head_exception (eqb-false c.parent 255 q) in
      let b = slot_bound t in
      ne_eqb (head_of c) (slot_of t) (λ p. omega arith)
      ∙ sym (ap (λ (b : Bool). has_target t c && b) q ∙ and-false (has_target t c)))
      (decide (eqb c.parent 255))
