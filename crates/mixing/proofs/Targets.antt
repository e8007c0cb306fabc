-- The targets of the clauses of a book in which nothing dangles: few enough for one mark each.
--     Ranged        a target of the first 32 variables, of the scope itself or of one of 8 sub-scopes
--     slot_below    its mark stands below 288
--     slot_same     two targets have one mark only where they are the same
--     same_slot     the same targets have the same mark
--     ranged        each clause's target is so
-- Assumes nothing.
use Prim.Native.Nat.{ℕ, ◌+◌, ◌*◌, ◌<◌}
use mathlib.Core.Path.{◌≡◌, sym, ap, ◌∙◌}
use mathlib.Core.Bool.{true, false, ◌&&◌}
use mathlib.Core.Logic.{◌⊎◌, inl, inr, ⊎_elim}
use mathlib.Core.List.{List}
use native.Mathlib.Omega.{arith}
use lib.ListN.{length, get_or}
use lib.Dec.{eqb, ltb}
use borrow.Author.Tests.{eq-eqb, ne_eqb, eqb-true, ltb-true}
use Rattle.book.specs.Syntax.{Scope, same_target}
use Rattle.book.specs.References.{scope_at, no_clause, names_called, names_target, clause_names, dangles}
use Rattle.book.specs.Positions.{clause_at}
use Rattle.book.specs.declared.Target.{Target}
use Rattle.book.specs.Limits.{Within}
use Rattle.mixing.specs.Marks.{slot_of}
use Rattle.laws.proofs.Booleans.{decide, both}
use Rattle.book.proofs.Naming.{named_clauses, scope_sound}
use Rattle.book.proofs.Same.{same_target_lem}

pub record Ranged (t : Target) : Type 0 where
  pub variable : t.variable < 32
  pub sub : (t.sub ≡ 255) ⊎ (t.sub < 8)

slot_own : (t : Target) → t.sub ≡ 255 → slot_of t ≡ t.variable
unfolding slot_of
slot_own t h = rw (eq-eqb t.sub 255 h)

slot_called : (t : Target) → t.sub < 8 → slot_of t ≡ t.sub * 32 + t.variable + 32
unfolding slot_of
slot_called t h = let other : t.sub ≡ 255 → ⊥ = λ e. omega arith in rw (ne_eqb t.sub 255 other)

pub slot_below : (t : Target) → Ranged t → slot_of t < 288
slot_below t r =
    let v = r.variable in
    ⊎_elim
    (λ (h : t.sub ≡ 255). omega (arith, slot_own t h))
    (λ (h : t.sub < 8). omega (arith, slot_called t h))
    r.sub

pub slot_same : (a b : Target) → Ranged a → Ranged b → slot_of a ≡ slot_of b → (a.sub ≡ b.sub) × (a.variable ≡ b.variable)
slot_same a b r s e =
    let v = r.variable in
    let w = s.variable in
    ⊎_elim
    (λ (h : a.sub ≡ 255).
    ⊎_elim
    (λ (k : b.sub ≡ 255). (h ∙ sym k, omega (arith, slot_own a h, slot_own b k)))
    (λ (k : b.sub < 8). absurd (omega (arith, slot_own a h, slot_called b k)))
    s.sub)
    (λ (h : a.sub < 8).
    ⊎_elim
    (λ (k : b.sub ≡ 255). absurd (omega (arith, slot_called a h, slot_own b k)))
    (λ (k : b.sub < 8).
    let x = slot_called a h in
    let y = slot_called b k in
    let not_less : a.sub < b.sub → ⊥ = λ l. omega arith in
    let not_more : b.sub < a.sub → ⊥ = λ l. omega arith in
    let same : a.sub ≡ b.sub = omega arith in
    (same, omega arith))
    s.sub)
    r.sub

pub same_slot : (a b : Target) → same_target a b ≡ true → slot_of a ≡ slot_of b
same_slot a b e = ap slot_of (same_target_lem a b e)

module _ (book : List Scope) (few : Within book) where
  named_ranged : (i : ℕ) (t : Target) → names_target book (scope_at book i) t ≡ true → Ranged t
  unfolding names_called
  named_ranged i t e =
      let s = scope_at book i in
      let j = get_or s.sub_scopes t.sub 0 in
      ⊎_elim
      (λ (h : eqb t.sub 255 ≡ true).
      let own : ltb t.variable (length s.variables) ≡ true = rw h at e in
      record { variable = omega (arith, few.variables i, ltb-true t.variable (length s.variables) own); sub = inl (eqb-true t.sub 255 h) })
      (λ (h : eqb t.sub 255 ≡ false).
      let called : (ltb t.sub (length s.sub_scopes) && ltb t.variable (length (scope_at book j).variables)) ≡ true = rw h at e in
      let parts = both (ltb t.sub (length s.sub_scopes)) (ltb t.variable (length (scope_at book j).variables)) called in
      record {
        variable = omega (arith, few.variables j, ltb-true t.variable (length (scope_at book j).variables) parts.1);
        sub = inr (omega (arith, few.sub_scopes i, ltb-true t.sub (length s.sub_scopes) parts.0));
      })
      (decide (eqb t.sub 255))

  pub ranged : dangles book ≡ false → (i n : ℕ) → n < length (scope_at book i).clauses → Ranged (clause_at book i n).target
  unfolding clause_names clause_at
  ranged h i n l =
      let s = scope_at book i in
      let t = (get_or s.clauses n no_clause).target in
      let here = scope_sound book h i in
      named_ranged i t (both (names_target book s t) _ (named_clauses book s here n l no_clause)).0
