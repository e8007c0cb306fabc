-- What the clauses of a scope name, where nothing dangles.
--     Chained          each clause names a target that has a slot and, if any, a parent of lower number with that target
--     sound_chained    of each scope of a sound book
--     chained_head     the chain of a clause begins before the cell of its own exceptions
-- Assumes nothing.
use Prim.Native.Nat.{ℕ, ◌<◌, ◌≤◌, ◌+◌}
use mathlib.Core.Path.{◌≡◌}
use mathlib.Core.Bool.{true, false}
use mathlib.Core.List.{List}
use mathlib.Core.Logic.{◌⊎◌, inl, inr, ⊎_elim}
use native.Mathlib.Omega.{arith}
use lib.ListN.{length, get_or}
use lib.Dec.{eqb, ltb}
use borrow.Author.Tests.{ltb-true, eqb-true}
use Rattle.laws.proofs.Booleans.{decide, both, or_cases}
use Rattle.book.specs.Syntax.{Scope, same_target}
use Rattle.book.specs.Decode.{scopes_of}
use Rattle.book.specs.References.{scope_at, no_clause, names_called, names_target, names_parent, clause_names, dangles_in}
use Rattle.book.specs.declared.Target.{Target}
use Rattle.book.specs.declared.Clause.{Clause}
use Rattle.book.proofs.Naming.{named_clauses, scope_sound}
use Rattle.links.specs.Links.{head_of, Sound}
use Rattle.links.proofs.Slots.{Fit, slot_bound, head_base, head_exception}

-- a clause without parent, or with one of lower number and the same target
abbrev pub Parent : List Clause → ℕ → Clause → Type 0
Parent cs n c =
    (c.parent ≡ 255) ⊎ ((c.parent < n) × (same_target (get_or cs c.parent no_clause).target c.target ≡ true))

pub record Chained (cs : List Clause) : Type 0 where
  pub few : length cs ≤ 128
  pub target : (n : ℕ) → n < length cs → Fit (get_or cs n no_clause).target
  pub parent : (n : ℕ) → n < length cs → Parent cs n (get_or cs n no_clause)

module _ (book : List Scope) (s : Scope) (variables : (j : ℕ) → length (scope_at book j).variables ≤ 32)
    (own : length s.variables ≤ 32) (sub_scopes : length s.sub_scopes ≤ 8) where
  called_fit : (k v : ℕ) → names_called book s k v ≡ true → (k < 8) × (v < 32)
  unfolding names_called
  called_fit k v e =
      let p = both (ltb k (length s.sub_scopes)) _ e in
      let a = ltb-true k (length s.sub_scopes) p.0 in
      let b = ltb-true v (length (scope_at book (get_or s.sub_scopes k 0)).variables) p.1 in
      let w = variables (get_or s.sub_scopes k 0) in
      (omega arith, omega arith)

  target_fit : (t : Target) → names_target book s t ≡ true → Fit t
  target_fit t e =
      ⊎_elim
      (λ (q : eqb t.sub 255 ≡ true).
      let h = ltb-true t.variable (length s.variables) (rw q at e) in
      record { variable = omega arith; sub = inl (eqb-true t.sub 255 q) })
      (λ (q : eqb t.sub 255 ≡ false).
      let h = called_fit t.sub t.variable (rw q at e) in
      record { variable = h.1; sub = inr h.0 })
      (decide (eqb t.sub 255))

  named_parent : (n : ℕ) (c : Clause) → names_parent s n c ≡ true → Parent s.clauses n c
  named_parent n c e =
      ⊎_elim
      (λ (q : eqb c.parent 255 ≡ true). inl (eqb-true c.parent 255 q))
      (λ q.
      let p = both (ltb c.parent n) _ q in
      inr (ltb-true c.parent n p.0, p.1))
      (or_cases (eqb c.parent 255) _ e)

  parts : (n : ℕ) (c : Clause) → clause_names book s n c ≡ true → (names_target book s c.target ≡ true) × (names_parent s n c ≡ true)
  unfolding clause_names
  parts n c e =
      let p = both (names_target book s c.target) _ e in
      (p.0, (both (names_parent s n c) _ p.1).0)

  chained : length s.clauses ≤ 128 → dangles_in book s ≡ false → Chained s.clauses
  chained few e =
      record {
        few = few;
        target = λ n l. target_fit (get_or s.clauses n no_clause).target (parts n (get_or s.clauses n no_clause) (named_clauses book s e n l no_clause)).0;
        parent = λ n l. named_parent n (get_or s.clauses n no_clause) (parts n (get_or s.clauses n no_clause) (named_clauses book s e n l no_clause)).1;
      }

pub sound_chained : (bytes index : List ℕ) → Sound bytes index → (i : ℕ) → Chained (scope_at (scopes_of bytes) i).clauses
sound_chained bytes index g i =
    let book = scopes_of bytes in
    chained book (scope_at book i) g.variables (g.variables i) (g.sub_scopes i) (g.clauses i)
    (scope_sound book g.named i)

pub chained_head : (cs : List Clause) → Chained cs → (n : ℕ) → n < length cs → head_of (get_or cs n no_clause) < 289 + n
chained_head cs g n l =
    let c = get_or cs n no_clause in
    ⊎_elim
    (λ (e : c.parent ≡ 255). omega (arith, head_base c e, slot_bound c.target))
    (λ h. let f = g.few in let below : c.parent < n = h.0 in omega (arith, head_exception c (λ e. omega arith)))
    (g.parent n l)
