-- The loop of `mixed_at`: what the marks say after n clauses.
--     Read       a clause's mark and its place
--     Marking    each clause passed stands marked, and each mark is that of a clause passed; start, turn and the two ways out, found and ended
-- Assumes nothing.
use Prim.Native.Nat.{ℕ, ◌+◌, ◌≤◌, ◌<◌}
use mathlib.Core.Path.{◌≡◌, refl, sym, ap, ◌∙◌}
use mathlib.Core.Bool.{true, false, not, ◌&&◌}
use mathlib.Core.Logic.{◌⊎◌, inl, inr, ⊎_elim}
use mathlib.Core.List.{List}
use native.Mathlib.Omega.{arith}
use lib.ListN.{length, get_or, set, replicate, length-set, length-replicate}
use lib.Seq.{get_or-set_same, get_or-set_other}
use lib.Dec.{eqb}
use borrow.Author.Tests.{eq-eqb, eqb-true, eqb-false}
use Rattle.book.specs.Lists.{any}
use Rattle.book.specs.Syntax.{Scope, same_target, is_rule}
use Rattle.book.specs.References.{scope_at, no_clause}
use Rattle.book.specs.Mixing.{mixed_pair, mixed_in}
use Rattle.book.specs.Positions.{clause_at}
use Rattle.book.specs.declared.Consequence.{Consequence}
use Rattle.book.specs.declared.Consequence.TheVariants.{Of, Fixed}
use Rattle.mixing.specs.Marks.{slot_of, mark_of, mixed_at}
use Rattle.laws.proofs.Booleans.{decide}
use Rattle.laws.proofs.Zeros.{zeros}
use Rattle.book.proofs.Searches.{any_at, any_none}
use Rattle.mixing.proofs.Targets.{Ranged, slot_below, slot_same, same_slot}

-- a clause's mark, and where it stands
abbrev slot_at : List Scope → ℕ → ℕ → ℕ
slot_at book i n = slot_of (clause_at book i n).target

abbrev mark_at : List Scope → ℕ → ℕ → ℕ
mark_at book i n = mark_of (clause_at book i n).consequence

-- clause n of scope i, whose mark m goes to at
pub record Read (book : List Scope) (i n at m : ℕ) : Type 0 where
  pub within : n < length (scope_at book i).clauses
  pub place : at ≡ slot_at book i n
  pub mark : m ≡ mark_at book i n

-- the clause below n whose mark m stands at a
pub record Source (book : List Scope) (i n a m : ℕ) : Type 0 where
  pub clause : ℕ
  pub below : clause < n
  pub place : slot_at book i clause ≡ a
  pub mark : mark_at book i clause ≡ m

pub record Marking (book : List Scope) (i : ℕ) (seen : List ℕ) (n : ℕ) : Type 0 where
  pub room : length seen ≡ 288
  pub within : n ≤ length (scope_at book i).clauses
  pub passed : (k : ℕ) → k < n → get_or seen (slot_at book i k) 0 ≡ mark_at book i k
  pub source : (a : ℕ) → (get_or seen a 0 ≡ 0 → ⊥) → Source book i n a (get_or seen a 0)

mark_some : (q : Consequence) → mark_of q ≡ 0 → ⊥
mark_some (Of n) e = omega arith
mark_some (Fixed b) e = omega arith

-- two consequences of one mark are no pair of a rule and a definition, and of two marks they are one in one order
alike : (p q : Consequence) → mark_of p ≡ mark_of q → (is_rule p && not (is_rule q)) ≡ false
alike (Of m) q e = refl
alike (Fixed b) (Of n) e = absurd (omega arith)
alike (Fixed b) (Fixed c) e = refl

unlike : (p q : Consequence) → (mark_of p ≡ mark_of q → ⊥)
    → ((is_rule p && not (is_rule q)) ≡ true) ⊎ ((is_rule q && not (is_rule p)) ≡ true)
unlike (Of m) (Of n) e = absurd (e refl)
unlike (Of m) (Fixed c) e = inr refl
unlike (Fixed b) (Of n) e = inl refl
unlike (Fixed b) (Fixed c) e = absurd (e refl)

module _ (book : List Scope) (i : ℕ) where
  pair_found : (j k : ℕ) → j < length (scope_at book i).clauses → k < length (scope_at book i).clauses
      → mixed_pair (clause_at book i j) (clause_at book i k) ≡ true → true ≡ mixed_at book i
  unfolding mixed_at mixed_in clause_at
  pair_found j k a b e =
      let cs = (scope_at book i).clauses in
      sym (any_at (λ x. any (mixed_pair x) cs) cs j a no_clause (any_at (mixed_pair (get_or cs j no_clause)) cs k b no_clause e))

  none_found : ((j k : ℕ) → j < length (scope_at book i).clauses → k < length (scope_at book i).clauses
      → mixed_pair (clause_at book i j) (clause_at book i k) ≡ false) → false ≡ mixed_at book i
  unfolding mixed_at mixed_in clause_at
  none_found h =
      let cs = (scope_at book i).clauses in
      sym (any_none (λ x. any (mixed_pair x) cs) cs no_clause (λ j a. any_none (mixed_pair (get_or cs j no_clause)) cs no_clause (λ k b. h j k a b)))

  pub start : Marking book i (replicate 288 0) 0
  start =
      record {
        room = length-replicate {A = ℕ} 288 0;
        within = omega arith;
        passed = λ k h. absurd (omega arith);
        source = λ a h. absurd (h (zeros 288 a));
      }

  module _ (seen : List ℕ) (n : ℕ) (g : Marking book i seen n) where
    pub ended : length (scope_at book i).clauses ≤ n → false ≡ mixed_at book i
    ended full =
        none_found (λ j k a b.
        let c = clause_at book i j in
        let d = clause_at book i k in
        ⊎_elim
        (λ (e : same_target c.target d.target ≡ true).
        let here : mark_of c.consequence ≡ mark_of d.consequence =
        sym (g.passed j (omega arith)) ∙ ap (λ a. get_or seen a 0) (same_slot c.target d.target e) ∙ g.passed k (omega arith) in
        rw e (alike c.consequence d.consequence here))
        (λ (e : same_target c.target d.target ≡ false). rw e)
        (decide (same_target c.target d.target)))

    module _ (all : (k : ℕ) → k < length (scope_at book i).clauses → Ranged (clause_at book i k).target)
        (at m : ℕ) (r : Read book i n at m) where
      pub room_at : at < 288
      room_at = rw r.place (slot_below (clause_at book i n).target (all n r.within))

      pub found : (get_or seen at 0 ≡ 0 → ⊥) → (get_or seen at 0 ≡ m → ⊥) → true ≡ mixed_at book i
      found some other =
          let s = g.source at some in
          let k = s.clause in
          let c = clause_at book i k in
          let d = clause_at book i n in
          let lower = s.below in
          let last = r.within in
          let earlier : k < length (scope_at book i).clauses = omega arith in
          let same = slot_same c.target d.target (all k earlier) (all n last) (s.place ∙ r.place) in
          let differ : mark_of c.consequence ≡ mark_of d.consequence → ⊥ = λ e. other (sym s.mark ∙ e ∙ sym r.mark) in
          ⊎_elim
          (λ e. pair_found k n earlier last (rw (eq-eqb c.target.sub d.target.sub same.0, eq-eqb c.target.variable d.target.variable same.1) e))
          (λ e. pair_found n k last earlier (rw (eq-eqb d.target.sub c.target.sub (sym same.0), eq-eqb d.target.variable c.target.variable (sym same.1)) e))
          (unlike c.consequence d.consequence differ)

      module _ (free : (get_or seen at 0 ≡ 0) ⊎ (get_or seen at 0 ≡ m)) where
        same_mark : (k : ℕ) → k < n + 1 → slot_at book i k ≡ at → m ≡ mark_at book i k
        same_mark k h p =
            ⊎_elim
            (λ (e : eqb k n ≡ true). rw (eqb-true k n e) r.mark)
            (λ (e : eqb k n ≡ false).
            let other = eqb-false k n e in
            let q : get_or seen at 0 ≡ mark_at book i k = rw p at (g.passed k (omega arith)) in
            ⊎_elim (λ z. absurd (mark_some (clause_at book i k).consequence (sym q ∙ z))) (λ z. sym z ∙ q) free)
            (decide (eqb k n))

        pub turn : Marking book i (set seen at m) (n + 1)
        turn =
            let size = g.room in
            let fits = room_at in
            let last = r.within in
            record {
              room = length-set seen at m ∙ g.room;
              within = omega arith;
              passed =
                  λ k h.
                  ⊎_elim
                  (λ (e : eqb (slot_at book i k) at ≡ true).
                  let p = eqb-true (slot_at book i k) at e in
                  rw (p, get_or-set_same seen at m 0 (omega arith)) (same_mark k h p))
                  (λ (e : eqb (slot_at book i k) at ≡ false).
                  let p = eqb-false (slot_at book i k) at e in
                  let earlier : (k ≡ n → ⊥) = λ q. p (ap (slot_at book i) q ∙ sym r.place) in
                  rw (get_or-set_other seen at (slot_at book i k) m 0 p) (g.passed k (omega arith)))
                  (decide (eqb (slot_at book i k) at));
              source =
                  λ a h.
                  ⊎_elim
                  (λ (e : eqb a at ≡ true).
                  let p = eqb-true a at e in
                  let value : get_or (set seen at m) a 0 ≡ m = rw p (get_or-set_same seen at m 0 (omega arith)) in
                  rw value (record { clause = n; below = omega arith; place = sym r.place ∙ sym p; mark = sym r.mark }))
                  (λ (e : eqb a at ≡ false).
                  let value = get_or-set_other seen at a m 0 (eqb-false a at e) in
                  let s = g.source a (λ z. h (value ∙ z)) in
                  let lower = s.below in
                  rw value (record { clause = s.clause; below = omega arith; place = s.place; mark = s.mark }))
                  (decide (eqb a at));
            }
