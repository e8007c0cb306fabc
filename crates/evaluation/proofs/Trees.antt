-- The trees of a well-formed scope are typed: each is of its target's type.
--     node_typed          the term of a node is of the node's type
--     tree_typed          the tree of a target is of the target's type
-- Assumes nothing.
use Prim.Native.Nat.{ℕ, zero, suc, ◌<◌, ◌≤◌, ◌+◌, ◌-◌}
use mathlib.Core.Path.{◌≡◌, refl, sym, ap, subst, ◌∙◌}
use mathlib.Core.Bool.{Bool, true, false, ◌&&◌, ◌||◌, false≢true}
use mathlib.Core.List.{List, [], ◌∷◌}
use mathlib.Core.Logic.{⊎_elim}
use native.Mathlib.Omega.{arith}
use native.Mathlib.Nat.{eq-or-lt_of_le}
use lib.ListN.{length, get_or}
use lib.Dec.{eqb, ltb}
use borrow.Author.Tests.{eqb-true, eqb-false, ne_eqb, ltb-true}
use Rattle.calculus.specs.Terms.{Term, Terms, none, also}
use Rattle.laws.proofs.Booleans.{decide, both, or_cases}
use Rattle.book.proofs.Searches.{any_true}
use Rattle.book.specs.Syntax.{Scope, no_node, same_target, same_type, is_rule}
use Rattle.book.specs.References.{scope_at, names_called, names_exception, node_names, names_target, no_clause, names_parent, names_condition, names_consequence, clause_names}
use Rattle.book.specs.Typing.{target_type, unary_type, operand_type, node_type, type_below, type_of_node, exception_fits, node_fits, consequence_type}
use Rattle.book.specs.Trees.{exception, node_term, term_below, term_of, condition_term, consequence_term, select, clause_terms, has_target, is_base, bases, has_rule, without_rules, tree}
use Rattle.book.specs.declared.ValueType.{ValueType}
use Rattle.book.specs.declared.ValueType.TheVariants.{YesNo}
use Rattle.book.specs.declared.Node.{Node}
use Rattle.book.specs.declared.Node.TheVariants.{Constant, Number, Own, Called, Empty, Conflict, Unary, Binary, Choice, Default}
use Rattle.book.specs.declared.Consequence.{Consequence}
use Rattle.book.specs.declared.Consequence.TheVariants.{Of, Fixed}
use Rattle.book.specs.declared.Target.{Target}
use Rattle.book.specs.declared.Clause.{Clause}
use Rattle.book.proofs.Same.{same_type_lem, same_target_lem}
use Rattle.acceptance.specs.Accepted.{WellFormed}
use Rattle.evaluation.specs.Types.{Typed, AllTyped, WellTyped, AllWellTyped}

module _ (book : List Scope) (s : Scope) where
  abbrev types : ℕ → ValueType
  types = type_of_node book s

  type_more : (l d n : ℕ) → n < l → type_below book s (l + d) n ≡ type_below book s l n
  unfolding type_below
  type_more l zero n h = let e : l + 0 ≡ l = omega arith in rw e
  type_more l (suc d) n h =
      let e : l + suc d ≡ suc (l + d) = omega arith in
      let ne : eqb n (l + d) ≡ false = ne_eqb n (l + d) (λ q. omega arith) in
      rw (e, ne) (type_more l d n h)

  type_below_lem : (l n : ℕ) → n < l → l ≤ length s.nodes → type_of_node book s n ≡ type_below book s l n
  unfolding type_of_node
  type_below_lem l n h m =
      let e : length s.nodes ≡ l + (length s.nodes - l) = omega arith in
      ap (λ (k : ℕ). type_below book s k n) e ∙ type_more l (length s.nodes - l) n h

  module _ (lower : ℕ → Term) (l : ℕ) (each : (n : ℕ) → n < l → WellTyped book s (lower n) (types n)) where
    at : (n : ℕ) (t : ValueType) → ltb n l ≡ true → same_type (types n) t ≡ true → WellTyped book s (lower n) t
    at n t h e = subst (WellTyped book s (lower n)) (same_type_lem (types n) t e) (each n (ltb-true n l h))

    exception_typed : (e : ℕ) (t : ValueType) (ts : Terms) → names_exception l e ≡ true → exception_fits types t e ≡ true
        → AllWellTyped book s ts t → AllWellTyped book s (exception lower e ts) t
    unfolding AllTyped
    exception_typed e t ts h f r =
        ⊎_elim
        (λ (q : eqb e 255 ≡ true). rw q r)
        (λ (q : eqb e 255 ≡ false).
        let below : ltb e l ≡ true = rw q at h in
        let fits : same_type (types e) t ≡ true = rw q at f in
        rw q (at e t below fits, r))
        (decide (eqb e 255))

    module _ (low : ℕ → ValueType) (agree : (n : ℕ) → n < l → types n ≡ low n) where
      made_typed : (x : Node) → node_names book s l x ≡ true → node_fits types x ≡ true
          → WellTyped book s (node_term lower x) (node_type book s low x)
      unfolding Typed node_names names_called
      made_typed (Constant b) h f = refl
      made_typed (Number z) h f = refl
      made_typed (Own v) h f = (ltb-true v (length s.variables) h, refl)
      made_typed (Called k v) h f =
          let n = both (ltb k (length s.sub_scopes)) _ h in
          (ltb-true k (length s.sub_scopes) n.0, ltb-true v (length (scope_at book (get_or s.sub_scopes k 0)).variables) n.1, refl)
      made_typed (Empty t) h f = tt
      made_typed (Conflict t) h f = tt
      made_typed (Unary op a) h f = (at a (unary_type op) h f, refl)
      made_typed (Binary op a b) h f =
          let n = both (ltb a l) (ltb b l) h in
          let g = both (same_type (types a) (operand_type op (types a))) (same_type (types b) (operand_type op (types a))) f in
          (types a, at a _ n.0 g.0, at b _ n.1 g.1, refl)
      made_typed (Choice c a b) h f =
          let n = both (ltb c l) (ltb a l && ltb b l) h in
          let m = both (ltb a l) (ltb b l) n.1 in
          let g = both (same_type (types c) YesNo) (same_type (types b) (types a)) f in
          let same : types a ≡ low a = agree a (ltb-true a l m.0) in (
            at c YesNo n.0 g.0,
            subst (WellTyped book s (lower a)) same (each a (ltb-true a l m.0)),
            subst (WellTyped book s (lower b)) same (at b (types a) m.1 g.1),
          )
      made_typed (Default x y z j c) h f =
          let n = both (names_exception l x) _ h in
          let m = both (names_exception l y) _ n.1 in
          let o = both (names_exception l z) _ m.1 in
          let p = both (ltb j l) (ltb c l) o.1 in
          let g = both (exception_fits types (types c) x) _ f in
          let i = both (exception_fits types (types c) y) _ g.1 in
          let k = both (exception_fits types (types c) z) (same_type (types j) YesNo) i.1 in
          let same : types c ≡ low c = agree c (ltb-true c l p.1) in
          let es : Terms = exception lower x (exception lower y (exception lower z none)) in
          let exceptions : AllWellTyped book s es (types c) =
          exception_typed x (types c) (exception lower y (exception lower z none)) n.0 g.0
          (exception_typed y (types c) (exception lower z none) m.0 i.0
          (exception_typed z (types c) none o.0 k.0 tt)) in (
            subst (AllWellTyped book s es) same exceptions,
            at j YesNo p.0 k.1,
            subst (WellTyped book s (lower c)) same (each c (ltb-true c l p.1)),
          )

  module _ (formed : WellFormed book s) where
    below_typed : (l : ℕ) → l ≤ length s.nodes → (n : ℕ) → n < l → WellTyped book s (term_below s.nodes l n) (types n)
    unfolding term_below type_below
    below_typed zero h n m = absurd (omega arith)
    below_typed (suc l) h n m =
        let lower = term_below s.nodes l in
        let each : (k : ℕ) → k < l → WellTyped book s (lower k) (types k) = below_typed l (omega arith) in
        let x = get_or s.nodes l no_node in
        ⊎_elim
        (λ (q : eqb n l ≡ true).
        let is : type_below book s (suc l) n ≡ node_type book s (type_below book s l) x = rw q in
        let t : types n ≡ node_type book s (type_below book s l) x = type_below_lem (suc l) n m h ∙ is in
        rw (q, t)
        (made_typed lower l each (type_below book s l) (λ k r. type_below_lem l k r (omega arith)) x
        (formed.nodes_named l h no_node) (formed.nodes_fit l h no_node)))
        (λ (q : eqb n l ≡ false).
        let below : n < l = ⊎_elim (λ (r : n ≡ l). absurd (eqb-false n l q r)) (λ (r : n < l). r) (eq-or-lt_of_le {n = n} {m = l} (omega arith)) in
        rw q (each n below))
        (decide (eqb n l))

    pub node_typed : (n : ℕ) → n < length s.nodes → WellTyped book s (term_of s n) (type_of_node book s n)
    unfolding term_of
    node_typed n h = below_typed (length s.nodes) (omega arith) n h

    condition_typed : (n : ℕ) → names_condition s n ≡ true → (eqb n 255 || same_type (types n) YesNo) ≡ true
        → WellTyped book s (condition_term s n) YesNo
    unfolding Typed
    condition_typed n h f =
        ⊎_elim
        (λ (q : eqb n 255 ≡ true). rw q)
        (λ (q : eqb n 255 ≡ false).
        let below : ltb n (length s.nodes) ≡ true = rw q at h in
        let fits : same_type (types n) YesNo ≡ true = rw q at f in
        rw q (subst (WellTyped book s (term_of s n)) (same_type_lem (types n) YesNo fits) (node_typed n (ltb-true n (length s.nodes) below))))
        (decide (eqb n 255))

    consequence_typed : (c : Consequence) → names_consequence s c ≡ true → WellTyped book s (consequence_term s c) (consequence_type types c)
    unfolding Typed
    consequence_typed (Of n) h = node_typed n (ltb-true n (length s.nodes) h)
    consequence_typed (Fixed b) h = refl

    -- clauses and the terms that are theirs, each of its target's type
    abbrev ClausesTyped : List Clause → List Term → Type 0
    ClausesTyped [] ts = Unit {0}
    ClausesTyped (c ∷ cs) [] = ⊥
    ClausesTyped (c ∷ cs) (t ∷ ts) = WellTyped book s t (target_type book s c.target) × ClausesTyped cs ts

    select_typed : (p : Clause → Bool) (u : ValueType) (cs : List Clause) (ts : List Term) → ClausesTyped cs ts
        → ((j : ℕ) → j < length cs → p (get_or cs j no_clause) ≡ true → target_type book s (get_or cs j no_clause).target ≡ u)
        → AllWellTyped book s (select p cs ts) u
    unfolding select AllTyped
    select_typed p u [] ts h same = tt
    select_typed p u (c ∷ cs) [] h same = absurd h
    select_typed p u (c ∷ cs) (t ∷ ts) h same =
        let more = select_typed p u cs ts h.1 (λ j l. same (suc j) (omega arith)) in
        ⊎_elim
        (λ (q : p c ≡ true). rw q (subst (WellTyped book s t) (same 0 (omega arith) q) h.0, more))
        (λ (q : p c ≡ false). rw q more)
        (decide (p c))

    module _ (few : length s.clauses ≤ 255) where
      -- what fault 6 leaves of clause n, and fault 8 of a clause
      abbrev Names : ℕ → Clause → Type 0
      Names n c = (names_parent s n c ≡ true) × (names_condition s c.condition ≡ true) × (names_consequence s c.consequence ≡ true)

      abbrev Fits : Clause → Type 0
      Fits c =
          ((eqb c.condition 255 || same_type (types c.condition) YesNo) ≡ true)
          × (consequence_type types c.consequence ≡ target_type book s c.target)

      named : (n : ℕ) → n < length s.clauses → Names n (get_or s.clauses n no_clause)
      unfolding clause_names
      named n l =
          let c = get_or s.clauses n no_clause in
          let a = both (names_target book s c.target) _ (formed.clauses_named n l no_clause) in
          let b = both (names_parent s n c) _ a.1 in
          let d = both (names_condition s c.condition) _ b.1 in
          (b.0, d.0, d.1)

      fits : (n : ℕ) → n < length s.clauses → Fits (get_or s.clauses n no_clause)
      fits n l =
          let c = get_or s.clauses n no_clause in
          let a = both (eqb c.condition 255 || same_type (types c.condition) YesNo) _ (formed.clauses_fit n l no_clause) in
          (a.0, same_type_lem (consequence_type types c.consequence) (target_type book s c.target) a.1)

      -- a clause that names clause n as parent has its target
      parent_target : (m n : ℕ) → m < length s.clauses → n < 255 → (get_or s.clauses m no_clause).parent ≡ n
          → (get_or s.clauses n no_clause).target ≡ (get_or s.clauses m no_clause).target
      parent_target m n l small e =
          let c = get_or s.clauses m no_clause in
          ⊎_elim
          (λ (q : eqb c.parent 255 ≡ true). absurd (omega (arith, eqb-true c.parent 255 q)))
          (λ (q : (ltb c.parent m && same_target (get_or s.clauses c.parent no_clause).target c.target) ≡ true).
          let h = (both (ltb c.parent m) _ q).1 in
          ap (λ (k : ℕ). (get_or s.clauses k no_clause).target) (sym e)
          ∙ same_target_lem (get_or s.clauses c.parent no_clause).target c.target h)
          (or_cases (eqb c.parent 255) _ (named m l).0)

      -- the clauses cs are those from number n on
      clauses_typed : (cs : List Clause) (n : ℕ) → ((j : ℕ) → j < length cs → get_or s.clauses (n + j) no_clause ≡ get_or cs j no_clause)
          → n + length cs ≡ length s.clauses → ClausesTyped cs (clause_terms s n cs)
      unfolding clause_terms Typed
      clauses_typed [] n from len = tt
      clauses_typed (c ∷ cs) n from len =
          let z : n + 0 ≡ n = omega arith in
          let here : get_or s.clauses n no_clause ≡ c = rw z at (from 0 (omega arith)) in
          let later =
          clauses_typed cs (suc n) (λ j l. let y : suc n + j ≡ n + suc j = omega arith in rw y (from (suc j) (omega arith))) (omega arith) in
          let inside : n < length s.clauses = omega arith in
          let names : Names n c = subst (Names n) here (named n inside) in
          let typed : Fits c = subst Fits here (fits n inside) in (
            (
              select_typed (λ d. eqb d.parent n) (target_type book s c.target) cs (clause_terms s (suc n) cs) later (λ j l q.
                  let there : get_or s.clauses (n + suc j) no_clause ≡ get_or cs j no_clause = from (suc j) (omega arith) in
                  let parent : (get_or s.clauses (n + suc j) no_clause).parent ≡ n =
                  ap (λ (d : Clause). d.parent) there ∙ eqb-true (get_or cs j no_clause).parent n q in
                  ap (λ (d : Clause). target_type book s d.target) (sym there)
                  ∙ ap (target_type book s) (sym (parent_target (n + suc j) n (omega arith) (omega arith) parent))
                  ∙ ap (λ (d : Clause). target_type book s d.target) here),
              condition_typed c.condition names.1 typed.0,
              subst (WellTyped book s (consequence_term s c.consequence)) typed.1 (consequence_typed c.consequence names.2),
            ),
            later,
          )

      bases_typed : (t : Target) → AllWellTyped book s (bases s t) (target_type book s t)
      unfolding bases
      bases_typed t =
          select_typed (is_base t) (target_type book s t) s.clauses (clause_terms s 0 s.clauses)
          (clauses_typed s.clauses 0 (λ j l. let z : 0 + j ≡ j = omega arith in rw z) (omega arith))
          (λ j l q.
          let c = get_or s.clauses j no_clause in
          ap (target_type book s) (same_target_lem c.target t (both (has_target t c) _ q).0))

      rule_type : (c : Consequence) → is_rule c ≡ true → consequence_type types c ≡ YesNo
      rule_type (Of n) e = absurd (false≢true e)
      rule_type (Fixed b) e = refl

      -- a target with rules is a yes/no
      ruled : (t : Target) → has_rule s t ≡ true → target_type book s t ≡ YesNo
      unfolding has_rule
      ruled t e =
          let r = any_true (λ c. has_target t c && is_rule c.consequence) s.clauses e in
          let c = get_or s.clauses r.0 no_clause in
          let h = both (has_target t c) (is_rule c.consequence) (r.2 no_clause) in
          ap (target_type book s) (sym (same_target_lem c.target t h.0))
          ∙ sym (fits r.0 r.1).1
          ∙ rule_type c.consequence h.1

      without_typed : (ts : Terms) (u : ValueType) → AllWellTyped book s ts u → WellTyped book s (without_rules ts) u
      unfolding Typed
      without_typed none u h = tt
      without_typed (also t none) u h = h.0
      without_typed (also t (also r rs)) u h = (h, refl, tt)

      pub tree_typed : (t : Target) → WellTyped book s (tree s t) (target_type book s t)
      unfolding tree Typed
      tree_typed t =
          let h = bases_typed t in
          ⊎_elim
          (λ (q : has_rule s t ≡ true).
          let yes_no : target_type book s t ≡ YesNo = ruled t q in
          let h' : AllWellTyped book s (bases s t) YesNo = subst (AllWellTyped book s (bases s t)) yes_no h in
          rw (q, yes_no) (h', refl, refl))
          (λ (q : has_rule s t ≡ false). rw q (without_typed (bases s t) (target_type book s t) h))
          (decide (has_rule s t))
