-- What is read in a target's tree is what its clauses read.
--     tree_reads             the tree reads what its bases read
--     tree_reads_clauses     it reads what some clause with that target reads, and only that
--     depends_read           a step depends on what is read in its tree or its override trees
--     variable_depends       an own variable's step, on what is read in its tree
--     call_depends           a call's step, on what is read in its override trees
-- Assumes nothing.
use Prim.Native.Nat.{ℕ, zero, suc, ◌<◌, ◌≤◌, ◌+◌}
use mathlib.Core.Path.{◌≡◌, refl, sym, ap, subst, ◌∙◌}
use mathlib.Core.Bool.{Bool, true, false, cond, ◌&&◌, ◌||◌, false≢true, or-true, or-false}
use mathlib.Core.List.{List, [], ◌∷◌}
use mathlib.Core.Logic.{⊎_elim, ◌↔◌}
use native.Mathlib.Omega.{arith}
use lib.ListN.{length, get_or}
use lib.Dec.{eqb, ltb}
use borrow.Author.Tests.{eqb-true, eqb-false, eq-eqb, ne_eqb, ltb-true}
use Rattle.answers.specs.declared.Cause.TheVariants.{Empty}
use Rattle.calculus.specs.Terms.{Term, Terms, error, none, also}
use Rattle.laws.proofs.Booleans.{decide, both, or_cases}
use Rattle.book.specs.Syntax.{Scope, same_target}
use Rattle.book.specs.References.{no_clause, names_parent, names_target, clause_names}
use Rattle.book.specs.Trees.{select, clause_terms, has_target, is_base, bases, has_rule, without_rules, tree, own_target, called_target}
use Rattle.book.specs.Steps.{reads, reads_any, step_of, clause_reads, depends_on}
use Rattle.book.specs.declared.Target.{Target}
use Rattle.book.specs.declared.Clause.{Clause}
use Rattle.acceptance.specs.Accepted.{WithinLimits, WellFormed}
use Rattle.acceptance.specs.Reading.{target_step, ReadByClause, ReadInTree}
use Rattle.book.proofs.Searches.{any_true, any_at}
use Rattle.book.proofs.Same.{same_target_lem}

target_same : (a b : Target) → a ≡ b → same_target a b ≡ true
target_same a b e = rw (eq-eqb a.sub b.sub (ap (λ (x : Target). x.sub) e), eq-eqb a.variable b.variable (ap (λ (x : Target). x.variable) e))

own_target_lem : (t : Target) (x : ℕ) → eqb t.sub 255 ≡ true → t.variable ≡ x → t ≡ own_target x
own_target_lem t x q e = let p : t.sub ≡ 255 = eqb-true t.sub 255 q in λ i. record { sub = p i; variable = e i }

called_target_lem : (t : Target) (k : ℕ) → t.sub ≡ k → t ≡ called_target k t.variable
called_target_lem t k e = λ i. record { sub = e i; variable = t.variable }

module _ (v w : ℕ) where
  without_reads : (ts : Terms) → reads v w (without_rules ts) ≡ reads_any v w ts
  unfolding reads
  without_reads none = refl
  without_reads (also t none) = sym (or-false (reads v w t))
  without_reads (also t (also u us)) = or-false (reads_any v w (also t (also u us)))

  pub tree_reads : (s : Scope) (t : Target) → reads v w (tree s t) ≡ reads_any v w (bases s t)
  unfolding tree reads
  tree_reads s t =
      ⊎_elim (λ h. rw h (or-false (reads_any v w (bases s t)))) (λ h. rw h (without_reads (bases s t))) (decide (has_rule s t))

module _ (s : Scope) (w : ℕ) where
  abbrev v : ℕ
  v = length s.variables

  -- the terms of clauses, one for each
  terms_length : (n : ℕ) (cs : List Clause) → length (clause_terms s n cs) ≡ length cs
  unfolding clause_terms
  terms_length n [] = refl
  terms_length n (c ∷ cs) = ap suc (terms_length (suc n) cs)

  -- what selected exceptions read, the first clause apart
  select_first : (p : Clause → Bool) (c : Clause) (cs : List Clause) (t : Term) (ts : List Term)
      → reads_any v w (select p (c ∷ cs) (t ∷ ts)) ≡ (p c && reads v w t || reads_any v w (select p cs ts))
  unfolding select reads
  select_first p c cs t ts = go (p c)
    where
      go : (b : Bool) → reads_any v w (cond b (also t (select p cs ts)) (select p cs ts)) ≡ (b && reads v w t || reads_any v w (select p cs ts))
      go true = refl
      go false = refl

  -- a clause that is selected and whose term reads w makes the exceptions read it
  select_reads : (p : Clause → Bool) (cs : List Clause) (ts : List Term) (j : ℕ) (d : Term) → j < length cs → length ts ≡ length cs
      → p (get_or cs j no_clause) ≡ true → reads v w (get_or ts j d) ≡ true → reads_any v w (select p cs ts) ≡ true
  select_reads p [] ts j d l len h e = absurd (omega arith)
  select_reads p (c ∷ cs) [] j d l len h e = absurd (omega arith)
  select_reads p (c ∷ cs) (t ∷ ts) zero d l len h e = select_first p c cs t ts ∙ rw (h, e)
  select_reads p (c ∷ cs) (t ∷ ts) (suc j) d l len h e =
      select_first p c cs t ts
      ∙ rw (select_reads p cs ts j d (omega arith) (omega arith) h e) (or-true (p c && reads v w t))

  -- a clause's term reads what the clause reads
  own_reads : (cs : List Clause) (n j : ℕ) (d : Term) → j < length cs → clause_reads s w (get_or cs j no_clause) ≡ true
      → reads v w (get_or (clause_terms s n cs) j d) ≡ true
  unfolding clause_terms reads clause_reads
  own_reads [] n j d l e = absurd (omega arith)
  own_reads (c ∷ cs) n zero d l e = rw e (or-true (reads_any v w (select (λ x. eqb x.parent n) cs (clause_terms s (suc n) cs))))
  own_reads (c ∷ cs) n (suc j) d l e = own_reads cs (suc n) j d (omega arith) e

  -- and what the term of a clause reads that names it as parent
  parent_reads : (cs : List Clause) (n i j : ℕ) (d : Term) → i < j → j < length cs → (get_or cs j no_clause).parent ≡ n + i
      → reads v w (get_or (clause_terms s n cs) j d) ≡ true → reads v w (get_or (clause_terms s n cs) i d) ≡ true
  unfolding clause_terms reads
  parent_reads [] n i j d l h p e = absurd (omega arith)
  parent_reads (c ∷ cs) n i zero d l h p e = absurd (omega arith)
  parent_reads (c ∷ cs) n zero (suc j) d l h p e =
      let names : eqb (get_or cs j no_clause).parent n ≡ true = eq-eqb (get_or cs j no_clause).parent n (omega arith) in
      rw
      (select_reads (λ x. eqb x.parent n) cs (clause_terms s (suc n) cs) j d (omega arith) (terms_length (suc n) cs) names e)
      refl
  parent_reads (c ∷ cs) n (suc i) (suc j) d l h p e = parent_reads cs (suc n) i j d (omega arith) (omega arith) (omega arith) e

  module _ (t : Target) (few : length s.clauses ≤ 255)
      (parents : (n : ℕ) → n < length s.clauses → names_parent s n (get_or s.clauses n no_clause) ≡ true) where
    -- some of the clauses has the target and reads w
    abbrev Read : List Clause → Type 0
    Read cs = (j : ℕ) × (j < length cs) × (has_target t (get_or cs j no_clause) ≡ true) × (clause_reads s w (get_or cs j no_clause) ≡ true)

    later : (c : Clause) (cs : List Clause) → Read cs → Read (c ∷ cs)
    later c cs r = (suc r.0, omega (arith, r.1), r.2, r.3)

    -- a parent is 255, or of lower number and with the same target
    parent_facts : (n : ℕ) → n < length s.clauses → ((get_or s.clauses n no_clause).parent ≡ 255 → ⊥)
        → ((get_or s.clauses n no_clause).parent < n)
        × ((get_or s.clauses (get_or s.clauses n no_clause).parent no_clause).target ≡ (get_or s.clauses n no_clause).target)
    parent_facts n l not-base =
        let c = get_or s.clauses n no_clause in
        let u = get_or s.clauses c.parent no_clause in
        ⊎_elim
        (λ (q : eqb c.parent 255 ≡ true). absurd (not-base (eqb-true c.parent 255 q)))
        (λ (q : (ltb c.parent n && same_target u.target c.target) ≡ true).
        let h = both (ltb c.parent n) (same_target u.target c.target) q in
        (ltb-true c.parent n h.0, same_target_lem u.target c.target h.1))
        (or_cases (eqb c.parent 255) (ltb c.parent n && same_target u.target c.target) (parents n l))

    -- of the clauses c ∷ cs, those from number n on, one that names c as parent has c's target
    child : (c : Clause) (cs : List Clause) (n : ℕ) → ((j : ℕ) → get_or s.clauses (n + j) no_clause ≡ get_or (c ∷ cs) j no_clause)
        → n + length (c ∷ cs) ≡ length s.clauses → has_target t c ≡ true
        → (j : ℕ) → j < length cs → (get_or cs j no_clause).parent ≡ n → has_target t (get_or cs j no_clause) ≡ true
    child c cs n at len h j l m =
        let d = get_or cs j no_clause in
        let zero_more : n ≡ n + 0 = omega arith in
        let here : get_or s.clauses n no_clause ≡ c = ap (λ (k : ℕ). get_or s.clauses k no_clause) zero_more ∙ at 0 in
        let there : get_or s.clauses (n + suc j) no_clause ≡ d = at (suc j) in
        let parent : (get_or s.clauses (n + suc j) no_clause).parent ≡ n = ap (λ (x : Clause). x.parent) there ∙ m in
        let facts = parent_facts (n + suc j) (omega arith) (λ q. let z : n ≡ 255 = sym parent ∙ q in omega arith) in
        let same : d.target ≡ c.target =
        ap (λ (x : Clause). x.target) (sym there)
        ∙ sym facts.1
        ∙ ap (λ (k : ℕ). (get_or s.clauses k no_clause).target) parent
        ∙ ap (λ (x : Clause). x.target) here in
        target_same d.target t (same ∙ same_target_lem c.target t h)

    -- the clauses cs are those from number n on
    down : (cs : List Clause) (n : ℕ) → ((j : ℕ) → get_or s.clauses (n + j) no_clause ≡ get_or cs j no_clause)
        → n + length cs ≡ length s.clauses → (p : Clause → Bool)
        → ((j : ℕ) → j < length cs → p (get_or cs j no_clause) ≡ true → has_target t (get_or cs j no_clause) ≡ true)
        → reads_any v w (select p cs (clause_terms s n cs)) ≡ true → Read cs
    unfolding select clause_terms reads clause_reads
    down [] n at len p ok e = absurd (false≢true e)
    down (c ∷ cs) n at len p ok e =
        let at' : (j : ℕ) → get_or s.clauses (suc n + j) no_clause ≡ get_or cs j no_clause =
        λ j. let z : suc n + j ≡ n + suc j = omega arith in rw z (at (suc j)) in
        let len' : suc n + length cs ≡ length s.clauses = omega arith in
        let terms = clause_terms s (suc n) cs in
        let under = select (λ x. eqb x.parent n) cs terms in
        ⊎_elim
        (λ q.
        let h = both (p c) _ q in
        ⊎_elim
        (λ (r : reads_any v w under ≡ true).
        later c cs
        (down cs (suc n) at' len' (λ x. eqb x.parent n)
        (λ j l m. child c cs n at len (ok 0 (omega arith) h.0) j l (eqb-true (get_or cs j no_clause).parent n m))
        r))
        (λ r. (0, omega arith, ok 0 (omega arith) h.0, r))
        (or_cases (reads_any v w under) _ h.1))
        (λ q. later c cs (down cs (suc n) at' len' p (λ j l. ok (suc j) (omega arith)) q))
        (or_cases (p c && _) (reads_any v w (select p cs terms)) (sym (select_first p c cs _ terms) ∙ e))

    read_bases : reads_any v w (bases s t) ≡ true → Read s.clauses
    unfolding bases
    read_bases e =
        down s.clauses 0 (λ j. let z : 0 + j ≡ j = omega arith in ap (λ (k : ℕ). get_or s.clauses k no_clause) z) (omega arith)
        (is_base t)
        (λ j l h. (both (has_target t (get_or s.clauses j no_clause)) _ h).0)
        e

    -- by the chain of its parents every clause with the target comes to a base
    up : (f j : ℕ) → j < f → j < length s.clauses → has_target t (get_or s.clauses j no_clause) ≡ true
        → reads v w (get_or (clause_terms s 0 s.clauses) j (error Empty)) ≡ true → reads_any v w (bases s t) ≡ true
    unfolding bases
    up zero j lf l h e = absurd (omega arith)
    up (suc f) j lf l h e =
        let c = get_or s.clauses j no_clause in
        ⊎_elim
        (λ (q : eqb c.parent 255 ≡ true).
        select_reads (is_base t) s.clauses (clause_terms s 0 s.clauses) j (error Empty) l (terms_length 0 s.clauses) (rw (h, q)) e)
        (λ (q : eqb c.parent 255 ≡ false).
        let facts = parent_facts j l (eqb-false c.parent 255 q) in
        let lower : c.parent < j = facts.0 in
        up f c.parent (omega arith) (omega arith)
        (target_same _ t (facts.1 ∙ same_target_lem c.target t h))
        (parent_reads s.clauses 0 c.parent j (error Empty) lower l (omega arith) e))
        (decide (eqb c.parent 255))

    bases_read : Read s.clauses → reads_any v w (bases s t) ≡ true
    bases_read r = up (suc r.0) r.0 (omega arith) r.1 r.2 (own_reads s.clauses 0 r.0 (error Empty) r.1 r.3)

module _ (book : List Scope) (s : Scope) (formed : WellFormed book s) (within : WithinLimits s) where
  clause_facts : (n : ℕ) → n < length s.clauses
      → (names_target book s (get_or s.clauses n no_clause).target ≡ true) × (names_parent s n (get_or s.clauses n no_clause) ≡ true)
  unfolding clause_names
  clause_facts n l =
      let c = get_or s.clauses n no_clause in
      let a = both (names_target book s c.target) _ (formed.clauses_named n l no_clause) in
      let b = both (names_parent s n c) _ a.1 in
      (a.0, b.0)

  parents_named : (n : ℕ) → n < length s.clauses → names_parent s n (get_or s.clauses n no_clause) ≡ true
  parents_named n l = (clause_facts n l).1

  pub tree_reads_clauses : (t : Target) (w : ℕ) → (reads (length s.variables) w (tree s t) ≡ true) ↔ ReadByClause s t w
  tree_reads_clauses t w =
      let few : length s.clauses ≤ 255 = omega (arith, within.clauses) in
      let same = tree_reads (length s.variables) w s t in
      (λ e. read_bases s w t few parents_named (sym same ∙ e), λ r. same ∙ bases_read s w t few parents_named r)

  pub depends_read : (x w : ℕ) → (depends_on s x w ≡ true) ↔ ReadInTree s x w
  unfolding depends_on step_of target_step
  depends_read x w = (
    λ e.
        let r = any_true (λ c. eqb (step_of s c) x && clause_reads s w c) s.clauses e in
        let c = get_or s.clauses r.0 no_clause in
        let h = both (eqb (step_of s c) x) (clause_reads s w c) (r.2 no_clause) in (
          c.target,
          eqb-true (step_of s c) x h.0,
          (tree_reads_clauses c.target w).1 (r.0, r.1, target_same c.target c.target refl, h.1),
        ),
    λ r.
        let t = r.0 in
        let q = (tree_reads_clauses t w).0 r.2 in
        let c = get_or s.clauses q.0 no_clause in
        let step : step_of s c ≡ x = ap (target_step s) (same_target_lem c.target t q.2) ∙ r.1 in
        any_at (λ c. eqb (step_of s c) x && clause_reads s w c) s.clauses q.0 q.1 no_clause
        (rw (eq-eqb (step_of s c) x step, q.3)),
  )

  pub variable_depends : (x w : ℕ) → x < length s.variables
      → (depends_on s x w ≡ true) ↔ (reads (length s.variables) w (tree s (own_target x)) ≡ true)
  unfolding target_step
  variable_depends x w l = (
    λ e.
        let r = (depends_read x w).0 e in
        let t = r.0 in
        ⊎_elim
        (λ (q : eqb t.sub 255 ≡ true).
        let here : t.variable ≡ x = rw q at r.1 in
        let same : t ≡ own_target x = own_target_lem t x q here in
        subst (λ (u : Target). reads (length s.variables) w (tree s u) ≡ true) same r.2)
        (λ (q : eqb t.sub 255 ≡ false).
        let past : length s.variables + t.sub ≡ x = rw q at r.1 in
        absurd (omega arith))
        (decide (eqb t.sub 255)),
    λ e. (depends_read x w).1 (own_target x, refl, e),
  )

  pub call_depends : (k w : ℕ) → k < length s.sub_scopes
      → (depends_on s (length s.variables + k) w ≡ true)
      ↔ ((u : ℕ) × (reads (length s.variables) w (tree s (called_target k u)) ≡ true))
  unfolding target_step
  call_depends k w l = (
    λ e.
        let r = (depends_read (length s.variables + k) w).0 e in
        let t = r.0 in
        ⊎_elim
        (λ (q : eqb t.sub 255 ≡ true).
        let past : t.variable ≡ length s.variables + k = rw q at r.1 in
        let f = (tree_reads_clauses t w).0 r.2 in
        let c = get_or s.clauses f.0 no_clause in
        let named : names_target book s t ≡ true =
        ap (names_target book s) (sym (same_target_lem c.target t f.2)) ∙ (clause_facts f.0 f.1).0 in
        let low : ltb t.variable (length s.variables) ≡ true = rw q at named in
        absurd (omega (arith, ltb-true t.variable (length s.variables) low)))
        (λ (q : eqb t.sub 255 ≡ false).
        let here : length s.variables + t.sub ≡ length s.variables + k = rw q at r.1 in
        let same : t ≡ called_target k t.variable = called_target_lem t k (omega arith) in
        (t.variable, subst (λ (u : Target). reads (length s.variables) w (tree s u) ≡ true) same r.2))
        (decide (eqb t.sub 255)),
    λ r.
        let other : eqb k 255 ≡ false = ne_eqb k 255 (omega (arith, within.sub_scopes)) in
        (depends_read (length s.variables + k) w).1 (called_target k r.0, rw other, r.1),
  )
