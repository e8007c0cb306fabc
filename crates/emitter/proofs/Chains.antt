-- The chains of clauses, by the links: what a clause, the clauses behind it and a target's tree are.
-- Assumes nothing.
use Prim.Native.Nat.{ℕ, suc, ◌+◌, ◌-◌, ◌<◌, ◌≤◌}
use mathlib.Core.Path.{◌≡◌, refl, sym, ap, ◌∙◌}
use mathlib.Core.Bool.{true, false, not}
use mathlib.Core.List.{List}
use mathlib.Core.Logic.{⊎_elim}
use native.Mathlib.Omega.{arith}
use lib.ListN.{length, get_or, drop}
use lib.Dec.{eqb, ltb}
use borrow.Author.Tests.{ltb-true, ltb-false, eq-eqb, ne_eqb, eqb-true}
use Rattle.laws.proofs.Booleans.{decide}
use Rattle.calculus.specs.Terms.{Term, Terms, literal, error, default, none, also}
use Rattle.calculus.specs.declared.Value.TheVariants.{Truth}
use Rattle.answers.specs.declared.Cause.TheVariants.{Empty}
use Rattle.book.specs.Syntax.{Scope}
use Rattle.book.specs.Decode.{scopes_of}
use Rattle.book.specs.References.{scope_at, no_clause}
use Rattle.book.specs.Positions.{clause_at}
use Rattle.book.specs.Trees.{bases, has_rule, with_rules, without_rules, tree, called_target}
use Rattle.book.specs.declared.Target.{Target}
use Rattle.book.specs.declared.Clause.{Clause}
use Rattle.links.specs.Links.{slot_of, head_of, in_chain, first_from}
use Rattle.trees.specs.Chains.{Ready, chain_terms}
use Rattle.links.proofs.Named.{Chained, sound_chained, chained_head}
use Rattle.trees.proofs.Chains.{found, clause_term, chain_from, term_at, from_start, from_past, from_here, from_first, exceptions_chain, bases_chain}
use Rattle.trees.proofs.Targets.{rule_first, rule_link, slot_few}
use Rattle.translation.specs.Code.{size}
use Rattle.emitter.specs.Emission.{Emitted}
use Rattle.emitter.specs.Pieces.{EmittedAround, around_size, condition_at, consequence_at, rest_at, siblings, clause_term_at, last_outcome}
use Rattle.emitter.specs.Pieces.{bases_at, tree_at}
use Rattle.emitter.proofs.Terms.{size_default, size_rest, emits_default}

module _ (bytes : List ℕ) (i : ℕ) where
  abbrev scope : Scope
  scope = scope_at (scopes_of bytes) i

  abbrev cs : List Clause
  cs = scope.clauses

  by_chain : (c : ℕ) → siblings bytes i c ≡ chain_from scope (head_of (get_or cs c no_clause)) c
  unfolding siblings chain_from clause_at
  by_chain c = refl

  pub siblings_past : (c : ℕ) → length cs ≤ c → siblings bytes i c ≡ none
  siblings_past c l = by_chain c ∙ from_past scope (head_of (get_or cs c no_clause)) c l

  -- clause c with exceptions
  abbrev clause_with : ℕ → Terms → Term
  clause_with c es =
      default es (condition_at bytes i (clause_at (scopes_of bytes) i c).condition) (consequence_at bytes i (clause_at (scopes_of bytes) i c).consequence)

  module _ (g : Chained cs) where
    -- the first found of a chain, and those behind it
    joined : (k n d : ℕ) → d ≡ first_from (in_chain k) n (drop n cs) → siblings bytes i d ≡ chain_from scope k n
    joined k n d e =
        ⊎_elim
        (λ (q : ltb d (length cs) ≡ true).
        let l = ltb-true d (length cs) q in
        let h = eqb-true (head_of (get_or cs d no_clause)) k (found (in_chain k) cs g.few d l n e).1 in
        by_chain d ∙ ap (λ (a : ℕ). chain_from scope a d) h ∙ sym (from_first scope k g.few n d e))
        (λ (q : ltb d (length cs) ≡ false).
        siblings_past d (ltb-false d (length cs) q) ∙ sym (from_past scope k d (ltb-false d (length cs) q)) ∙ sym (from_first scope k g.few n d e))
        (decide (ltb d (length cs)))

    split : (c : ℕ) → c < length cs
        → clause_term_at bytes i c ≡ clause_with c (chain_terms scope (289 + c))
    unfolding clause_term_at clause_term condition_at consequence_at clause_at
    split c l =
        term_at scope c (error Empty) l
        ∙ ap (clause_with c)
        (exceptions_chain scope g c l)

module _ (bytes index links : List ℕ) (i : ℕ) (w : Ready bytes index links i) where
  chained : Chained (cs bytes i)
  chained = sound_chained bytes index w.sound i

  pub few : length (cs bytes i) ≤ 128
  few = chained.few

  -- the chain that begins in a cell
  pub chain_first : (k e : ℕ) → k < 417 → e ≡ get_or links k 0 → siblings bytes i e ≡ chain_terms (scope bytes i) k
  chain_first k e l h = joined bytes i chained k 0 e (h ∙ w.linked.first k l) ∙ sym (from_start (scope bytes i) k)

  module _ (c : ℕ) (l : c < length (cs bytes i)) where
    abbrev head : ℕ
    head = head_of (get_or (cs bytes i) c no_clause)

    pub siblings_here : (d : ℕ) → d ≡ get_or links (417 + c) 0 → siblings bytes i c ≡ also (clause_term_at bytes i c) (siblings bytes i d)
    unfolding clause_term_at
    siblings_here d e =
        by_chain bytes i c
        ∙ from_here (scope bytes i) head c l (eq-eqb head head refl)
        ∙ ap (λ (t : Term). also t (chain_from (scope bytes i) head (suc c))) (sym (term_at (scope bytes i) c (error Empty) l))
        ∙ ap (also (clause_term_at bytes i c)) (sym (joined bytes i chained head (suc c) d (e ∙ w.linked.next c (omega arith) l)))

    pub next_higher : (d : ℕ) → d ≡ get_or links (417 + c) 0 → c < d
    next_higher d e =
        ⊎_elim
        (λ (q : ltb d (length (cs bytes i)) ≡ true).
        let r = (found (in_chain head) (cs bytes i) few d (ltb-true d (length (cs bytes i)) q) (suc c) (e ∙ w.linked.next c (omega arith) l)).0 in
        omega arith)
        (λ (q : ltb d (length (cs bytes i)) ≡ false). let m = ltb-false d (length (cs bytes i)) q in omega arith)
        (decide (ltb d (length (cs bytes i))))

    module _ (e : ℕ) (h : e ≡ get_or links (289 + c) 0) where
      pub first_higher : c < e
      first_higher =
          ⊎_elim
          (λ (q : ltb e (length (cs bytes i)) ≡ true).
          let m = ltb-true e (length (cs bytes i)) q in
          let r = (found (in_chain (289 + c)) (cs bytes i) few e m 0 (h ∙ w.linked.first (289 + c) (omega (arith, few)))).1 in
          let z = eqb-true (head_of (get_or (cs bytes i) e no_clause)) (289 + c) r in
          omega (arith, z, chained_head (cs bytes i) chained e m))
          (λ (q : ltb e (length (cs bytes i)) ≡ false). let m = ltb-false e (length (cs bytes i)) q in omega arith)
          (decide (ltb e (length (cs bytes i))))

      clause_split : clause_term_at bytes i c
          ≡ clause_with bytes i c (siblings bytes i e)
      clause_split =
          split bytes i chained c l
          ∙ ap (clause_with bytes i c)
          (sym (chain_first (289 + c) e (omega (arith, few)) h))

      pub clause_size : size (clause_term_at bytes i c) ≡ around_size (siblings bytes i e) + size (rest_at bytes i c)
      unfolding rest_at
      clause_size =
          let j = condition_at bytes i (clause_at (scopes_of bytes) i c).condition in
          let r = consequence_at bytes i (clause_at (scopes_of bytes) i c).consequence in
          size_default clause_split ∙ ap (λ (n : ℕ). around_size (siblings bytes i e) + n) (sym (size_rest j r))

      pub emits_clause : {s m o : List ℕ} {at p q d : ℕ} → Emitted s at (rest_at bytes i c) p m → d ≡ p - at
          → EmittedAround m p (siblings bytes i e) d q o → Emitted s at (clause_term_at bytes i c) q o
      unfolding rest_at
      emits_clause a f b = emits_default clause_split a f b

  -- Trees

  module _ (k v slot : ℕ) (at : slot ≡ slot_of (called_target k v)) (e : ℕ) (h : e ≡ get_or links slot 0) (r : ℕ) (u : r ≡ get_or links (545 + slot) 0) where
    abbrev target : Target
    target = called_target k v

    listed : bases (scope bytes i) target ≡ siblings bytes i e
    listed =
        bases_chain (scope bytes i) chained target
        ∙ ap (chain_terms (scope bytes i)) (sym at)
        ∙ sym (chain_first slot e (omega (arith, slot_few bytes index links i w k v slot at)) h)

    rules : has_rule (scope bytes i) target ≡ not (eqb r 255)
    rules =
        rule_first (scope bytes i) target chained
        ∙ ap (λ (n : ℕ). not (eqb n 255)) (sym (rule_link bytes index links i w k v slot at r u))

    pub tree_ruled : (r ≡ 255 → ⊥) → tree_at bytes i k v ≡ bases_at bytes i e true
    unfolding tree_at tree bases_at last_outcome
    tree_ruled z =
        let some : has_rule (scope bytes i) target ≡ true = rules ∙ ap not (ne_eqb r 255 z) in
        rw some (ap with_rules listed)

    unruled : r ≡ 255 → tree_at bytes i k v ≡ without_rules (siblings bytes i e)
    unfolding tree_at tree
    unruled z =
        let none : has_rule (scope bytes i) target ≡ false = rules ∙ ap not (eq-eqb r 255 z) in
        rw none (ap without_rules listed)

    module _ (z : r ≡ 255) where
      pub tree_none : length (cs bytes i) ≤ e → tree_at bytes i k v ≡ error Empty
      tree_none l = unruled z ∙ ap without_rules (siblings_past bytes i e l)

      module _ (l : e < length (cs bytes i)) (d : ℕ) (f : d ≡ get_or links (417 + e) 0) where
        pub tree_one : length (cs bytes i) ≤ d → tree_at bytes i k v ≡ clause_term_at bytes i e
        tree_one m = unruled z ∙ ap without_rules (siblings_here e l d f ∙ ap (also (clause_term_at bytes i e)) (siblings_past bytes i d m))

        pub tree_many : d < length (cs bytes i) → tree_at bytes i k v ≡ bases_at bytes i e false
        unfolding bases_at last_outcome
        tree_many m =
            let two = siblings_here e l d f ∙ ap (also (clause_term_at bytes i e)) (siblings_here d m (get_or links (417 + d) 0) refl) in
            unruled z
            ∙ ap without_rules two
            ∙ ap (λ (es : Terms). default es (literal (Truth true)) (error Empty)) (sym two)
