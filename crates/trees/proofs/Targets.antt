-- The default tree of a target, by the chain of its bases, and whether it has rules and clauses.
--     tree_ruled, tree-unruled    a tree's outcome: what its bases come to; no or empty where they come to nothing
--     target_claused              a target has clauses exactly where it has bases
-- Assumes nothing.
use Prim.Native.Nat.{ℕ, zero, suc, ◌<◌, ◌+◌}
use mathlib.Core.Path.{◌≡◌, refl, sym, ap, ◌∙◌}
use mathlib.Core.Bool.{Bool, true, false, not, ◌&&◌, false≢true, and_comm, or-true}
use mathlib.Core.List.{List, [], ◌∷◌}
use mathlib.Core.Logic.{⊎_elim}
use native.Mathlib.Omega.{arith}
use lib.ListN.{length, get_or}
use lib.Dec.{eqb}
use borrow.Author.Tests.{eqb-true, eq-eqb, ne_eqb}
use Rattle.std.specs.Prelude.{Result, Ok, Err}
use Rattle.laws.proofs.Booleans.{both, or_cases, both_ways}
use Rattle.calculus.specs.Defaults.{gather, settle}
use Rattle.calculus.specs.Terms.{Terms, none, also}
use Rattle.calculus.specs.Evaluation.{Env, eval, exceptions}
use Rattle.calculus.specs.declared.Value.TheVariants.{Truth}
use Rattle.answers.specs.declared.Cause.TheVariants.{Empty, Conflict, OutOfRange}
use Rattle.calculus.specs.declared.Joined.TheVariants.{Nothing}
use Rattle.book.specs.Lists.{any}
use Rattle.book.specs.Syntax.{Scope, same_target, is_rule}
use Rattle.book.specs.Decode.{scopes_of}
use Rattle.book.specs.References.{scope_at, no_clause}
use Rattle.book.specs.Trees.{has_target, is_base, bases, has_rule, without_rules, tree, called_target}
use Rattle.book.specs.declared.Target.{Target}
use Rattle.book.specs.declared.Clause.{Clause}
use Rattle.book.proofs.Searches.{any_same}
use Rattle.terms.specs.Outcomes.{env_of}
use Rattle.links.specs.Links.{slot_of, in_chain, rule_of, first_from}
use Rattle.trees.specs.Chains.{chain_outcome, tree_outcome, clause_for, Ready}
use Rattle.links.proofs.Slots.{slot_bound, slot_same, in_bases}
use Rattle.links.proofs.Named.{Chained, sound_chained}
use Rattle.trees.proofs.Chains.{any_first, bases_chain}
use Rattle.calculus.specs.declared.Joined.{Joined}
use Rattle.answers.specs.declared.Cause.{Cause}
use Rattle.calculus.specs.declared.Value.{Value}

-- Searches

any_at : (p : Clause → Bool) (cs : List Clause) (n : ℕ) → n < length cs → p (get_or cs n no_clause) ≡ true → any p cs ≡ true
unfolding any
any_at p [] n l e = absurd (omega arith)
any_at p (c ∷ cs) zero l e = rw e
any_at p (c ∷ cs) (suc n) l e = rw (any_at p cs n (omega arith) e) (or-true (p c))

-- where each clause that has p makes q found, q is found if p is
any_leads : (p q : Clause → Bool) (ds cs : List Clause) → ((j : ℕ) → j < length cs → p (get_or cs j no_clause) ≡ true → any q ds ≡ true)
    → any p cs ≡ true → any q ds ≡ true
unfolding any
any_leads p q ds [] h e = absurd (false≢true e)
any_leads p q ds (c ∷ cs) h e =
    ⊎_elim
    (λ (a : p c ≡ true). h 0 (omega arith) a)
    (λ (a : any p cs ≡ true). any_leads p q ds cs (λ j l. h (suc j) (omega arith)) a)
    (or_cases (p c) (any p cs) e)

-- Trees

-- one exception alone, and nothing else, is itself
alone : (o : Result Value Cause) → settle (gather (Ok Nothing) o) (Err Empty) ≡ o
alone (Ok v) = refl
alone (Err Empty) = refl
alone (Err Conflict) = refl
alone (Err (OutOfRange s)) = refl

without_rules_lem : (e : Env) (ts : Terms) → eval e (without_rules ts) ≡ settle (exceptions e (Ok Nothing) ts) (Err Empty)
unfolding eval exceptions
without_rules_lem e none = refl
without_rules_lem e (also t none) = sym (alone (eval e t))
without_rules_lem e (also t (also u us)) = refl

module _ (e : Env) (s : Scope) (t : Target) where
  ruled : has_rule s t ≡ true → eval e (tree s t) ≡ settle (exceptions e (Ok Nothing) (bases s t)) (Ok (Truth false))
  unfolding tree eval
  ruled h = rw h

  unruled : has_rule s t ≡ false → eval e (tree s t) ≡ settle (exceptions e (Ok Nothing) (bases s t)) (Err Empty)
  unfolding tree
  unruled h = rw h (without_rules_lem e (bases s t))

module _ (s : Scope) (t : Target) (g : Chained s.clauses) where
  pub rule_first : has_rule s t ≡ not (eqb (first_from (rule_of (slot_of t)) 0 s.clauses) 255)
  unfolding has_rule
  rule_first =
      any_same _ (rule_of (slot_of t)) s.clauses no_clause
      (λ j l.
      let c = get_or s.clauses j no_clause in
      ap (λ (b : Bool). b && is_rule c.consequence) (sym (slot_same c.target t (g.target j l)))
      ∙ and_comm (eqb (slot_of c.target) (slot_of t)) (is_rule c.consequence))
      ∙ any_first (rule_of (slot_of t)) s.clauses g.few

  base_first : any (is_base t) s.clauses ≡ not (eqb (first_from (in_chain (slot_of t)) 0 s.clauses) 255)
  base_first =
      any_same (is_base t) (in_chain (slot_of t)) s.clauses no_clause (λ j l. sym (in_bases (get_or s.clauses j no_clause) t (g.target j l)))
      ∙ any_first (in_chain (slot_of t)) s.clauses g.few

  -- a clause leads to a base of its target: itself, or that of its parent
  base_below : (b n : ℕ) → n < b → n < length s.clauses → has_target t (get_or s.clauses n no_clause) ≡ true → any (is_base t) s.clauses ≡ true
  base_below zero n l h e = absurd (omega arith)
  base_below (suc b) n l h e =
      let c = get_or s.clauses n no_clause in
      ⊎_elim
      (λ (p : c.parent ≡ 255). any_at (is_base t) s.clauses n h (rw (e, eq-eqb c.parent 255 p) refl))
      (λ p. base_below b c.parent (omega (arith, p.0)) (omega (arith, p.0)) (same_trans (get_or s.clauses c.parent no_clause).target c.target t p.1 e))
      (g.parent n h)
    where
      same_trans : (x y z : Target) → same_target x y ≡ true → same_target y z ≡ true → same_target x z ≡ true
      same_trans x y z p q =
          let a = both (eqb x.sub y.sub) _ p in
          let b = both (eqb y.sub z.sub) _ q in
          rw (eq-eqb x.sub z.sub (eqb-true x.sub y.sub a.0 ∙ eqb-true y.sub z.sub b.0))
          (eq-eqb x.variable z.variable (eqb-true x.variable y.variable a.1 ∙ eqb-true y.variable z.variable b.1))

  claused : any (has_target t) s.clauses ≡ any (is_base t) s.clauses
  claused =
      both_ways (any (has_target t) s.clauses) (any (is_base t) s.clauses)
      (any_leads (has_target t) (is_base t) s.clauses s.clauses (λ j l e. base_below (suc j) j (omega arith) l e))
      (any_leads (is_base t) (has_target t) s.clauses s.clauses
      (λ j l e. any_at (has_target t) s.clauses j l (both (has_target t (get_or s.clauses j no_clause)) _ e).0))

module _ (bytes index links : List ℕ) (i : ℕ) (w : Ready bytes index links i) (k v : ℕ)
    (slot : ℕ) (at : slot ≡ slot_of (called_target k v)) where
  abbrev scope : Scope
  scope = scope_at (scopes_of bytes) i

  abbrev target : Target
  target = called_target k v

  chained : Chained scope.clauses
  chained = sound_chained bytes index w.sound i

  pub slot_few : slot < 289
  slot_few = omega (arith, slot_bound target)

  pub rule_link : (r : ℕ) → r ≡ get_or links (545 + slot) 0 → r ≡ first_from (rule_of (slot_of target)) 0 scope.clauses
  rule_link r e = rw at at (e ∙ w.linked.rule slot slot_few)

  base_link : (r : ℕ) → r ≡ get_or links slot 0 → r ≡ first_from (in_chain (slot_of target)) 0 scope.clauses
  base_link r e = rw at at (e ∙ w.linked.first slot (omega (arith, slot_few)))

  pub target_claused : (r : ℕ) → r ≡ get_or links slot 0 → not (eqb r 255) ≡ clause_for bytes i k v
  unfolding clause_for
  target_claused r e =
      ap (λ (n : ℕ). not (eqb n 255)) (base_link r e)
      ∙ sym (base_first scope target chained)
      ∙ sym (claused scope target chained)

  module _ (own called : List ℕ) where
    bases_outcome : chain_outcome bytes own called i slot ≡ exceptions (env_of own called) (Ok Nothing) (bases scope target)
    unfolding chain_outcome
    bases_outcome = ap (exceptions (env_of own called) (Ok Nothing)) (rw at (sym (bases_chain scope chained target)))

    pub tree_unruled : get_or links (545 + slot) 0 ≡ 255 → tree_outcome bytes own called i k v ≡ settle (chain_outcome bytes own called i slot) (Err Empty)
    unfolding tree_outcome
    tree_unruled z =
        let none : has_rule scope target ≡ false =
        rule_first scope target chained ∙ ap (λ (n : ℕ). not (eqb n 255)) (sym (rule_link _ refl) ∙ z) in
        unruled (env_of own called) scope target none ∙ sym (ap (λ (a : Result Joined Cause). settle a (Err Empty)) bases_outcome)

    pub tree_ruled : (get_or links (545 + slot) 0 ≡ 255 → ⊥)
        → tree_outcome bytes own called i k v ≡ settle (chain_outcome bytes own called i slot) (Ok (Truth false))
    unfolding tree_outcome
    tree_ruled z =
        let some : has_rule scope target ≡ true =
        rule_first scope target chained
        ∙ ap (λ (n : ℕ). not (eqb n 255)) (sym (rule_link _ refl))
        ∙ ap not (ne_eqb (get_or links (545 + slot) 0) 255 z) in
        ruled (env_of own called) scope target some ∙ sym (ap (λ (a : Result Joined Cause). settle a (Ok (Truth false))) bases_outcome)
