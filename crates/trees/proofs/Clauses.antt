-- A clause by a scope's row: the nodes that it names can be evaluated, and what is left of it is the scope's.
-- Assumes nothing.
use Prim.Native.Nat.{ℕ, ◌+◌, ◌<◌}
use mathlib.Core.Path.{◌≡◌}
use mathlib.Core.Bool.{true, false, cond}
use mathlib.Core.List.{List}
use mathlib.Core.Logic.{⊎_elim}
use lib.ListN.{length, get_or}
use lib.Dec.{eqb}
use borrow.Author.Tests.{ltb-true, eq-eqb, ne_eqb, eqb-true, eqb-false}
use Rattle.laws.proofs.Booleans.{decide, both}
use Rattle.calculus.specs.Evaluation.{eval}
use Rattle.book.specs.Syntax.{Scope, clause_of}
use Rattle.book.specs.Decode.{scopes_of}
use Rattle.book.specs.References.{scope_at, no_clause, names_target, names_parent, names_condition, names_consequence, clause_names}
use Rattle.book.specs.Positions.{clause_from, clause_at}
use Rattle.book.specs.Trees.{condition_term, consequence_term}
use Rattle.book.specs.declared.Consequence.TheVariants.{Of, Fixed}
use Rattle.book.specs.declared.Clause.{Clause}
use Rattle.book.proofs.Naming.{named_clauses}
use Rattle.index.proofs.Bodies.{after}
use Rattle.terms.specs.Outcomes.{env_of}
use Rattle.terms.specs.Clauses.{condition_in, consequence_in, rest_in, ReadableClause}
use Rattle.trees.specs.Chains.{rest_outcome}
use Rattle.trees.specs.Rows.{clause_place, RowOf, Roomy}
use Rattle.trees.proofs.Rows.{readable, node_outcome}

module _ (bytes row own called : List ℕ) (i : ℕ) (w : RowOf bytes row i) (roomy : Roomy (scopes_of bytes) (scope_at (scopes_of bytes) i) own called) where
  abbrev scope : Scope
  scope = scope_at (scopes_of bytes) i

  module _ (c : ℕ) (l : c < length scope.clauses) where
    abbrev at : ℕ
    at = get_or row (clause_place c) 0

    abbrev clause : Clause
    clause = get_or scope.clauses c no_clause

    abbrev condition : ℕ
    condition = get_or bytes (at + 4) 0

    abbrev last : ℕ
    last = get_or bytes (at + 5) 0

    abbrev kind : ℕ
    kind = get_or bytes at 0

    pub clause_inside : clause_place c < length row
    clause_inside = (w.clauses c l).0

    its_condition : clause.condition ≡ condition
    unfolding clause_from clause_of
    its_condition = rw (← (w.clauses c l).1.is) (after bytes at 3)

    its_consequence : clause.consequence ≡ cond (eqb kind 19) (Of last) (Fixed (eqb last 1))
    unfolding clause_from clause_of
    its_consequence = rw (← (w.clauses c l).1.is, after bytes at 4)

    named : (names_condition scope condition ≡ true) × (names_consequence scope (cond (eqb kind 19) (Of last) (Fixed (eqb last 1))) ≡ true)
    unfolding clause_names
    named =
        let p = both (names_target (scopes_of bytes) scope clause.target) _ (named_clauses (scopes_of bytes) scope w.named c l no_clause) in
        let q = both (names_parent scope c clause) _ p.1 in
        let r = both (names_condition scope clause.condition) _ q.1 in
        (rw its_condition at r.0, rw its_consequence at r.1)

    condition_there : (condition ≡ 255 → ⊥) → condition < length scope.nodes
    condition_there e = ltb-true condition (length scope.nodes) (rw (ne_eqb condition 255 e) at named.0)

    last_there : kind ≡ 19 → last < length scope.nodes
    last_there e = ltb-true last (length scope.nodes) (rw (eq-eqb kind 19 e) at named.1)

    pub readable_clause : ReadableClause bytes row own called at
    readable_clause =
        record {
          whole = (w.clauses c l).1.whole;
          condition = λ e. readable bytes row own called i w roomy condition (condition_there e);
          consequence = λ e. readable bytes row own called i w roomy last (last_there e);
        }

    condition_same : condition_in bytes row own called condition ≡ eval (env_of own called) (condition_term scope condition)
    unfolding eval
    condition_same =
        ⊎_elim
        (λ (q : eqb condition 255 ≡ true). rw q)
        (λ (q : eqb condition 255 ≡ false). rw q (node_outcome bytes row own called i w condition (condition_there (eqb-false condition 255 q))))
        (decide (eqb condition 255))

    consequence_same : consequence_in bytes row own called kind last
        ≡ eval (env_of own called) (consequence_term scope (cond (eqb kind 19) (Of last) (Fixed (eqb last 1))))
    unfolding eval
    consequence_same =
        ⊎_elim
        (λ (q : eqb kind 19 ≡ true). rw q (node_outcome bytes row own called i w last (last_there (eqb-true kind 19 q))))
        (λ (q : eqb kind 19 ≡ false). rw q)
        (decide (eqb kind 19))

    pub rest_same : rest_in bytes row own called at ≡ rest_outcome bytes own called i c
    unfolding rest_in rest_outcome clause_at
    rest_same = rw (its_condition, its_consequence, condition_same, consequence_same)
