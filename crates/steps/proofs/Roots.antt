-- The nodes that the clauses of a scope name, given to the rows of the clauses' steps.
--     operand_lower   where no number dangles, a node names nodes of lower number only
--     clauses_left     what the clauses from the c-th on read
--     Rooting         what holds when the nodes of the clauses below c are given: rooting-start, rooting-turn, rooting-done
-- Assumes nothing.
use Prim.Native.Nat.{ℕ, ◌<◌, ◌≤◌, ◌+◌}
use mathlib.Core.Path.{◌≡◌, sym, ap, ◌∙◌}
use mathlib.Core.Bool.{Bool, true, false, ◌&&◌, ◌||◌, or-false, or_assoc}
use mathlib.Core.List.{List}
use native.Mathlib.Omega.{arith}
use native.Mathlib.Numerals.{add-one}
use lib.ListN.{length, get_or, drop, replicate, get_or-replicate, length-replicate, drop_of_length-le}
use lib.Seq.{drop-cons}
use lib.Dec.{eqb}
use borrow.Author.Tests.{ne_eqb}
use Rattle.order.specs.Order.{among}
use Rattle.laws.proofs.Booleans.{untrue}
use Rattle.book.specs.Lists.{any}
use Rattle.book.specs.Syntax.{Scope, no_node}
use Rattle.book.specs.References.{scope_at, no_clause, dangles}
use Rattle.book.specs.Sharing.{operands, clause_nodes, shares}
use Rattle.book.specs.Steps.{step_of, clause_reads, depends_on}
use Rattle.book.specs.Positions.{node_at, clause_at}
use Rattle.book.specs.declared.Clause.{Clause}
use Rattle.book.proofs.Naming.{named_nodes, named_clauses, scope_sound}
use Rattle.book.proofs.Namings.{operands_lower, clause_nodes_lem, clauses_apart, node_clause_apart, scope_once}
use Rattle.steps.specs.Edges.{step_with}
use Rattle.steps.specs.Owners.{Owned, node_reads, owned_edges, Unowned, Roots}
use Rattle.steps.proofs.Reading.{clause_reads_lem}
use Rattle.steps.proofs.Owners.{some_none, handed}

-- what the clauses from the c-th on read
unfoldable pub clauses_left : Scope → ℕ → ℕ → ℕ → Bool
clauses_left s c x y = any (λ d. eqb (step_of s d) x && clause_reads s y d) (drop c s.clauses)

pub record Rooting (book : List Scope) (i : ℕ) (owners : List ℕ) (c : ℕ) : Type 0 where
  pub long : length owners ≡ 256
  pub free : Unowned book i owners (length (scope_at book i).nodes)
  pub later : (k m : ℕ) → c ≤ k → k < length (scope_at book i).clauses → among (clause_nodes (clause_at book i k)) m ≡ true → get_or owners m 0 ≡ 255
  pub edges : (x y : ℕ) → x < 40
      → (owned_edges (scope_at book i) owners (length (scope_at book i).nodes) x y || clauses_left (scope_at book i) c x y) ≡ depends_on (scope_at book i) x y

clause_first : (s : Scope) (c x y : ℕ) → c < length s.clauses
    → clauses_left s c x y
    ≡ (eqb (step_of s (get_or s.clauses c no_clause)) x && clause_reads s y (get_or s.clauses c no_clause) || clauses_left s (c + 1) x y)
unfolding clauses_left any
clause_first s c x y l = rw (drop-cons s.clauses c no_clause l, add-one c)

module _ (book : List Scope) (i : ℕ) (sound : dangles book ≡ false) where
  pub operand_lower : (k m : ℕ) → k < length (scope_at book i).nodes → among (operands (node_at book i k)) m ≡ true → m < k
  unfolding node_at
  operand_lower k m l e =
      operands_lower book (scope_at book i) k (node_at book i k) (named_nodes book (scope_at book i) (scope_sound book sound i) k l no_node) m e

  clause_inside : (k m : ℕ) → k < length (scope_at book i).clauses → among (clause_nodes (clause_at book i k)) m ≡ true → m < length (scope_at book i).nodes
  unfolding clause_at
  clause_inside k m l e =
      clause_nodes_lem book (scope_at book i) k (clause_at book i k) (named_clauses book (scope_at book i) (scope_sound book sound i) k l no_clause) m e

module _ (book : List Scope) (i : ℕ) (few : length (scope_at book i).nodes ≤ 250) (sound : dangles book ≡ false) where
  pub rooting_start : (owners : List ℕ) → owners ≡ replicate 256 255 → Rooting book i owners 0
  unfolding owned_edges clauses_left depends_on
  rooting_start owners e =
      let all : (m : ℕ) → m < 256 → get_or owners m 0 ≡ 255 = λ m l. ap (λ (t : List ℕ). get_or t m 0) e ∙ get_or-replicate 256 m 255 0 l in
      record {
        long = ap length e ∙ length-replicate {A = ℕ} 256 255;
        free = λ k m l p. let h = operand_lower book i sound k m l p in all m (omega arith);
        later = λ k m z l p. let h = clause_inside book i sound k m l p in all m (omega arith);
        edges =
            λ x y l.
            rw (some_none (λ m. eqb (get_or owners m 0) x && node_reads (scope_at book i) y m) (length (scope_at book i).nodes)
            (λ m h. let z = all m (omega arith) in rw (ne_eqb (get_or owners m 0) x (omega arith))));
      }

  module _ (single : shares book ≡ false) (owners : List ℕ) (c : ℕ) (g : Rooting book i owners c) where
    pub rooting_turn : (next : List ℕ) (clause : Clause) (variables row : ℕ) → c < length (scope_at book i).clauses → clause ≡ clause_at book i c
        → variables ≡ length (scope_at book i).variables → row ≡ step_with variables clause → Owned (clause_nodes clause) row owners next
        → Rooting book i next (c + 1)
    unfolding clauses_left clause_at node_at step_of step_with
    rooting_turn next clause variables row l is ev er h =
        let s = scope_at book i in
        let all = length s.nodes in
        let once = scope_once book single i in
        let o : Owned (clause_nodes (clause_at book i c)) row owners next = rw is at h in
        let others : (m : ℕ) → m < 255 → (among (clause_nodes (clause_at book i c)) m ≡ true → ⊥) → get_or next m 0 ≡ get_or owners m 0 =
        λ m b no. o.owner m b ∙ rw (untrue (among (clause_nodes (clause_at book i c)) m) no) in
        record {
          long = h.long ∙ g.long;
          free =
              λ k m b p.
              let below = operand_lower book i sound k m b p in
              others m (omega arith) (λ q. node_clause_apart s once m k c no_node no_clause b l p q) ∙ g.free k m b p;
          later =
              λ k m a b p.
              let below = clause_inside book i sound k m b p in
              others m (omega arith) (λ q. clauses_apart s once m c k no_clause (omega arith) b q p) ∙ g.later k m (omega arith) b p;
          edges =
              λ x y v.
              let this = eqb row x && any (node_reads s y) (clause_nodes (clause_at book i c)) in
              let rest = any (λ d. eqb (step_of s d) x && clause_reads s y d) (drop (c + 1) s.clauses) in
              let same : (eqb (step_of s (clause_at book i c)) x && clause_reads s y (clause_at book i c)) ≡ this =
              rw (er, ev, is, clause_reads_lem s y (clause_at book i c)) in
              ap (λ (t : Bool). t || rest)
              (handed s all few (clause_nodes (clause_at book i c)) row owners next o (λ m p. clause_inside book i sound c m l p)
              (λ m p. g.later c m (omega arith) l p) x y v)
              ∙ or_assoc (owned_edges s owners all x y) this rest
              ∙ ap (λ (t : Bool). owned_edges s owners all x y || (t || rest)) (sym same)
              ∙ ap (λ (t : Bool). owned_edges s owners all x y || t) (sym (clause_first s c x y l))
              ∙ g.edges x y v;
        }

    pub rooting_done : length (scope_at book i).clauses ≤ c → Roots book i owners
    unfolding clauses_left any
    rooting_done l =
        record {
          long = g.long;
          free = g.free;
          edges =
              λ x y v.
              let s = scope_at book i in
              let none : clauses_left s c x y ≡ false = rw (drop_of_length-le s.clauses l) in
              let owned = owned_edges s owners (length s.nodes) x y in
              sym (or-false owned) ∙ ap (λ (t : Bool). owned || t) (sym none) ∙ g.edges x y v;
        }
