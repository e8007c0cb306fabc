-- The loops of the pass, over the nodes and over the clauses of a scope: what holds when those below n are passed, and what follows.
--     leaf_told                      a node that names no node
--     never, kept                    of None nothing else is asked, and of what is found all of it
--     Nodes, Clauses                 the invariants: none below n dangles; what they name is marked; whether one does not fit is known
--     nodes_start, clauses-start     at the start
--     node_dangles_lem, clause-dangles   the next dangles
--     node_turn, clause-turn         it does not
--     nodes_end, clauses-end         none is left
--     sub_scope_wrong, node-wrong, scope-passed    what was found of a scope by its sub-scopes, its nodes and its clauses
-- Assumes nothing.
use Prim.Native.Nat.{ℕ, ◌+◌, ◌≤◌, ◌<◌}
use mathlib.Core.Path.{◌≡◌, refl, sym, ap, ◌∙◌, subst}
use mathlib.Core.Bool.{Bool, true, false, not, ◌||◌, true≢false}
use mathlib.Core.List.{List, []}
use native.Mathlib.Omega.{arith}
use lib.ListN.{length, set, replicate}
use borrow.Author.Tests.{not-false}
use Rattle.book.specs.Syntax.{Scope, no_node}
use Rattle.book.specs.Limits.{Within}
use Rattle.book.specs.References.{scope_at, no_clause, node_names, dangles_in}
use Rattle.book.specs.Sharing.{operands, clause_nodes, namings}
use Rattle.book.specs.Typing.{mismatch_in}
use Rattle.book.specs.Positions.{node_at, clause_at}
use Rattle.book.specs.declared.Node.{Node}
use Rattle.book.specs.declared.Clause.{Clause}
use Rattle.book.specs.declared.ValueType.{ValueType}
use Rattle.book.proofs.Searches.{Sought, start, turn, found, ended}
use Rattle.sharing.specs.Marks.{Marking}
use Rattle.sharing.proofs.Marks.{marked_none, marked_then, marked_repeats, passed, passed_start, passed_more, passed_end}
use Rattle.references.specs.Dangling.{sub_scope_dangles}
use Rattle.checks.specs.declared.Findings.{Findings}
use Rattle.checks.specs.declared.NodeFinding.{NodeFinding}
use Rattle.checks.specs.declared.ClauseFinding.{ClauseFinding}
use Rattle.checks.specs.Findings.{byte_of, type_byte, node_suits, leaf_finding}
use Rattle.std.specs.Prelude.{Option, None, Some}
use Rattle.checks.specs.Findings.{says_dangling, wrong_node, wrong_clause, node_dangles, clause_dangles, node_namings, clause_namings}
use Rattle.checks.specs.Findings.{shares_in, misfit_node, misfit_clause, node_misfits, clause_misfits, Typed, OfNode, OfClause, OfNodes, OfClauses, OfScope}
use Rattle.checks.proofs.Gathered.{Gathered, more, whole}
use Rattle.checks.proofs.Gathered.{start as none}
use Rattle.checks.proofs.Table.{Table, filled, told, told_clause}
use Rattle.checks.proofs.Table.{start as blank-table, turn as put}

pub never : {f : Findings} → None ≡ Some f → ⊥
never q = true≢false (ap says_dangling q)

-- what holds of the findings holds of those that are answered
pub kept : (P : Findings → Type 0) {g f : Findings} → Some g ≡ Some f → P g → P f
kept P q p = let e : ◌≡◌ {A = Findings} _ _ = cc in subst P e p

-- a node that names no node
pub leaf_told :
    {book : List Scope} {i n : ℕ} {marks types : List ℕ} {twice : Bool} {r : NodeFinding} (x : Node) (names : Bool) (t : ValueType)
    → r ≡ leaf_finding names twice t → names ≡ node_names book (scope_at book i) n x → operands x ≡ [] → node_suits types x ≡ true
    → byte_of t ≡ type_byte book i types x → OfNode book i n marks types twice x r marks
unfolding leaf_finding
leaf_told {twice = twice} {r = r} x names t e en eo es et =
    let same : r.shares ≡ twice = ap (λ (s : NodeFinding). s.shares) e in
    record {
      named = ap (λ (s : NodeFinding). s.names) e ∙ en;
      shared = rw (eo, same) marked_none;
      fitting = ap (λ (s : NodeFinding). s.suits) e ∙ sym es;
      typed = ap (λ (s : NodeFinding). s.byte) e ∙ et;
    }

pub record Nodes (book : List Scope) (i : ℕ) (from : List ℕ) (marks types : List ℕ) (shares mismatches : Bool) (n : ℕ) : Type 0 where
  pub names : Sought (wrong_node book i) (scope_at book i).nodes n
  pub marked : Marking (passed operands n (scope_at book i).nodes) from false shares marks
  pub typed : Table book i types n
  pub gathered : Gathered (misfit_node book i) (scope_at book i).nodes false n mismatches

pub nodes_start : (book : List Scope) (i : ℕ) (marks types : List ℕ) → types ≡ replicate 256 0 → Nodes book i marks marks types false false 0
nodes_start book i marks types e =
    record { names = start _ _; marked = passed_start _ _; typed = rw e (blank-table book i); gathered = none _ _ _ }

module _
    {book : List Scope} {i : ℕ} {from marks types : List ℕ} {shares mismatches : Bool} {n : ℕ}
    (g : Nodes book i from marks types shares mismatches n) where
  module _ (within : n < length (scope_at book i).nodes) where
    module _
        {x : Node} {r : NodeFinding} {after : List ℕ} (ex : x ≡ node_at book i n) (step : OfNode book i n marks types shares x r after) where
      wrong : wrong_node book i n (node_at book i n) ≡ not r.names
      wrong = rw (step.named, ex)

      pub node_dangles_lem : not r.names ≡ true → OfNodes book i from None after types
      unfolding node_dangles node_at
      node_dangles_lem e =
          record {
            dangling = found _ _ _ g.names no_node within (wrong ∙ e);
            shared = λ f q. absurd (never q);
            mismatched = λ f q. absurd (never q);
            typed = λ f q. absurd (never q);
          }

      pub node_turn : not r.names ≡ false → Within book
          → Nodes book i from after (set types n r.byte) r.shares (mismatches || not r.suits) (n + 1)
      unfolding node_at
      node_turn e w =
          let few = w.nodes i in
          record {
            names = turn _ _ _ g.names no_node within (wrong ∙ e);
            marked = passed_more _ _ _ g.marked no_node within (rw ex at step.shared);
            typed = put _ _ _ _ g.typed (omega arith) within x r.byte ex step.typed;
            gathered =
                more _ _ _ _ _ g.gathered no_node within _
                (told _ _ _ _ g.typed within x ex (sym step.named ∙ not-false r.names e) r.suits step.fitting);
          }

  pub nodes_end : length (scope_at book i).nodes ≤ n
      → OfNodes book i from (Some (record { shares = shares; mismatches = mismatches })) marks types
  unfolding node_dangles node_namings node_misfits
  nodes_end h =
      record {
        dangling = ended _ _ _ g.names h;
        shared = λ f q. kept (λ (f : Findings). Marking (node_namings book i) from false f.shares marks) q (passed_end _ _ _ g.marked h);
        mismatched = λ f q. kept (λ (f : Findings). f.mismatches ≡ node_misfits book i) q (whole _ _ _ _ _ g.gathered h);
        typed = λ f q. filled _ _ _ _ g.typed h;
      }

pub record Clauses (book : List Scope) (i : ℕ) (from : List ℕ) (twice misfit : Bool) (marks : List ℕ) (shares mismatches : Bool) (n : ℕ) : Type 0 where
  pub names : Sought (wrong_clause book i) (scope_at book i).clauses n
  pub marked : Marking (passed clause_nodes n (scope_at book i).clauses) from twice shares marks
  pub gathered : Gathered (misfit_clause book i) (scope_at book i).clauses misfit n mismatches

pub clauses_start : (book : List Scope) (i : ℕ) (marks : List ℕ) (twice misfit : Bool) → Clauses book i marks twice misfit marks twice misfit 0
clauses_start book i marks twice misfit = record { names = start _ _; marked = passed_start _ _; gathered = none _ _ _ }

module _
    {book : List Scope} {i : ℕ} {from : List ℕ} {twice misfit : Bool} {marks : List ℕ} {shares mismatches : Bool} {n : ℕ}
    (g : Clauses book i from twice misfit marks shares mismatches n) where
  module _
      (within : n < length (scope_at book i).clauses) {x : Clause} {r : ClauseFinding} {after types : List ℕ} (ex : x ≡ clause_at book i n)
      (of : OfClause book i n marks types shares x r after) where
    wrong_clause_lem : wrong_clause book i n (clause_at book i n) ≡ not r.names
    wrong_clause_lem = rw (of.named, ex)

    pub clause_dangles_lem : not r.names ≡ true → {first : Findings} → OfClauses book i from first None after
    unfolding clause_dangles clause_at
    clause_dangles_lem e =
        record {
          dangling = found _ _ _ g.names no_clause within (wrong_clause_lem ∙ e);
          shared = λ f q. absurd (never q);
          mismatched = λ f q. absurd (never q);
        }

    pub clause_turn : not r.names ≡ false → Typed book i types
        → Clauses book i from twice misfit after r.shares (mismatches || not r.suits) (n + 1)
    unfolding clause_at
    clause_turn e t =
        record {
          names = turn _ _ _ g.names no_clause within (wrong_clause_lem ∙ e);
          marked = passed_more _ _ _ g.marked no_clause within (rw ex at of.shared);
          gathered = more _ _ _ _ _ g.gathered no_clause within _ (told_clause _ _ _ t x ex r.suits of.fitting);
        }

  pub clauses_end : length (scope_at book i).clauses ≤ n → (first : Findings) → twice ≡ first.shares → misfit ≡ first.mismatches
      → OfClauses book i from first (Some (record { shares = shares; mismatches = mismatches })) marks
  unfolding clause_dangles clause_namings clause_misfits
  clauses_end h first et em =
      record {
        dangling = ended _ _ _ g.names h;
        shared = λ f q. kept (λ (f : Findings). Marking (clause_namings book i) from first.shares f.shares marks) q (rw (← et) (passed_end _ _ _ g.marked h));
        mismatched = λ f q. kept (λ (f : Findings). f.mismatches ≡ (first.mismatches || clause_misfits book i)) q (rw (← em) (whole _ _ _ _ _ g.gathered h));
      }

-- A scope

module _ (book : List Scope) (i : ℕ) where
  dangling_parts : dangles_in book (scope_at book i) ≡ (sub_scope_dangles book i || (node_dangles book i || clause_dangles book i))
  unfolding dangles_in sub_scope_dangles node_dangles clause_dangles
  dangling_parts = refl

  mismatch_parts : (node_misfits book i || clause_misfits book i) ≡ mismatch_in book (scope_at book i)
  unfolding mismatch_in node_misfits clause_misfits misfit_node misfit_clause
  mismatch_parts = refl

module _ {book : List Scope} {i : ℕ} (subs : Bool) (es : subs ≡ sub_scope_dangles book i) where
  pub sub_scope_wrong : subs ≡ true → OfScope book i None
  sub_scope_wrong e =
      record {
        dangling = rw (dangling_parts book i, ← es, e);
        shared = λ f q. absurd (never q);
        mismatched = λ f q. absurd (never q);
      }

  module _ (sound : subs ≡ false) {answer : Option Findings} {from between types : List ℕ} (nodes : OfNodes book i from answer between types) where
    pub node_wrong : answer ≡ None → OfScope book i None
    node_wrong e =
        record {
          dangling = rw (dangling_parts book i, ← es, sound, ← nodes.dangling, e);
          shared = λ f q. absurd (never q);
          mismatched = λ f q. absurd (never q);
        }

    pub scope_passed : {first : Findings} → answer ≡ Some first → from ≡ replicate 256 0 → {r : Option Findings} {after : List ℕ}
        → OfClauses book i between first r after → OfScope book i r
    unfolding shares_in namings node_namings clause_namings
    scope_passed {first = first} e blank clauses =
        record {
          dangling = clauses.dangling ∙ rw (dangling_parts book i, ← es, sound, ← nodes.dangling, e);
          shared = λ f q. marked_repeats (rw blank at (marked_then (nodes.shared first e) (clauses.shared f q)));
          mismatched = λ f q. clauses.mismatched f q ∙ rw (nodes.mismatched first e) (mismatch_parts book i);
        }
