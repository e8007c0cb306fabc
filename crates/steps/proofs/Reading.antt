-- What nodes and clauses read, by the nodes that they name.
--     node_reads_lem      a node reads what it itself does and what its operands do
--     clause_reads_lem    a clause reads what the nodes that it names do
--     few_rows        a clause that names what is there belongs to one of 40 steps
-- Assumes nothing.
use Prim.Native.Nat.{ℕ, ◌<◌, ◌+◌}
use mathlib.Core.Path.{◌≡◌, refl, sym, ap, ◌∙◌}
use mathlib.Core.Bool.{Bool, true, false, ◌||◌, or-false, or_assoc}
use mathlib.Core.List.{List, [], ◌∷◌}
use mathlib.Core.Logic.{⊎_elim}
use native.Mathlib.Omega.{arith}
use lib.ListN.{length, get_or}
use lib.Dec.{eqb, ltb}
use borrow.Author.Tests.{ne_eqb, ltb-true}
use Rattle.order.specs.Order.{among}
use Rattle.laws.proofs.Booleans.{decide, both}
use Rattle.order.proofs.Among.{among_at}
use Rattle.calculus.specs.Terms.{Term, Terms, none}
use Rattle.book.specs.Lists.{any}
use Rattle.book.specs.Syntax.{Scope, no_node}
use Rattle.book.specs.References.{scope_at, no_clause, names_called, names_target, clause_names, dangles}
use Rattle.book.specs.Sharing.{unless255, operands, consequence_node, clause_nodes}
use Rattle.book.specs.Trees.{exception, node_term, term_below, term_of, consequence_term}
use Rattle.book.specs.Steps.{reads, reads_any, clause_reads}
use Rattle.book.specs.declared.Node.{Node}
use Rattle.book.specs.declared.Node.TheVariants as node
use Rattle.book.specs.declared.Consequence.{Consequence}
use Rattle.book.specs.declared.Consequence.TheVariants.{Of, Fixed}
use Rattle.book.specs.declared.Clause.{Clause}
use Rattle.book.specs.Limits.{Within}
use Rattle.book.specs.Positions.{clause_at}
use Rattle.book.proofs.Naming.{named_clauses, scope_sound}
use Rattle.book.proofs.Terms.{term_here}
use Rattle.book.proofs.Searches.{any_same}
use Rattle.steps.specs.Edges.{own_step, step_with}
use Rattle.steps.specs.Owners.{node_reads}

module _ (v w : ℕ) (lower : ℕ → Term) where
  of : ℕ → Bool
  of a = reads v w (lower a)

  in_exception : (e : ℕ) (ts : Terms) (xs : List ℕ) (b : Bool) → (reads_any v w ts || b) ≡ any of xs
      → (reads_any v w (exception lower e ts) || b) ≡ any of (unless255 e xs)
  unfolding of reads_any any
  in_exception e ts xs b h =
      ⊎_elim
      (λ (q : eqb e 255 ≡ true). rw q h)
      (λ (q : eqb e 255 ≡ false). rw q (or_assoc (of e) (reads_any v w ts) b ∙ ap (λ (t : Bool). of e || t) h))
      (decide (eqb e 255))

  reads_term : (nd : Node) → w < 40 → reads v w (node_term lower nd) ≡ (eqb (own_step v nd) w || any of (operands nd))
  unfolding reads reads_any any of
  reads_term (node.Constant b) l = rw (ne_eqb 40 w (omega arith))
  reads_term (node.Number z) l = rw (ne_eqb 40 w (omega arith))
  reads_term (node.Own x) l = sym (or-false (eqb x w))
  reads_term (node.Called k x) l = sym (or-false (eqb (v + k) w))
  reads_term (node.Empty t) l = rw (ne_eqb 40 w (omega arith))
  reads_term (node.Conflict t) l = rw (ne_eqb 40 w (omega arith))
  reads_term (node.Unary op a) l = rw (ne_eqb 40 w (omega arith)) (sym (or-false (of a)))
  reads_term (node.Binary op a b) l = rw (ne_eqb 40 w (omega arith)) (ap (λ (t : Bool). of a || t) (sym (or-false (of b))))
  reads_term (node.Choice c a b) l =
      rw (ne_eqb 40 w (omega arith)) (ap (λ (t : Bool). of c || (of a || t)) (sym (or-false (of b))))
  reads_term (node.Default x y z j c) l =
      let zs = exception lower z none in
      let ys = exception lower y zs in
      let b = of j || of c in
      rw (ne_eqb 40 w (omega arith))
      (in_exception x ys (unless255 y (unless255 z (j ∷ c ∷ []))) b
      (in_exception y zs (unless255 z (j ∷ c ∷ [])) b
      (in_exception z none (j ∷ c ∷ []) b (ap (λ (t : Bool). of j || t) (sym (or-false (of c)))))))

pub node_reads_lem : (s : Scope) (n y : ℕ) → n < length s.nodes → y < 40
    → ((a : ℕ) → among (operands (get_or s.nodes n no_node)) a ≡ true → a < n)
    → node_reads s y n
    ≡ (eqb (own_step (length s.variables) (get_or s.nodes n no_node)) y || any (node_reads s y) (operands (get_or s.nodes n no_node)))
unfolding node_reads term_of of
node_reads_lem s n y l few lower =
    let v = length s.variables in
    let all = length s.nodes in
    let nd = get_or s.nodes n no_node in
    ap (reads v y) (term_here s.nodes all n l)
    ∙ reads_term v y (term_below s.nodes n) nd few
    ∙ ap (λ (t : Bool). eqb (own_step v nd) y || t)
    (any_same (λ a. reads v y (term_below s.nodes n a)) (node_reads s y) (operands nd) 0
    (λ j h.
    let below : get_or (operands nd) j 0 < n = lower (get_or (operands nd) j 0) (among_at (operands nd) j h) in
    ap (reads v y) (term_here s.nodes n (get_or (operands nd) j 0) below ∙ sym (term_here s.nodes all (get_or (operands nd) j 0) (omega arith)))))

pub clause_reads_lem : (s : Scope) (y : ℕ) (c : Clause) → clause_reads s y c ≡ any (node_reads s y) (clause_nodes c)
unfolding clause_reads node_reads any reads
clause_reads_lem s y c =
    ⊎_elim
    (λ (q : eqb c.condition 255 ≡ true). rw q (last c.consequence))
    (λ (q : eqb c.condition 255 ≡ false). rw q (ap (λ (t : Bool). node_reads s y c.condition || t) (last c.consequence)))
    (decide (eqb c.condition 255))
  where
    last : (q : Consequence) → reads (length s.variables) y (consequence_term s q) ≡ any (node_reads s y) (consequence_node q)
    last (Of n) = sym (or-false (node_reads s y n))
    last (Fixed b) = refl

pub few_rows : (book : List Scope) (i n : ℕ) → dangles book ≡ false → Within book → n < length (scope_at book i).clauses
    → (c : Clause) → c ≡ clause_at book i n → (v : ℕ) → v ≡ length (scope_at book i).variables → step_with v c < 40
unfolding clause_names step_with names_called clause_at
few_rows book i n sound within l c is v ev =
    let s = scope_at book i in
    let named : clause_names book s n c ≡ true = rw is (named_clauses book s (scope_sound book sound i) n l no_clause) in
    let h = (both (names_target book s c.target) _ named).0 in
    let few = within.variables i in
    let called = within.sub_scopes i in
    ⊎_elim
    (λ (q : eqb c.target.sub 255 ≡ true).
    let z : ltb c.target.variable (length s.variables) ≡ true = rw q at h in
    rw q (omega (arith, ltb-true c.target.variable (length s.variables) z)))
    (λ (q : eqb c.target.sub 255 ≡ false).
    let z : names_called book s c.target.sub c.target.variable ≡ true = rw q at h in
    let y = (both (ltb c.target.sub (length s.sub_scopes)) _ z).0 in
    rw q (omega (arith, ltb-true c.target.sub (length s.sub_scopes) y)))
    (decide (eqb c.target.sub 255))
