-- In an accepted book a step depends on steps of its scope only, and stands after all of them in the order.
--     term_below_lem       the term of a node reads steps of the scope only
--     depends_below    a step depends on steps of the scope only
--     steps_after      in a complete order of steps each stands after all that it depends on
-- Assumes nothing.
use Prim.Native.Nat.{ℕ, zero, suc, ◌<◌, ◌≤◌, ◌+◌}
use mathlib.Core.Path.{◌≡◌}
use mathlib.Core.Bool.{Bool, true, false, cond, ◌&&◌, ◌||◌, false≢true}
use mathlib.Core.List.{List}
use mathlib.Core.Logic.{◌⊎◌, inr, ⊎_elim}
use native.Mathlib.Omega.{arith}
use lib.ListN.{length, get_or, take}
use lib.Dec.{eqb, ltb}
use borrow.Author.Tests.{eqb-true, ltb-true}
use Rattle.calculus.specs.Terms.{Term, Terms, also, none}
use Rattle.order.specs.Order.{among}
use Rattle.laws.proofs.Booleans.{decide, both, or_cases}
use Rattle.book.specs.Syntax.{Scope, no_node}
use Rattle.book.specs.References.{no_clause, node_names, names_called}
use Rattle.book.specs.Trees.{exception, node_term, term_below, term_of, condition_term, consequence_term}
use Rattle.book.specs.Steps.{step_count, reads, reads_any, step_of, clause_reads, depends_on, step_order}
use Rattle.book.specs.declared.Node.{Node}
use Rattle.book.specs.declared.Node.TheVariants.{Constant, Number, Own, Called, Empty, Conflict, Unary, Binary, Choice, Default}
use Rattle.book.specs.declared.Consequence.{Consequence}
use Rattle.book.specs.declared.Consequence.TheVariants.{Of, Fixed}
use Rattle.acceptance.specs.Accepted.{WellFormed, CompleteOrder}
use Rattle.book.proofs.Searches.{any_true}

module _ (v w : ℕ) (lower : ℕ → Term) where
  exception_reads : (e : ℕ) (ts : Terms) → reads_any v w (exception lower e ts) ≡ true → (reads v w (lower e) ≡ true) ⊎ (reads_any v w ts ≡ true)
  unfolding reads
  exception_reads e ts = go (eqb e 255)
    where
      go : (b : Bool) → reads_any v w (cond b ts (also (lower e) ts)) ≡ true → (reads v w (lower e) ≡ true) ⊎ (reads_any v w ts ≡ true)
      go true h = inr h
      go false h = or_cases (reads v w (lower e)) (reads_any v w ts) h

module _ (book : List Scope) (s : Scope) (w : ℕ) where
  abbrev v : ℕ
  v = length s.variables

  -- a node that names what is there, over terms that read steps of the scope only, does too
  module _ (lower : ℕ → Term) (below : (i : ℕ) → reads v w (lower i) ≡ true → w < step_count s) (l : ℕ) where
    node_below_lem : (x : Node) → node_names book s l x ≡ true → reads v w (node_term lower x) ≡ true → w < step_count s
    unfolding node_names names_called reads step_count
    node_below_lem (Constant b) h e = absurd (false≢true e)
    node_below_lem (Number z) h e = absurd (false≢true e)
    node_below_lem (Own u) h e = omega (arith, ltb-true u v h, eqb-true u w e)
    node_below_lem (Called k u) h e =
        omega (arith, ltb-true k (length s.sub_scopes) (both (ltb k (length s.sub_scopes)) _ h).0, eqb-true (v + k) w e)
    node_below_lem (Empty t) h e = absurd (false≢true e)
    node_below_lem (Conflict t) h e = absurd (false≢true e)
    node_below_lem (Unary op a) h e = below a e
    node_below_lem (Binary op a b) h e = ⊎_elim (below a) (below b) (or_cases (reads v w (lower a)) (reads v w (lower b)) e)
    node_below_lem (Choice c a b) h e =
        ⊎_elim (below c) (λ q. ⊎_elim (below a) (below b) (or_cases (reads v w (lower a)) (reads v w (lower b)) q))
        (or_cases (reads v w (lower c)) (reads v w (lower a) || reads v w (lower b)) e)
    node_below_lem (Default x y z j c) h e =
        let zs = exception lower z none in
        let ys = exception lower y zs in
        let xs = exception lower x ys in
        ⊎_elim
        (λ q.
        ⊎_elim (below x) (λ q.
        ⊎_elim (below y) (λ q.
        ⊎_elim (below z) (λ q. absurd (false≢true q))
        (exception_reads v w lower z none q))
        (exception_reads v w lower y zs q))
        (exception_reads v w lower x ys q))
        (λ q. ⊎_elim (below j) (below c) (or_cases (reads v w (lower j)) (reads v w (lower c)) q))
        (or_cases (reads_any v w xs) (reads v w (lower j) || reads v w (lower c)) e)

  module _ (formed : WellFormed book s) where
    pub term_below_lem : (l n : ℕ) → l ≤ length s.nodes → reads v w (term_below s.nodes l n) ≡ true → w < step_count s
    unfolding term_below reads
    term_below_lem zero n h e = absurd (false≢true e)
    term_below_lem (suc l) n h e =
        let lower = term_below s.nodes l in
        let below : (i : ℕ) → reads v w (lower i) ≡ true → w < step_count s = λ i. term_below_lem l i (omega arith) in
        let x = get_or s.nodes l no_node in
        ⊎_elim
        (λ (q : eqb n l ≡ true).
        let e' : reads v w (node_term lower x) ≡ true = rw q at e in
        node_below_lem lower below l x (formed.nodes_named l (omega arith) no_node) e')
        (λ (q : eqb n l ≡ false).
        let e' : reads v w (lower n) ≡ true = rw q at e in
        below n e')
        (decide (eqb n l))

    whole_below : (n : ℕ) → reads v w (term_of s n) ≡ true → w < step_count s
    unfolding term_of
    whole_below n = term_below_lem (length s.nodes) n (omega arith)

    condition_below : (n : ℕ) → reads v w (condition_term s n) ≡ true → w < step_count s
    unfolding reads
    condition_below n e =
        ⊎_elim
        (λ (q : eqb n 255 ≡ true). absurd (false≢true (rw q at e)))
        (λ (q : eqb n 255 ≡ false). whole_below n (rw q at e))
        (decide (eqb n 255))

    consequence_below : (c : Consequence) → reads v w (consequence_term s c) ≡ true → w < step_count s
    unfolding reads
    consequence_below (Of n) e = whole_below n e
    consequence_below (Fixed b) e = absurd (false≢true e)

    pub depends_below : (x : ℕ) → depends_on s x w ≡ true → w < step_count s
    unfolding depends_on clause_reads
    depends_below x e =
        let r = any_true (λ c. eqb (step_of s c) x && clause_reads s w c) s.clauses e in
        let c = get_or s.clauses r.0 no_clause in
        let h = (both (eqb (step_of s c) x) (clause_reads s w c) (r.2 no_clause)).1 in
        ⊎_elim (condition_below c.condition) (consequence_below c.consequence)
        (or_cases (reads v w (condition_term s c.condition)) (reads v w (consequence_term s c.consequence)) h)

    pub steps_after : CompleteOrder (depends_on s) (step_count s) (step_order s) → (i : ℕ) → i < step_count s
        → depends_on s (get_or (step_order s) i 0) w ≡ true → among (take i (step_order s)) w ≡ true
    steps_after o i l e = o.after i (omega (arith, o.count)) w (depends_below (get_or (step_order s) i 0) e) e
