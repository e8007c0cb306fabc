-- The reads of a scope's default trees are those of its nodes.
--     tree_read      what is so of every variable that a node reads is so of every read in a tree
--     node_named     a node that names what is there reads variables that are there
--     tree_named     where every node does, so does every tree
--     named_agrees   environments that agree on the variables there are, in the steps that a term reads, give the same outcome
-- Assumes nothing.
use Prim.Native.Nat.{ℕ, zero, suc, ◌+◌, ◌<◌, ◌≤◌}
use mathlib.Core.Path.{◌≡◌}
use mathlib.Core.Bool.{Bool, true, false, cond}
use mathlib.Core.List.{List, [], ◌∷◌}
use native.Mathlib.Omega.{arith}
use lib.ListN.{length, get_or}
use lib.Dec.{eqb, ltb}
use borrow.Author.Tests.{ltb-true}
use Rattle.laws.proofs.Booleans.{both}
use Rattle.calculus.specs.Terms.{Term, Terms, literal, none, also}
use Rattle.calculus.specs.Evaluation.{Env, eval}
use Rattle.calculus.specs.declared.Value.TheVariants.{Truth}
use Rattle.book.specs.Syntax.{Scope}
use Rattle.book.specs.References.{scope_at, names_called, node_names}
use Rattle.book.specs.Trees.{exception, node_term, term_below, term_of, condition_term, consequence_term, select}
use Rattle.book.specs.Trees.{clause_terms, is_base, bases, has_rule, without_rules, with_rules, tree}
use Rattle.book.specs.Steps.{reads}
use Rattle.book.specs.declared.Node.{Node}
use Rattle.book.specs.declared.Node.TheVariants.{Constant, Number, Own, Called, Empty, Conflict, Unary, Binary, Choice, Default}
use Rattle.book.specs.declared.Consequence.{Consequence}
use Rattle.book.specs.declared.Consequence.TheVariants.{Of, Fixed}
use Rattle.book.specs.declared.Target.{Target}
use Rattle.book.specs.declared.Clause.{Clause}
use Rattle.terms.specs.Agreement.{EachRead, EachReadIn, ReadHere}
use Rattle.terms.proofs.Agreement.{eval_agrees, each_read, read_both}

-- of either of two
of_either : {A : Type 0} (F : A → Type 0) (b : Bool) (x y : A) → F x → F y → F (cond b x y)
of_either F true x y h k = h
of_either F false x y h k = k

module _ (P : ℕ → Type 0) (Q : ℕ → ℕ → Type 0) where
  exception_read : (lower : ℕ → Term) → ((m : ℕ) → EachRead P Q (lower m)) → (x : ℕ) (ts : Terms)
      → EachReadIn P Q ts → EachReadIn P Q (exception lower x ts)
  unfolding EachReadIn
  exception_read lower low x ts h = of_either (EachReadIn P Q) (eqb x 255) ts _ h (low x, h)

  node_read : (lower : ℕ → Term) → ((m : ℕ) → EachRead P Q (lower m)) → (n : Node) → ReadHere P Q n → EachRead P Q (node_term lower n)
  unfolding EachRead EachReadIn
  node_read lower low (Constant b) h = tt
  node_read lower low (Number z) h = tt
  node_read lower low (Own x) h = h
  node_read lower low (Called k x) h = h
  node_read lower low (Empty t) h = tt
  node_read lower low (Conflict t) h = tt
  node_read lower low (Unary op a) h = low a
  node_read lower low (Binary op a b) h = (low a, low b)
  node_read lower low (Choice c a b) h = (low c, low a, low b)
  node_read lower low (Default x y z j c) h = (
    exception_read lower low x _ (exception_read lower low y _ (exception_read lower low z none tt)),
    low j,
    low c,
  )

  -- every term of a list
  abbrev AllRead : List Term → Type 0
  AllRead [] = Unit {0}
  AllRead (t ∷ ts) = EachRead P Q t × AllRead ts

  select_read : (p : Clause → Bool) (cs : List Clause) (ts : List Term) → AllRead ts → EachReadIn P Q (select p cs ts)
  unfolding select EachReadIn
  select_read p [] ts h = tt
  select_read p (c ∷ cs) [] h = tt
  select_read p (c ∷ cs) (t ∷ ts) h =
      let more = select_read p cs ts h.1 in
      of_either (EachReadIn P Q) (p c) (also t (select p cs ts)) _ (h.0, more) more

  without_rules_read : (ts : Terms) → EachReadIn P Q ts → EachRead P Q (without_rules ts)
  unfolding EachRead EachReadIn
  without_rules_read none h = tt
  without_rules_read (also t none) h = h.0
  without_rules_read (also t (also u us)) h = (h, tt, tt)

  module _ (s : Scope) (here : (n : ℕ) → n < length s.nodes → (d : Node) → ReadHere P Q (get_or s.nodes n d)) where
    below_read : (l n : ℕ) → l ≤ length s.nodes → EachRead P Q (term_below s.nodes l n)
    unfolding term_below EachRead
    below_read zero n h = tt
    below_read (suc l) n h =
        let low : (m : ℕ) → EachRead P Q (term_below s.nodes l m) = λ m. below_read l m (omega arith) in
        let node = get_or s.nodes l (Constant false) in
        of_either (EachRead P Q) (eqb n l) _ _ (node_read (term_below s.nodes l) low node (here l (omega arith) (Constant false))) (low n)

    pub term_read : (n : ℕ) → EachRead P Q (term_of s n)
    unfolding term_of
    term_read n = below_read (length s.nodes) n (omega arith)

    pub condition_read : (n : ℕ) → EachRead P Q (condition_term s n)
    unfolding EachRead
    condition_read n = of_either (EachRead P Q) (eqb n 255) (literal (Truth true)) _ tt (term_read n)

    pub consequence_read : (c : Consequence) → EachRead P Q (consequence_term s c)
    unfolding EachRead
    consequence_read (Of n) = term_read n
    consequence_read (Fixed b) = tt

    clauses_read : (n : ℕ) (cs : List Clause) → AllRead (clause_terms s n cs)
    unfolding clause_terms EachRead
    clauses_read n [] = tt
    clauses_read n (c ∷ cs) =
        let later = clauses_read (suc n) cs in
        ((select_read _ cs _ later, condition_read c.condition, consequence_read c.consequence), later)

    pub tree_read : (t : Target) → EachRead P Q (tree s t)
    unfolding tree bases EachRead
    tree_read t =
        let found = select_read (is_base t) s.clauses _ (clauses_read 0 s.clauses) in
        of_either (EachRead P Q) (has_rule s t) (with_rules (bases s t)) _ (found, tt, tt) (without_rules_read (bases s t) found)

-- the variables that are there: own ones, and those of the scope that a sub-scope names
module _ (book : List Scope) (s : Scope) where
  abbrev pub OwnThere : ℕ → Type 0
  OwnThere x = x < length s.variables

  abbrev pub CalledThere : ℕ → ℕ → Type 0
  CalledThere k x = (k < length s.sub_scopes) × (x < length (scope_at book (get_or s.sub_scopes k 0)).variables)

  pub node_named : (n : ℕ) (x : Node) → node_names book s n x ≡ true → ReadHere OwnThere CalledThere x
  unfolding node_names names_called
  node_named n (Constant b) h = tt
  node_named n (Number z) h = tt
  node_named n (Own x) h = ltb-true _ _ h
  node_named n (Called k x) h =
      let p = both (ltb k (length s.sub_scopes)) _ h in
      (ltb-true _ _ p.0, ltb-true _ _ p.1)
  node_named n (Empty t) h = tt
  node_named n (Conflict t) h = tt
  node_named n (Unary op a) h = tt
  node_named n (Binary op a b) h = tt
  node_named n (Choice c a b) h = tt
  node_named n (Default x y z j c) h = tt

  pub tree_named : ((n : ℕ) → n < length s.nodes → (d : Node) → node_names book s n (get_or s.nodes n d) ≡ true)
      → (t : Target) → EachRead OwnThere CalledThere (tree s t)
  tree_named h t = tree_read OwnThere CalledThere s (λ n l d. node_named n _ (h n l d)) t

  -- D holds of the steps that the term reads, as "done" does
  pub named_agrees : (e f : Env) (D : ℕ → Type 0)
      → ((x : ℕ) → D x → OwnThere x → e.own x ≡ f.own x)
      → ((k x : ℕ) → D (length s.variables + k) → CalledThere k x → e.called k x ≡ f.called k x)
      → (t : Term) → EachRead OwnThere CalledThere t → ((w : ℕ) → reads (length s.variables) w t ≡ true → D w)
      → eval e t ≡ eval f t
  named_agrees e f D p q t named d =
      let v = length s.variables in
      let done = each_read v D D (λ k x. D (v + k)) (λ x h. h) (λ k x h. h) t d in
      eval_agrees e f t (read_both D OwnThere (λ x. e.own x ≡ f.own x) (λ k x. D (v + k)) CalledThere (λ k x. e.called k x ≡ f.called k x) p q t done named)
