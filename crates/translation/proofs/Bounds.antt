-- The trees of a well-formed scope have few parts: each node stands in them once at most, since no node is named twice, and each clause too,
-- since each has one parent at most.
--     node_weight     a node's term has its own and what the terms of its operands have together
--     named_weight    the nodes that clauses name have together no more than all nodes of their own
--     clauses_all     the clauses that are selected, together: so much for each clause, and what the nodes that they name add
--     clause_parts    in parts: three for each clause
--     tree_parts      a tree has 637 parts at most
-- Assumes nothing.
use Prim.Native.Nat.{ℕ, zero, suc, ◌+◌, ◌*◌, ◌≤◌, ◌<◌}
use mathlib.Core.Path.{◌≡◌, refl, sym, ap, ◌∙◌}
use mathlib.Core.Bool.{Bool, true, false, cond, ◌||◌}
use mathlib.Core.List.{List, [], ◌∷◌}
use mathlib.Core.Logic.{⊎_elim}
use native.Mathlib.Omega.{arith}
use lib.ListN.{length, get_or}
use lib.Dec.{eqb}
use borrow.Author.Tests.{eqb-true}
use Rattle.calculus.specs.Terms.{Term, Terms, literal, default, none, also}
use Rattle.calculus.specs.declared.Value.TheVariants.{Truth}
use Rattle.laws.proofs.Booleans.{both, or_cases}
use Rattle.book.specs.Syntax.{Scope, no_node}
use Rattle.book.specs.References.{no_clause}
use Rattle.book.specs.Sharing.{unless255, operands, consequence_node, clause_nodes, gathered, namings}
use Rattle.book.specs.Scopes.{sum}
use Rattle.book.specs.Trees.{exception, node_term, term_below, term_of, condition_term, consequence_term, select, clause_terms, has_target, is_base, bases, has_rule, with_rules, without_rules, tree}
use Rattle.book.specs.declared.Node.{Node}
use Rattle.book.specs.declared.Node.TheVariants.{Constant, Number, Own, Called, Empty, Conflict, Unary, Binary, Choice, Default}
use Rattle.book.specs.declared.Consequence.{Consequence}
use Rattle.book.specs.declared.Consequence.TheVariants.{Of, Fixed}
use Rattle.book.specs.declared.Target.{Target}
use Rattle.book.specs.declared.Clause.{Clause}
use Rattle.book.proofs.Terms.{term_here}
use Rattle.book.proofs.Sums.{sum_same, range}
use Rattle.acceptance.specs.Accepted.{WithinLimits, WellFormed}
use Rattle.book.proofs.Namings.{operands_lower, clause_nodes_lem}
use Rattle.translation.proofs.Parts.{weigh, all_weigh, parts, all_parts, all_of, parts_all}
use Rattle.translation.proofs.Sums.{Below, append_below, gathered_below, sum_append, sum_below, range_gathered}

-- Nodes

module _ (w : Term → ℕ) (lower : ℕ → Term) where
  abbrev low : ℕ → ℕ
  low a = weigh w (lower a)

  -- exceptions, k after them
  exception_weight : (e : ℕ) (ts : Terms) (xs : List ℕ) (k : ℕ) → all_weigh w ts + k ≡ sum low xs
      → all_weigh w (exception lower e ts) + k ≡ sum low (unless255 e xs)
  unfolding weigh sum
  exception_weight e ts xs k h = go (eqb e 255)
    where
      go : (b : Bool) → all_weigh w (cond b ts (also (lower e) ts)) + k ≡ sum low (cond b xs (e ∷ xs))
      go true = h
      go false = omega arith

  made_weight : (x : Node) → weigh w (node_term lower x) ≡ w (node_term lower x) + sum low (operands x)
  unfolding weigh sum
  made_weight (Constant b) = omega arith
  made_weight (Number z) = omega arith
  made_weight (Own v) = omega arith
  made_weight (Called k v) = omega arith
  made_weight (Empty t) = omega arith
  made_weight (Conflict t) = omega arith
  made_weight (Unary op a) = omega arith
  made_weight (Binary op a b) = omega arith
  made_weight (Choice c a b) = omega arith
  made_weight (Default x y z j c) =
      let k = low j + low c in
      let zs = exception lower z none in
      let ys = exception lower y zs in
      let e =
      exception_weight x ys (unless255 y (unless255 z (j ∷ c ∷ []))) k
      (exception_weight y zs (unless255 z (j ∷ c ∷ [])) k
      (exception_weight z none (j ∷ c ∷ []) k (omega arith))) in
      omega (arith, e)

-- what a node's term has, and what it has of its own
abbrev pub weight_of : (Term → ℕ) → Scope → ℕ → ℕ
weight_of w s n = weigh w (term_of s n)

abbrev pub own_of : (Term → ℕ) → Scope → ℕ → ℕ
own_of w s n = w (term_of s n)

module _ (book : List Scope) (s : Scope) (formed : WellFormed book s) where
  operands_below : (n : ℕ) → n < length s.nodes → Below n (operands (get_or s.nodes n no_node))
  operands_below n l = operands_lower book s n (get_or s.nodes n no_node) (formed.nodes_named n l no_node)

  node_weight : (w : Term → ℕ) (n : ℕ) → n < length s.nodes → weight_of w s n ≡ own_of w s n + sum (weight_of w s) (operands (get_or s.nodes n no_node))
  unfolding term_of
  node_weight w n l =
      let nodes = s.nodes in
      let x = get_or nodes n no_node in
      let here = term_here nodes (length nodes) n l in
      let same : sum (λ a. weigh w (term_below nodes n a)) (operands x) ≡ sum (weight_of w s) (operands x) =
      sum_same (λ a. weigh w (term_below nodes n a)) (weight_of w s) (operands x)
      (λ a e.
      let below : a < n = operands_below n l a e in
      ap (weigh w) (term_here nodes n a below ∙ sym (term_here nodes (length nodes) a (omega arith)))) in
      ap (weigh w) here ∙ made_weight w (term_below nodes n) x ∙ ap (λ (k : ℕ). w (node_term (term_below nodes n) x) + k) same
      ∙ ap (λ (t : Term). w t + sum (weight_of w s) (operands x)) (sym here)

  named_below : Below (length s.nodes) (namings s)
  unfolding namings
  named_below =
      let l = length s.nodes in
      append_below l (gathered operands s.nodes) (gathered clause_nodes s.clauses)
      (gathered_below l operands s.nodes no_node (λ i h a e. let r = operands_below i h a e in omega arith))
      (gathered_below l clause_nodes s.clauses no_clause
      (λ i h. clause_nodes_lem book s i (get_or s.clauses i no_clause) (formed.clauses_named i h no_clause)))

  pub named_weight : (w : Term → ℕ) → sum (weight_of w s) (gathered clause_nodes s.clauses) ≤ range (own_of w s) 0 (length s.nodes)
  unfolding namings
  named_weight w =
      let all = range_gathered (weight_of w s) (own_of w s) operands s.nodes 0 no_node
      (λ i l. let z : 0 + i ≡ i = omega arith in rw z (node_weight w i l)) in
      let once = sum_below (length s.nodes) (namings s) formed.unshared named_below (weight_of w s) in
      omega (arith, all, once, sum_append (weight_of w s) (gathered operands s.nodes) (gathered clause_nodes s.clauses))

range_ones : (a m : ℕ) → range (λ n. 1) a m ≡ m
unfolding range
range_ones a zero = refl
range_ones a (suc m) = omega (arith, range_ones (suc a) m)

-- Clauses

-- what is selected, by a measure of terms
module _ (f : Term → ℕ) where
  -- the first clause's term apart
  first_all : (p : Clause → Bool) (c : Clause) (cs : List Clause) (t : Term) (ts : List Term)
      → all_of f (select p (c ∷ cs) (t ∷ ts)) ≤ f t + all_of f (select p cs ts)
  unfolding select all_of
  first_all p c cs t ts = go (p c)
    where
      go : (b : Bool) → all_of f (cond b (also t (select p cs ts)) (select p cs ts)) ≤ f t + all_of f (select p cs ts)
      go true = omega arith
      go false = omega arith

  -- two selections without a clause in common
  joint_all : (p q : Clause → Bool) → ((c : Clause) → p c ≡ true → q c ≡ true → ⊥) → (cs : List Clause) (ts : List Term)
      → all_of f (select p cs ts) + all_of f (select q cs ts) ≡ all_of f (select (λ c. p c || q c) cs ts)
  unfolding select all_of
  joint_all p q apart [] ts = omega arith
  joint_all p q apart (c ∷ cs) [] = omega arith
  joint_all p q apart (c ∷ cs) (t ∷ ts) =
      go (p c) (q c) (apart c) (select p cs ts) (select q cs ts) (select (λ c. p c || q c) cs ts) (joint_all p q apart cs ts)
    where
      go : (a b : Bool) → (a ≡ true → b ≡ true → ⊥) → (k l m : Terms) → all_of f k + all_of f l ≡ all_of f m
          → all_of f (cond a (also t k) k) + all_of f (cond b (also t l) l) ≡ all_of f (cond (a || b) (also t m) m)
      go true true h k l m e = absurd (h refl refl)
      go true false h k l m e = omega arith
      go false true h k l m e = omega arith
      go false false h k l m e = e

  -- each clause adds no more than a and what the nodes that it names add
  module _ (s : Scope) (g : ℕ → ℕ) (a : ℕ)
      (each : (es : Terms) (c : Clause) → f (default es (condition_term s c.condition) (consequence_term s c.consequence)) ≤ a + all_of f es + sum g (clause_nodes c))
      (most : ℕ → ℕ) (more : (n : ℕ) → a + most n ≤ most (suc n)) where
    -- of the clauses from number n on, those selected, none of which has one of them as parent
    pub clauses_all : (cs : List Clause) (n : ℕ) (p : Clause → Bool)
        → ((c : Clause) → p c ≡ true → n ≤ c.parent → n + length cs ≤ c.parent)
        → all_of f (select p cs (clause_terms s n cs)) ≤ most (length cs) + sum g (gathered clause_nodes cs)
    unfolding select clause_terms all_of sum gathered
    clauses_all [] n p outer = omega arith
    clauses_all (c ∷ cs) n p outer =
        let later = clause_terms s (suc n) cs in
        let q : Clause → Bool = λ d. eqb d.parent n in
        let es = select q cs later in
        let t = default es (condition_term s c.condition) (consequence_term s c.consequence) in
        let joint = joint_all p q (λ d u v. omega (arith, eqb-true d.parent n v, outer d u (omega (arith, eqb-true d.parent n v)))) cs later in
        let rest = clauses_all cs (suc n) (λ d. p d || q d)
        (λ d e l. ⊎_elim (λ u. omega (arith, outer d u (omega arith))) (λ v. omega (arith, eqb-true d.parent n v)) (or_cases (p d) (q d) e)) in
        omega (arith, first_all p c cs t later, each es c, joint, rest, more (length cs), sum_append g (clause_nodes c) (gathered clause_nodes cs))

-- condition and consequence, where yes and no have no more than y, and a node no more than that and what it adds
module _ (h : Term → ℕ) (s : Scope) (g : ℕ → ℕ) (y : ℕ) (fixed : (b : Bool) → h (literal (Truth b)) ≤ y) (named : (n : ℕ) → h (term_of s n) ≤ y + g n) where
  consequence_all : (c : Consequence) → h (consequence_term s c) ≤ y + sum g (consequence_node c)
  unfolding sum
  consequence_all (Of n) = omega (arith, named n)
  consequence_all (Fixed b) = omega (arith, fixed b)

  pub own_all : (c : Clause) → h (condition_term s c.condition) + h (consequence_term s c.consequence) ≤ y + y + sum g (clause_nodes c)
  unfolding sum
  own_all c = go (eqb c.condition 255) (consequence_node c.consequence) (consequence_all c.consequence)
    where
      go : (b : Bool) (xs : List ℕ) {k : ℕ} → k ≤ y + sum g xs
          → h (cond b (literal (Truth true)) (term_of s c.condition)) + k ≤ y + y + sum g (cond b xs (c.condition ∷ xs))
      go true xs e = omega (arith, fixed true)
      go false xs e = omega (arith, named c.condition)

abbrev parts_of : Scope → ℕ → ℕ
parts_of s n = parts (term_of s n)

module _ (s : Scope) where
  clause_parts : (cs : List Clause) (n : ℕ) (p : Clause → Bool)
      → ((c : Clause) → p c ≡ true → n ≤ c.parent → n + length cs ≤ c.parent)
      → all_parts (select p cs (clause_terms s n cs)) ≤ 3 * length cs + sum (parts_of s) (gathered clause_nodes cs)
  unfolding weigh
  clause_parts cs n p outer =
      let own = own_all parts s (parts_of s) 1 (λ b. omega arith) (λ m. omega arith) in
      let e = clauses_all parts s (parts_of s) 3 (λ es c. omega (arith, parts_all es, own c)) (λ m. 3 * m) (λ m. omega arith) cs n p outer in
      omega (arith, e, parts_all (select p cs (clause_terms s n cs)))

  bases_parts : length s.clauses ≤ 255 → (t : Target)
      → all_parts (bases s t) ≤ 3 * length s.clauses + sum (parts_of s) (gathered clause_nodes s.clauses)
  unfolding bases
  bases_parts few t =
      clause_parts s.clauses 0 (is_base t)
      (λ c e l. omega (arith, eqb-true c.parent 255 (both (has_target t c) (eqb c.parent 255) e).1))

  without_parts : (ts : Terms) → parts (without_rules ts) ≤ 3 + all_parts ts
  unfolding weigh
  without_parts none = omega arith
  without_parts (also t none) = omega arith
  without_parts (also t (also u us)) = omega arith

  around_bases : (t : Target) → parts (tree s t) ≤ 3 + all_parts (bases s t)
  unfolding tree weigh
  around_bases t = go (has_rule s t)
    where
      go : (b : Bool) → parts (cond b (with_rules (bases s t)) (without_rules (bases s t))) ≤ 3 + all_parts (bases s t)
      go true = omega arith
      go false = without_parts (bases s t)

pub tree_parts : (book : List Scope) (s : Scope) → WithinLimits s → WellFormed book s → (t : Target) → parts (tree s t) ≤ 637
tree_parts book s within formed t =
    omega (arith, around_bases s t, bases_parts s (omega (arith, within.clauses)) t, named_weight book s formed (λ u. 1), range_ones 0 (length s.nodes), within.nodes, within.clauses)
