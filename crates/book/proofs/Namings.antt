-- What nodes and clauses name.
--     operands_lower    a node that names what is there names nodes of lower number only
--     clause_nodes_lem      a clause that names what is there names nodes of its scope only
--     nodes_apart, clauses-apart, node-clause-apart    where no number is named twice in a scope, two of its nodes and clauses name none in common
--     scope_once        where no node of a book is named twice, none is in the scope of any number
-- Assumes nothing.
use Prim.Native.Nat.{ℕ, zero, suc, ◌<◌}
use mathlib.Core.Path.{◌≡◌, refl, sym, ap, ◌∙◌}
use mathlib.Core.Bool.{Bool, true, false, cond, ◌||◌, false≢true, or-true}
use mathlib.Core.List.{List, [], ◌∷◌, ◌++◌}
use mathlib.Core.Logic.{⊎_elim}
use native.Mathlib.Omega.{arith}
use lib.ListN.{length, get_or}
use lib.Dec.{eqb, ltb}
use borrow.Author.Tests.{ltb-true}
use Rattle.order.specs.Order.{among}
use Rattle.laws.proofs.Booleans.{both, neither}
use Rattle.book.specs.Syntax.{Scope, empty_scope}
use Rattle.book.specs.References.{scope_at, names_exception, node_names, names_target, names_parent, names_condition, names_consequence, clause_names}
use Rattle.book.specs.Sharing.{unless255, operands, consequence_node, clause_nodes, gathered, namings, repeats, shares}
use Rattle.book.specs.declared.Node.{Node}
use Rattle.book.specs.declared.Node.TheVariants.{Constant, Number, Own, Called, Empty, Conflict, Unary, Binary, Choice, Default}
use Rattle.book.specs.declared.Consequence.{Consequence}
use Rattle.book.specs.declared.Consequence.TheVariants.{Of, Fixed}
use Rattle.book.specs.declared.Clause.{Clause}
use Rattle.order.proofs.Among.{among_append, among_first, among_none}
use Rattle.book.proofs.Searches.{any_default}

-- a number that is in a list below n, or in the rest
below_first : (n x a : ℕ) (xs : List ℕ) → ltb x n ≡ true → (among xs a ≡ true → a < n) → among (x ∷ xs) a ≡ true → a < n
below_first n x a xs h rest e = ⊎_elim (λ q. omega (arith, ltb-true x n h)) rest (among_first x xs a e)

below_unless : (n x a : ℕ) (xs : List ℕ) → names_exception n x ≡ true → (among xs a ≡ true → a < n) → among (unless255 x xs) a ≡ true → a < n
below_unless n x a xs h rest = go (eqb x 255) h
  where
    go : (b : Bool) → (b || ltb x n) ≡ true → among (cond b xs (x ∷ xs)) a ≡ true → a < n
    go true h e = rest e
    go false h e = below_first n x a xs h rest e

pub operands_lower : (book : List Scope) (s : Scope) (n : ℕ) (x : Node) → node_names book s n x ≡ true
    → (a : ℕ) → among (operands x) a ≡ true → a < n
unfolding node_names
operands_lower book s n (Constant b) h a e = among_none a e
operands_lower book s n (Number z) h a e = among_none a e
operands_lower book s n (Own v) h a e = among_none a e
operands_lower book s n (Called k v) h a e = among_none a e
operands_lower book s n (Empty t) h a e = among_none a e
operands_lower book s n (Conflict t) h a e = among_none a e
operands_lower book s n (Unary op x) h a e = below_first n x a [] h (among_none a) e
operands_lower book s n (Binary op x y) h a e =
    let p = both (ltb x n) (ltb y n) h in
    below_first n x a (y ∷ []) p.0 (below_first n y a [] p.1 (among_none a)) e
operands_lower book s n (Choice c x y) h a e =
    let p = both (ltb c n) _ h in
    let q = both (ltb x n) (ltb y n) p.1 in
    below_first n c a (x ∷ y ∷ []) p.0 (below_first n x a (y ∷ []) q.0 (below_first n y a [] q.1 (among_none a))) e
operands_lower book s n (Default x y z j c) h a e =
    let p = both (names_exception n x) _ h in
    let q = both (names_exception n y) _ p.1 in
    let r = both (names_exception n z) _ q.1 in
    let t = both (ltb j n) (ltb c n) r.1 in
    below_unless n x a _ p.0
    (below_unless n y a _ q.0
    (below_unless n z a (j ∷ c ∷ []) r.0 (below_first n j a (c ∷ []) t.0 (below_first n c a [] t.1 (among_none a)))))
    e

pub clause_nodes_lem : (book : List Scope) (s : Scope) (n : ℕ) (c : Clause) → clause_names book s n c ≡ true
    → (a : ℕ) → among (clause_nodes c) a ≡ true → a < length s.nodes
unfolding clause_names
clause_nodes_lem book s n c h a e =
    let p = both (names_target book s c.target) _ h in
    let q = both (names_parent s n c) _ p.1 in
    let r = both (names_condition s c.condition) _ q.1 in
    below_unless (length s.nodes) c.condition a (consequence_node c.consequence) r.0 (last c.consequence r.1) e
  where
    last : (q : Consequence) → names_consequence s q ≡ true → among (consequence_node q) a ≡ true → a < length s.nodes
    last (Of m) g e = below_first (length s.nodes) m a [] g (among_none a) e
    last (Fixed b) g e = among_none a e

-- Where no number stands twice

module _ (xs ys : List ℕ) where
  first_lone : (x : ℕ) → repeats (x ∷ xs ++ ys) ≡ false → (among xs x ≡ false) × (among ys x ≡ false)
  unfolding repeats
  first_lone x e =
      neither (among xs x) (among ys x) (sym (among_append xs ys x) ∙ (neither (among (xs ++ ys) x) (repeats (xs ++ ys)) e).0)

  rest_once : (x : ℕ) → repeats (x ∷ xs ++ ys) ≡ false → repeats (xs ++ ys) ≡ false
  unfolding repeats
  rest_once x e = (neither (among (xs ++ ys) x) (repeats (xs ++ ys)) e).1

parts_once : (xs ys : List ℕ) → repeats (xs ++ ys) ≡ false → (repeats xs ≡ false) × (repeats ys ≡ false)
unfolding repeats
parts_once [] ys e = (refl, e)
parts_once (x ∷ xs) ys e =
    let r = parts_once xs ys (rest_once xs ys x e) in
    (rw (first_lone xs ys x e).0 r.0, r.1)

parts_apart : (xs ys : List ℕ) → repeats (xs ++ ys) ≡ false → (m : ℕ) → among xs m ≡ true → among ys m ≡ true → ⊥
parts_apart [] ys e m p q = among_none m p
parts_apart (x ∷ xs) ys e m p q =
    ⊎_elim
    (λ (z : m ≡ x). false≢true (sym (first_lone xs ys x e).1 ∙ ap (among ys) (sym z) ∙ q))
    (λ z. parts_apart xs ys (rest_once xs ys x e) m z q)
    (among_first x xs m p)

module _ {A : Type 0} (names : A → List ℕ) (d : A) where
  among_gathered : (xs : List A) (k m : ℕ) → k < length xs → among (names (get_or xs k d)) m ≡ true → among (gathered names xs) m ≡ true
  unfolding gathered
  among_gathered [] k m l p = absurd (omega arith)
  among_gathered (x ∷ xs) zero m l p = among_append (names x) (gathered names xs) m ∙ rw p
  among_gathered (x ∷ xs) (suc k) m l p =
      among_append (names x) (gathered names xs) m ∙ rw (among_gathered xs k m (omega arith) p) (or-true (among (names x) m))

  gathered_apart : (xs : List A) → repeats (gathered names xs) ≡ false → (j k m : ℕ) → j < k → k < length xs
      → among (names (get_or xs j d)) m ≡ true → among (names (get_or xs k d)) m ≡ true → ⊥
  unfolding gathered
  gathered_apart [] e j k m l h p q = absurd (omega arith)
  gathered_apart (x ∷ xs) e j zero m l h p q = absurd (omega arith)
  gathered_apart (x ∷ xs) e zero (suc k) m l h p q =
      parts_apart (names x) (gathered names xs) e m p (among_gathered xs k m (omega arith) q)
  gathered_apart (x ∷ xs) e (suc j) (suc k) m l h p q =
      gathered_apart xs (parts_once (names x) (gathered names xs) e).1 j k m (omega arith) (omega arith) p q

module _ (s : Scope) (once : repeats (namings s) ≡ false) (m : ℕ) where
  pub nodes_apart : (j k : ℕ) (d : Node) → j < k → k < length s.nodes
      → among (operands (get_or s.nodes j d)) m ≡ true → among (operands (get_or s.nodes k d)) m ≡ true → ⊥
  unfolding namings
  nodes_apart j k d =
      gathered_apart operands d s.nodes (parts_once (gathered operands s.nodes) (gathered clause_nodes s.clauses) once).0 j k m

  pub clauses_apart : (j k : ℕ) (d : Clause) → j < k → k < length s.clauses
      → among (clause_nodes (get_or s.clauses j d)) m ≡ true → among (clause_nodes (get_or s.clauses k d)) m ≡ true → ⊥
  unfolding namings
  clauses_apart j k d =
      gathered_apart clause_nodes d s.clauses (parts_once (gathered operands s.nodes) (gathered clause_nodes s.clauses) once).1 j k m

  pub node_clause_apart : (j k : ℕ) (d : Node) (d' : Clause) → j < length s.nodes → k < length s.clauses
      → among (operands (get_or s.nodes j d)) m ≡ true → among (clause_nodes (get_or s.clauses k d')) m ≡ true → ⊥
  unfolding namings
  node_clause_apart j k d d' l h p q =
      parts_apart (gathered operands s.nodes) (gathered clause_nodes s.clauses) once m
      (among_gathered operands d s.nodes j m l p) (among_gathered clause_nodes d' s.clauses k m h q)

empty_once : repeats (namings empty_scope) ≡ false
unfolding namings gathered repeats
empty_once = refl

pub scope_once : (book : List Scope) → shares book ≡ false → (i : ℕ) → repeats (namings (scope_at book i)) ≡ false
unfolding shares
scope_once book e = any_default (λ s. repeats (namings s)) book empty_scope e empty_once
