-- The code of an accepted book is at most seven times as long as the book, and has 201,435 bytes at most.
--     steps_length, block_length, blocks_length    the length of code, as a sum
--     own_cost, called_cost    a target's tree costs no more than its clauses do
--     targets_cost             each clause has one target, so the targets cost no more than all clauses
--     block_most               a block has two bytes, nine for each variable, four for each sub-scope, 42 for each clause, and for each 14 bytes of
--                              its nodes 46
--     code_bound, code_max     at most seven times the book's length, and 201,435 bytes
-- Assumes nothing.
use Prim.Native.Nat.{ℕ, zero, suc, ◌+◌, ◌-◌, ◌*◌, ◌≤◌, ◌<◌}
use mathlib.Core.Path.{◌≡◌, refl, sym, ap, subst, ◌∙◌}
use mathlib.Core.Bool.{Bool, true, false, cond, ◌&&◌, ◌||◌, false≢true}
use mathlib.Core.List.{List, [], ◌∷◌}
use mathlib.Core.Logic.{⊎_elim}
use native.Mathlib.Omega.{arith}
use lib.ListN.{length, get_or}
use lib.Dec.{eqb, ltb}
use borrow.Author.Tests.{eqb-true, ne_eqb, lt-ltb, le-ltb}
use Rattle.std.specs.Prelude.{Ok}
use Rattle.laws.proofs.Booleans.{decide, neither}
use Rattle.order.specs.Order.{among}
use Rattle.order.proofs.Among.{among_place}
use Rattle.slices.specs.Bytes.{bytes_of}
use Rattle.calculus.specs.Terms.{Term, Terms, none, also}
use Rattle.book.specs.Lists.{any}
use Rattle.book.specs.Syntax.{Scope, empty_scope, no_node, is_rule}
use Rattle.book.specs.References.{scope_at}
use Rattle.book.specs.Decode.{scopes_of}
use Rattle.book.specs.Sharing.{clause_nodes, gathered, repeats}
use Rattle.book.specs.Records.{records}
use Rattle.book.specs.Scopes.{sum, calls, blocks}
use Rattle.book.specs.Steps.{depends_on, step_count, step_order}
use Rattle.book.specs.Trees.{term_below, term_of, select, clause_terms, has_target, has_clause, is_base, bases, has_rule, with_rules, without_rules, tree, own_target, called_target}
use Rattle.book.specs.Judge.{judge}
use Rattle.book.specs.declared.Target.{Target}
use Rattle.book.specs.declared.Clause.{Clause}
use Rattle.book.specs.declared.Variable.{Variable}
use Rattle.book.specs.declared.Node.{Node}
use Rattle.book.proofs.Sums.{range}
use Rattle.book.proofs.Terms.{term_here}
use Rattle.acceptance.specs.Accepted.{WithinLimits, WellFormed, CompleteOrder}
use Rattle.acceptance.proofs.Scanning.{scan_sound}
use Rattle.acceptance.proofs.Acceptance.{accepted_faultless}
use Rattle.acceptance.proofs.Orders.{accepted_book}
use Rattle.translation.specs.Code.{size, sizes}
use Rattle.translation.specs.Blocks.{variable_code, override_code, overrides_code, call_code, step_code, steps_code, variables_code, sub_scopes_code, block_code, blocks_code, code_of}
use Rattle.translation.proofs.Sizes.{code_length}
use Rattle.translation.proofs.Parts.{all_of}
use Rattle.translation.proofs.Sums.{sum_below}
use Rattle.translation.proofs.Bounds.{weight_of, own_of, named_weight}
use Rattle.translation.proofs.Hefts.{bytes, node_bytes, made_bytes, charge, named, clause_code}
use Rattle.translation.proofs.Bytes.{all_bytes, inner, together, scopes_bytes}

-- The length of code

variable_length : (s : Scope) (x : ℕ) (k : List ℕ) → length (variable_code s x k) ≡ size (tree s (own_target x)) + 6 + length k
unfolding variable_code bytes_of
variable_length s x k = omega (arith, code_length (tree s (own_target x)) (41 ∷ x ∷ k))

-- what an override adds
abbrev override_length : Scope → ℕ → ℕ → ℕ
override_length s c v = cond (has_clause s (called_target c v)) (size (tree s (called_target c v)) + 7) 0

overrides_length : (s : Scope) (c v : ℕ) (xs : List Variable) (k : List ℕ)
    → length (overrides_code s c v xs k) ≡ range (override_length s c) v (length xs) + length k
unfolding overrides_code range bytes_of
overrides_length s c v [] k = omega arith
overrides_length s c v (x ∷ xs) k = go (has_clause s (called_target c v)) (overrides_length s c (suc v) xs k)
  where
    t : Term
    t = tree s (called_target c v)

    go : (b : Bool) → length (overrides_code s c (suc v) xs k) ≡ range (override_length s c) (suc v) (length xs) + length k
        → length (cond b (override_code t c v (overrides_code s c (suc v) xs k)) (overrides_code s c (suc v) xs k))
        ≡ cond b (size t + 7) 0 + range (override_length s c) (suc v) (length xs) + length k
    go true e = omega (arith, code_length t (37 ∷ 42 ∷ c ∷ v ∷ overrides_code s c (suc v) xs k), e)
    go false e = omega (arith, e)

module _ (book : List Scope) (s : Scope) where
  -- the number of variables that sub-scope c has
  abbrev variables_of : ℕ → ℕ
  variables_of c = length (scope_at book (get_or s.sub_scopes c 0)).variables

  abbrev own_size : ℕ → ℕ
  own_size x = size (tree s (own_target x)) + 6

  abbrev call_size : ℕ → ℕ
  call_size c = range (override_length s c) 0 (variables_of c) + 2

  unfoldable step_size : ℕ → ℕ
  step_size x = cond (ltb x (length s.variables)) (own_size x) (call_size (x - length s.variables))

  step_length : (x : ℕ) (k : List ℕ) → length (step_code book s x k) ≡ step_size x + length k
  unfolding step_code step_size call_code
  step_length x k = go (ltb x (length s.variables))
    where
      c : ℕ
      c = x - length s.variables

      go : (b : Bool) → length (cond b (variable_code s x k) (overrides_code s c 0 (scope_at book (get_or s.sub_scopes c 0)).variables (43 ∷ c ∷ k)))
          ≡ cond b (own_size x) (call_size c) + length k
      go true = variable_length s x k
      go false = omega (arith, overrides_length s c 0 (scope_at book (get_or s.sub_scopes c 0)).variables (43 ∷ c ∷ k))

  steps_length : (xs k : List ℕ) → length (steps_code book s xs k) ≡ sum step_size xs + length k
  unfolding steps_code sum
  steps_length [] k = omega arith
  steps_length (x ∷ xs) k = omega (arith, step_length x (steps_code book s xs k), steps_length xs k)

variables_length : (xs : List Variable) (k : List ℕ) → length (variables_code xs k) ≡ 2 * length xs + length k
unfolding variables_code
variables_length [] k = omega arith
variables_length (x ∷ xs) k = omega (arith, variables_length xs k)

subs_length : (is k : List ℕ) → length (sub_scopes_code is k) ≡ 2 * length is + length k
unfolding sub_scopes_code
subs_length [] k = omega arith
subs_length (i ∷ is) k = omega (arith, subs_length is k)

module _ (book : List Scope) where
  abbrev block_size : ℕ → ℕ
  block_size i =
      let s = scope_at book i in
      2 + 2 * length s.variables + 2 * length s.sub_scopes + sum (step_size book s) (step_order s)

  block_length : (i : ℕ) (k : List ℕ) → length (block_code book i k) ≡ block_size i + length k
  unfolding block_code
  block_length i k =
      let s = scope_at book i in
      let steps = steps_code book s (step_order s) k in
      let subs = sub_scopes_code s.sub_scopes steps in
      omega (arith, variables_length s.variables subs, subs_length s.sub_scopes steps, steps_length book s (step_order s) k)

  blocks_length : (is : List ℕ) → length (blocks_code book is) ≡ sum block_size is
  unfolding blocks_code sum
  blocks_length [] = refl
  blocks_length (i ∷ is) = omega (arith, block_length i (blocks_code book is), blocks_length is)

-- What targets cost

-- 14 times the bytes of a clause: its code as a base, and what stands around the bases of one target, or for these where there are none
abbrev price : Clause → Term → ℕ
price c t = cond (eqb c.parent 255) (charge t) 0 + 252

-- the clauses that have p, with their terms
unfoldable cost : (Clause → Bool) → List Clause → List Term → ℕ
cost p [] ts = 0
cost p (c ∷ cs) [] = 0
cost p (c ∷ cs) (t ∷ ts) = cond (p c) (price c t) 0 + cost p cs ts

-- 14 times the bytes of bases, with what stands around them
abbrev worth : Terms → ℕ
worth none = 0
worth (also e es) = 14 * (sizes (also e es) + 22)

worth_sizes : (es : Terms) → 14 * sizes es ≤ worth es
unfolding size
worth_sizes none = omega arith
worth_sizes (also e es) = omega arith

module _ (t : Target) where
  bases_cost : (cs : List Clause) (ts : List Term) → worth (select (is_base t) cs ts) ≤ cost (has_target t) cs ts
  unfolding select size cost
  bases_cost [] ts = omega arith
  bases_cost (c ∷ cs) [] = omega arith
  bases_cost (c ∷ cs) (u ∷ ts) = go (has_target t c) (eqb c.parent 255) (select (is_base t) cs ts) (bases_cost cs ts)
    where
      go : (a b : Bool) (es : Terms) → worth es ≤ cost (has_target t) cs ts
          → worth (cond (a && b) (also u es) es) ≤ cond a (cond b (charge u) 0 + 252) 0 + cost (has_target t) cs ts
      go true true es h = omega (arith, worth_sizes es)
      go true false es h = omega arith
      go false b es h = omega arith

  -- one clause at least has the target
  some_cost : (cs : List Clause) (ts : List Term) → length ts ≡ length cs → any (has_target t) cs ≡ true → 252 ≤ cost (has_target t) cs ts
  unfolding cost any
  some_cost [] ts l e = absurd (false≢true e)
  some_cost (c ∷ cs) [] l e = absurd (omega arith)
  some_cost (c ∷ cs) (u ∷ ts) l e = go (has_target t c) e (some_cost cs ts (omega arith))
    where
      go : (a : Bool) → (a || any (has_target t) cs) ≡ true → (any (has_target t) cs ≡ true → 252 ≤ cost (has_target t) cs ts)
          → 252 ≤ cond a (price c u) 0 + cost (has_target t) cs ts
      go true e r = omega arith
      go false e r = omega (arith, r e)

  no_base : (cs : List Clause) (ts : List Term) → any (has_target t) cs ≡ false → select (is_base t) cs ts ≡ none
  unfolding select any
  no_base [] ts e = refl
  no_base (c ∷ cs) [] e = refl
  no_base (c ∷ cs) (u ∷ ts) e = let h = neither (has_target t c) (any (has_target t) cs) e in rw (h.0, no_base cs ts h.1)

  no_rule : (cs : List Clause) → any (has_target t) cs ≡ false → any (λ c. has_target t c && is_rule c.consequence) cs ≡ false
  unfolding any
  no_rule [] e = refl
  no_rule (c ∷ cs) e = let h = neither (has_target t c) (any (has_target t) cs) e in rw (h.0, no_rule cs h.1)

-- a tree, with an override's try and store
tree_size : (b : Bool) (ts : Terms) (k : ℕ) → worth ts ≤ k → 252 ≤ k → 14 * (size (cond b (with_rules ts) (without_rules ts)) + 7) ≤ k
unfolding size
tree_size true none k h l = omega arith
tree_size true (also u us) k h l = omega arith
tree_size false none k h l = omega arith
tree_size false (also u none) k h l = omega arith
tree_size false (also u (also w ws)) k h l = omega arith

module _ (s : Scope) where
  terms_length : (n : ℕ) (cs : List Clause) → length (clause_terms s n cs) ≡ length cs
  unfolding clause_terms
  terms_length n [] = refl
  terms_length n (c ∷ cs) = omega (arith, terms_length (suc n) cs)

  abbrev terms : List Term
  terms = clause_terms s 0 s.clauses

  -- what the clauses of a target cost
  abbrev cost_of : Target → ℕ
  cost_of t = cost (has_target t) s.clauses terms

  tree_cost : (t : Target) → has_clause s t ≡ true → 14 * (size (tree s t) + 7) ≤ cost_of t
  unfolding tree bases
  tree_cost t e =
      tree_size (has_rule s t) (select (is_base t) s.clauses terms) (cost_of t) (bases_cost t s.clauses terms)
      (some_cost t s.clauses terms (terms_length 0 s.clauses) e)

  empty_tree : (t : Target) → has_clause s t ≡ false → size (tree s t) ≡ 1
  unfolding tree bases has_rule size
  empty_tree t e = rw (no_rule t s.clauses e, no_base t s.clauses terms e)

  own_cost : (t : Target) → 14 * size (tree s t) ≤ 14 + cost_of t
  own_cost t =
      ⊎_elim
      (λ (q : has_clause s t ≡ true). omega (arith, tree_cost t q))
      (λ (q : has_clause s t ≡ false). omega (arith, empty_tree t q))
      (decide (has_clause s t))

  called_cost : (c v : ℕ) → 14 * override_length s c v ≤ cost_of (called_target c v)
  called_cost c v =
      ⊎_elim
      (λ (q : has_clause s (called_target c v) ≡ true). rw q (tree_cost (called_target c v) q))
      (λ (q : has_clause s (called_target c v) ≡ false). rw q (omega arith))
      (decide (has_clause s (called_target c v)))

-- Sums over ranges

range_none : (f : ℕ → ℕ) (a m : ℕ) → ((j : ℕ) → a ≤ j → j < a + m → f j ≡ 0) → range f a m ≡ 0
unfolding range
range_none f a zero h = refl
range_none f a (suc m) h = omega (arith, h a (omega arith) (omega arith), range_none f (suc a) m (λ j l r. h j (omega arith) (omega arith)))

range_add : (f g : ℕ → ℕ) (a m : ℕ) → range (λ x. f x + g x) a m ≡ range f a m + range g a m
unfolding range
range_add f g a zero = omega arith
range_add f g a (suc m) = omega (arith, range_add f g (suc a) m)

range_split : (f : ℕ → ℕ) (a p m : ℕ) → range f a (p + m) ≡ range f a p + range f (a + p) m
unfolding range
range_split f a zero m =
    let e : 0 + m ≡ m = omega arith in
    let d : a + 0 ≡ a = omega arith in
    rw (e, d) (omega arith)
range_split f a (suc p) m =
    let e : suc p + m ≡ suc (p + m) = omega arith in
    let d : a + suc p ≡ suc a + p = omega arith in
    let r = range_split f (suc a) p m in
    rw (e, d) (omega (arith, r))

-- 14 times a sum, term by term, n more each
range_most : (f g : ℕ → ℕ) (n : ℕ) (most : ℕ → ℕ) → ((m : ℕ) → n + most m ≤ most (suc m)) → (a b m : ℕ)
    → ((k : ℕ) → k < m → 14 * f (a + k) ≤ n + g (b + k)) → 14 * range f a m ≤ most m + range g b m
unfolding range
range_most f g n most more a b zero h = omega arith
range_most f g n most more a b (suc m) h =
    let za : a + 0 ≡ a = omega arith in
    let zb : b + 0 ≡ b = omega arith in
    let here : 14 * f a ≤ n + g b = rw (za, zb) at (h 0 (omega arith)) in
    let rest = range_most f g n most more (suc a) (suc b) m (λ k l.
    let ya : suc a + k ≡ a + suc k = omega arith in
    let yb : suc b + k ≡ b + suc k = omega arith in
    rw (ya, yb) (h (suc k) (omega arith))) in
    omega (arith, here, rest, more m)

range_least : (f g : ℕ → ℕ) (a m : ℕ) → ((j : ℕ) → f j ≤ g j) → range f a m ≤ range g a m
unfolding range
range_least f g a zero h = omega arith
range_least f g a (suc m) h = omega (arith, h a, range_least f g (suc a) m h)

-- w at y
abbrev at : ℕ → ℕ → ℕ → ℕ
at y w x = cond (eqb y x) w 0

at_other : (y w x : ℕ) → (y ≡ x → ⊥) → at y w x ≡ 0
at_other y w x h = rw (ne_eqb y x h)

at_once : (y w a m : ℕ) → range (at y w) a m ≤ w
unfolding range
at_once y w a zero = omega arith
at_once y w a (suc m) =
    ⊎_elim
    (λ (q : eqb y a ≡ true).
    let e = eqb-true y a q in
    let later = range_none (at y w) (suc a) m (λ j l r. at_other y w j (λ z. omega arith)) in
    rw q (omega (arith, later)))
    (λ (q : eqb y a ≡ false). rw q (omega (arith, at_once y w (suc a) m)))
    (decide (eqb y a))

both_once : (b : Bool) (y w a m : ℕ) → range (λ x. cond (b && eqb y x) w 0) a m ≤ cond b w 0
both_once true y w a m = at_once y w a m
both_once false y w a m = omega (arith, range_none (λ x. 0) a m (λ j l r. refl))

-- every target of a scope, with so many variables, sub-scopes and variables of each
module _ (own subs : ℕ) (theirs : ℕ → ℕ) (few : subs ≤ 255) where
  one_target : (c : Clause) (w : ℕ)
      → range (λ x. cond (has_target (own_target x) c) w 0) 0 own
      + range (λ k. range (λ v. cond (has_target (called_target k v) c) w 0) 0 (theirs k)) 0 subs ≤ w
  one_target c w =
      let i = c.target.sub in
      let mine = both_once (eqb i 255) c.target.variable w 0 own in
      let others = range_least (λ k. range (λ v. cond (has_target (called_target k v) c) w 0) 0 (theirs k)) (at i w) 0 subs
      (λ k. both_once (eqb i k) c.target.variable w 0 (theirs k)) in
      ⊎_elim
      (λ (q : eqb i 255 ≡ true).
      let e = eqb-true i 255 q in
      let past = range_none (at i w) 0 subs (λ j l r. at_other i w j (λ z. omega arith)) in
      let all : cond (eqb i 255) w 0 ≡ w = rw q in
      omega (arith, mine, all, others, past))
      (λ (q : eqb i 255 ≡ false).
      let nothing : cond (eqb i 255) w 0 ≡ 0 = rw q in
      omega (arith, mine, nothing, others, at_once i w 0 subs))
      (decide (eqb i 255))

  targets_cost : (cs : List Clause) (ts : List Term)
      → range (λ x. cost (has_target (own_target x)) cs ts) 0 own
      + range (λ k. range (λ v. cost (has_target (called_target k v)) cs ts) 0 (theirs k)) 0 subs ≤ cost (λ c. true) cs ts
  unfolding cost
  targets_cost [] ts =
      omega (
        arith,
        range_none (λ x. 0) 0 own (λ j l r. refl),
        range_none (λ k. range (λ v. 0) 0 (theirs k)) 0 subs (λ k l r. range_none (λ v. 0) 0 (theirs k) (λ j m n. refl)),
      )
  targets_cost (c ∷ cs) [] =
      omega (
        arith,
        range_none (λ x. 0) 0 own (λ j l r. refl),
        range_none (λ k. range (λ v. 0) 0 (theirs k)) 0 subs (λ k l r. range_none (λ v. 0) 0 (theirs k) (λ j m n. refl)),
      )
  targets_cost (c ∷ cs) (t ∷ ts) =
      let w = price c t in
      let mine = range_add (λ x. cond (has_target (own_target x) c) w 0) (λ x. cost (has_target (own_target x)) cs ts) 0 own in
      let f : ℕ → ℕ → ℕ = λ k v. cond (has_target (called_target k v) c) w 0 in
      let g : ℕ → ℕ → ℕ = λ k v. cost (has_target (called_target k v)) cs ts in
      let each = range_least (λ k. range (λ v. f k v + g k v) 0 (theirs k)) (λ k. range (f k) 0 (theirs k) + range (g k) 0 (theirs k)) 0 subs
      (λ k. omega (arith, range_add (f k) (g k) 0 (theirs k))) in
      let split = range_add (λ k. range (f k) 0 (theirs k)) (λ k. range (g k) 0 (theirs k)) 0 subs in
      omega (arith, mine, each, split, one_target c w, targets_cost cs ts)

-- The cost of all clauses

roots_cost : (cs : List Clause) (ts : List Term) → cost (λ c. true) cs ts ≤ 252 * length cs + all_of charge (select (λ c. eqb c.parent 255) cs ts)
unfolding cost select all_of
roots_cost [] ts = omega arith
roots_cost (c ∷ cs) [] = omega arith
roots_cost (c ∷ cs) (t ∷ ts) = go (eqb c.parent 255) (select (λ d. eqb d.parent 255) cs ts) (roots_cost cs ts)
  where
    go : (b : Bool) (es : Terms) → cost (λ d. true) cs ts ≤ 252 * length cs + all_of charge es
        → cond b (charge t) 0 + 252 + cost (λ d. true) cs ts ≤ 252 * suc (length cs) + all_of charge (cond b (also t es) es)
    go true es h = omega arith
    go false es h = omega arith

named_sum : (s : Scope) (xs : List ℕ) → sum (named s) xs ≡ 46 * sum (weight_of bytes s) xs
unfolding sum
named_sum s [] = omega arith
named_sum s (x ∷ xs) = omega (arith, named_sum s xs)

-- the nodes' own bytes
nodes_bytes : (f : ℕ → ℕ) (xs : List Node) (a : ℕ) → ((k : ℕ) → k < length xs → f (a + k) ≡ node_bytes (get_or xs k no_node)) → range f a (length xs) ≡ all_bytes xs
unfolding range all_bytes
nodes_bytes f [] a h = refl
nodes_bytes f (x ∷ xs) a h =
    let z : a + 0 ≡ a = omega arith in
    let here : f a ≡ node_bytes x = ap f (sym z) ∙ h 0 (omega arith) in
    let rest = nodes_bytes f xs (suc a) (λ k l. let y : suc a + k ≡ a + suc k = omega arith in ap f y ∙ h (suc k) (omega arith)) in
    omega (arith, here, rest)

all_nodes : (s : Scope) → range (own_of bytes s) 0 (length s.nodes) ≡ all_bytes s.nodes
unfolding term_of
all_nodes s =
    nodes_bytes (own_of bytes s) s.nodes 0
    (λ k l.
    let z : 0 + k ≡ k = omega arith in
    rw z (ap bytes (term_here s.nodes (length s.nodes) k l) ∙ made_bytes (term_below s.nodes k) (get_or s.nodes k no_node)))

-- Blocks

-- a list in which each number below n stands once at most
no_repeats : (ys : List ℕ) → ((i j : ℕ) → i < length ys → j < length ys → get_or ys i 0 ≡ get_or ys j 0 → i ≡ j) → repeats ys ≡ false
unfolding repeats
no_repeats [] h = refl
no_repeats (y ∷ ys) h =
    ⊎_elim
    (λ (q : among ys y ≡ true).
    let p = among_place ys y q in
    let z : ◌≡◌ {A = ℕ} 0 (suc p.0) = h 0 (suc p.0) (omega arith) (omega (arith, p.1)) (sym p.2) in
    absurd (omega arith))
    (λ (q : among ys y ≡ false).
    rw q (no_repeats ys (λ i j l r e. let z : suc i ≡ suc j = h (suc i) (suc j) (omega arith) (omega arith) e in omega arith)))
    (decide (among ys y))

once_sum : (f : ℕ → ℕ) (edge : ℕ → ℕ → Bool) (n : ℕ) (xs : List ℕ) → CompleteOrder edge n xs → sum f xs ≤ range f 0 n
once_sum f edge n xs c =
    sum_below n xs (no_repeats xs c.once) (λ x e. let p = among_place xs x e in let b = c.below p.0 p.1 in omega (arith, b, p.2)) f

-- code that is short beside the records of a scope
record Short (size : ℕ) (s : Scope) : Type 0 where
  seven : size ≤ 7 * (1 + inner s)
  tight : 14 * size ≤ 46 * (1 + inner s) + 41024

module _ (book : List Scope) (s : Scope) (within : WithinLimits s) (formed : WellFormed book s)
    (complete : CompleteOrder (depends_on s) (step_count s) (step_order s)) where
  abbrev v : ℕ
  v = length s.variables

  abbrev n : ℕ
  n = length s.sub_scopes

  all_cost : cost (λ c. true) s.clauses (terms s) ≤ 588 * length s.clauses + 46 * all_bytes s.nodes
  all_cost =
      let few = within.clauses in
      let nodes = gathered clause_nodes s.clauses in
      let sized = clause_code s s.clauses 0 (λ c. eqb c.parent 255) (λ c e l. omega (arith, eqb-true c.parent 255 e)) in
      omega (arith, roots_cost s.clauses (terms s), sized, named_sum s nodes, named_weight book s formed bytes, all_nodes s)

  own_step_lem : (k : ℕ) → k < v → 14 * step_size book s (0 + k) ≤ 98 + cost_of s (own_target (0 + k))
  unfolding step_size
  own_step_lem k l =
      let z : 0 + k ≡ k = omega arith in
      rw (z, lt-ltb k v l) (omega (arith, own_cost s (own_target k)))

  abbrev called : ℕ → ℕ
  called k = range (λ x. cost_of s (called_target k x)) 0 (variables_of book s k)

  call_step : (k : ℕ) → k < n → 14 * step_size book s (0 + v + k) ≤ 28 + called (0 + k)
  unfolding step_size
  call_step k l =
      let z : 0 + k ≡ k = omega arith in
      let y : 0 + v + k ≡ v + k = omega arith in
      let d : v + k - v ≡ k = omega arith in
      rw (z, y, le-ltb (v + k) v (omega arith), d)
      (omega (
        arith,
        range_most (override_length s k) (λ x. cost_of s (called_target k x)) 0 (λ m. 0) (λ m. omega arith) 0 0 (variables_of book s k)
            (λ x h. omega (arith, called_cost s k (0 + x))),
      ))

  block_most : 14 * (2 + 2 * length s.variables + 2 * length s.sub_scopes + sum (step_size book s) (step_order s))
      ≤ 28 + 126 * length s.variables + 56 * length s.sub_scopes + 588 * length s.clauses + 46 * all_bytes s.nodes
  unfolding step_count
  block_most =
      let few = within.sub_scopes in
      let steps = once_sum (step_size book s) (depends_on s) (v + n) (step_order s) complete in
      let split = range_split (step_size book s) 0 v n in
      let own = range_most (step_size book s) (λ x. cost_of s (own_target x)) 98 (λ m. 98 * m) (λ m. omega arith) 0 0 v own_step_lem in
      let calls = range_most (step_size book s) called 28 (λ m. 28 * m) (λ m. omega arith) (0 + v) 0 n call_step in
      omega (arith, steps, split, own, calls, targets_cost v n (variables_of book s) (omega arith) s.clauses (terms s), all_cost)

  -- by the book's bytes alone, and with the limits of variables and clauses
  block_bytes : Short (2 + 2 * length s.variables + 2 * length s.sub_scopes + sum (step_size book s) (step_order s)) s
  block_bytes =
      let few = within.variables in
      let less = within.clauses in
      record { seven = omega (arith, block_most); tight = omega (arith, block_most) }

-- Books

module _ (f : ℕ → ℕ) where
  range_scopes : (ss : List Scope) (a : ℕ) → ((k : ℕ) → k < length ss → Short (f (a + k)) (get_or ss k empty_scope))
      → (range f a (length ss) ≤ 7 * together ss) × (14 * range f a (length ss) ≤ 46 * together ss + 41024 * length ss)
  unfolding range together
  range_scopes [] a h = (omega arith, omega arith)
  range_scopes (s ∷ ss) a h =
      let z : a + 0 ≡ a = omega arith in
      let here : Short (f a) s = subst (λ (k : ℕ). Short (f k) s) z (h 0 (omega arith)) in
      let rest = range_scopes ss (suc a) (λ k l.
      let y : a + suc k ≡ suc a + k = omega arith in
      subst (λ (m : ℕ). Short (f m) (get_or ss k empty_scope)) y (h (suc k) (omega arith))) in
      (omega (arith, here.seven, rest.0), omega (arith, here.tight, rest.1))

module _ (bytes : List ℕ) (n : ℕ) (accepted : judge bytes ≡ Ok n) where
  both_bounds : (length (code_of (scopes_of bytes)) ≤ 7 * length bytes) × (14 * length (code_of (scopes_of bytes)) ≤ 46 * length bytes + 41024 * n)
  unfolding code_of
  both_bounds =
      let book = scopes_of bytes in
      let a = accepted_book bytes n accepted in
      let sound = (scan_sound (records bytes)).1 (accepted_faultless bytes n accepted).sound in
      let count = a.count in
      let most = range_scopes (block_size book) book 0 (λ k l.
      let z : k ≡ 0 + k = omega arith in
      subst (λ (i : ℕ). Short (block_size book i) (scope_at book k)) z
      (block_bytes book (scope_at book k) (a.within k) (a.formed k (omega arith)) (a.step_orders k (omega arith)))) in
      let once : sum (block_size book) (blocks book) ≤ range (block_size book) 0 n = once_sum (block_size book) (calls book) n (blocks book) a.block_order in
      let same : range (block_size book) 0 n ≡ range (block_size book) 0 (length book) = ap (range (block_size book) 0) count in
      let long = blocks_length book (blocks book) in
      let held = scopes_bytes bytes sound in
      (omega (arith, long, once, same, most.0, held), omega (arith, long, once, same, most.1, held))

  pub code_bound : length (code_of (scopes_of bytes)) ≤ 7 * length bytes
  code_bound = both_bounds.0

  pub code_max : length (code_of (scopes_of bytes)) ≤ 201435
  code_max =
      let a = accepted_book bytes n accepted in
      omega (arith, both_bounds.1, a.size, a.scopes)
