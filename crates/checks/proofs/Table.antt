-- The table of types of a scope's nodes: it is filled in number order, and gives each node's type.
--     Table           the types of the nodes below n stand in the table; start, turn and filled
--     told            a node fits by the table so far where it fits by the types of all nodes
--     told_clause     a clause, by the whole table
-- Assumes nothing.
use Prim.Native.Nat.{ℕ, zero, suc, ◌+◌, ◌≤◌, ◌<◌}
use mathlib.Core.Path.{◌≡◌, refl, ap, ◌∙◌, fun_ext}
use mathlib.Core.Bool.{Bool, true, false, not, cond, ◌&&◌}
use mathlib.Core.Logic.{⊎_elim}
use mathlib.Core.List.{List}
use native.Mathlib.Omega.{arith}
use native.Mathlib.Numerals.{add-one}
use lib.ListN.{length, get_or, set, replicate, length-set, length-replicate}
use lib.Seq.{get_or-set_same, get_or-set_other}
use lib.Dec.{eqb, ltb}
use borrow.Author.Tests.{eqb-true, eqb-false, ne_eqb, ltb-true}
use Rattle.book.specs.Syntax.{Scope, no_node}
use Rattle.book.specs.References.{scope_at, no_clause, names_exception, node_names}
use Rattle.book.specs.Typing.{node_type, type_below, type_of_node, exception_fits, node_fits}
use Rattle.book.specs.Positions.{node_at, clause_at}
use Rattle.book.specs.declared.ValueType.{ValueType}
use Rattle.book.specs.declared.ValueType.TheVariants.{YesNo, Numeric}
use Rattle.book.specs.declared.Node.{Node}
use Rattle.book.specs.declared.Node.TheVariants as node
use Rattle.book.specs.declared.Clause.{Clause}
use Rattle.laws.proofs.Booleans.{decide, both, or_cases}
use Rattle.laws.proofs.Zeros.{zeros}
use Rattle.typing.specs.Types.{type_in, clause_suits}
use Rattle.checks.specs.Findings.{byte_of, type_byte, node_suits, Typed, misfit_node, misfit_clause}

blank : (m k : ℕ) → type_in (replicate m 0) k ≡ YesNo
unfolding type_in
blank m k = rw (zeros m k)

stored : (types : List ℕ) (n : ℕ) (t : ValueType) → n < length types → type_in (set types n (byte_of t)) n ≡ t
unfolding type_in
stored types n YesNo h = rw (get_or-set_same types n 0 0 h)
stored types n Numeric h = rw (get_or-set_same types n 1 0 h)

kept : (types : List ℕ) (n k b : ℕ) → (k ≡ n → ⊥) → type_in (set types n b) k ≡ type_in types k
unfolding type_in
kept types n k b h = rw (get_or-set_other types n k b 0 h)

next : (book : List Scope) (s : Scope) (n k : ℕ)
    → type_below book s (suc n) k
    ≡ cond (eqb k n) (node_type book s (type_below book s n) (get_or s.nodes n no_node)) (type_below book s n k)
unfolding type_below
next book s n k = refl

not_last : (n m : ℕ) → n ≤ suc m → (n ≡ suc m → ⊥) → n ≤ m
not_last n m h d = omega arith

-- the types of nodes below n stay as they are
higher : (book : List Scope) (s : Scope) (k n m : ℕ) → k < n → n ≤ m → type_below book s n k ≡ type_below book s m k
higher book s k n zero l h = absurd (omega arith)
higher book s k n (suc m) l h =
    ⊎_elim
    (λ (e : eqb n (suc m) ≡ true). rw (eqb-true n (suc m) e))
    (λ (e : eqb n (suc m) ≡ false).
    let d = eqb-false n (suc m) e in
    rw (next book s m k, ne_eqb k m (λ q. d (omega arith))) (higher book s k n m l (not_last n m h d)))
    (decide (eqb n (suc m)))

-- a node that names only nodes below n fits by any two tables that agree on them
module _ (book : List Scope) (s : Scope) (n : ℕ) (f g : ℕ → ValueType) (agree : (k : ℕ) → k < n → f k ≡ g k) where
  same : (k : ℕ) → ltb k n ≡ true → f k ≡ g k
  same k e = agree k (ltb-true k n e)

  same_exception : (t : ValueType) (e : ℕ) → names_exception n e ≡ true → exception_fits f t e ≡ exception_fits g t e
  same_exception t e h =
      ⊎_elim (λ (q : eqb e 255 ≡ true). rw q) (λ (q : ltb e n ≡ true). rw (same e q)) (or_cases (eqb e 255) (ltb e n) h)

  same_fits : (x : Node) → node_names book s n x ≡ true → node_fits f x ≡ node_fits g x
  unfolding node_names
  same_fits (node.Constant b) h = refl
  same_fits (node.Number z) h = refl
  same_fits (node.Own v) h = refl
  same_fits (node.Called k v) h = refl
  same_fits (node.Empty t) h = refl
  same_fits (node.Conflict t) h = refl
  same_fits (node.Unary op a) h = rw (same a h)
  same_fits (node.Binary op a b) h =
      let p = both (ltb a n) (ltb b n) h in
      rw (same a p.0, same b p.1)
  same_fits (node.Choice c a b) h =
      let p = both (ltb c n) (ltb a n && ltb b n) h in
      let q = both (ltb a n) (ltb b n) p.1 in
      rw (same c p.0, same a q.0, same b q.1)
  same_fits (node.Default x y z j c) h =
      let p = both (names_exception n x) (names_exception n y && (names_exception n z && (ltb j n && ltb c n))) h in
      let q = both (names_exception n y) (names_exception n z && (ltb j n && ltb c n)) p.1 in
      let r = both (names_exception n z) (ltb j n && ltb c n) q.1 in
      let u = both (ltb j n) (ltb c n) r.1 in
      rw (same c u.1, same j u.0, same_exception (g c) x p.0, same_exception (g c) y q.0, same_exception (g c) z r.0)

pub record Table (book : List Scope) (i : ℕ) (types : List ℕ) (n : ℕ) : Type 0 where
  pub room : length types ≡ 256
  pub within : n ≤ length (scope_at book i).nodes
  pub known : type_in types ≡ type_below book (scope_at book i) n

pub start : (book : List Scope) (i : ℕ) → Table book i (replicate 256 0) 0
unfolding type_below
start book i = record { room = length-replicate {A = ℕ} 256 0; within = omega arith; known = fun_ext (blank 256) }

module _ (book : List Scope) (i : ℕ) (types : List ℕ) (n : ℕ) (g : Table book i types n) where
  pub turn : n < 256 → n < length (scope_at book i).nodes → (x : Node) (b : ℕ) → x ≡ node_at book i n → b ≡ type_byte book i types x
      → Table book i (set types n b) (n + 1)
  unfolding node_at type_byte
  turn l h x b ex eb =
      let t = node_type book (scope_at book i) (type_in types) x in
      let r = g.room in
      record {
        room = length-set types n b ∙ g.room;
        within = omega arith;
        known =
            rw (add-one n, eb)
            (fun_ext (λ k.
            ⊎_elim
            (λ (e : eqb k n ≡ true).
            let same : k ≡ n = eqb-true k n e in
            rw (next book (scope_at book i) n k, e, same, stored types n t (omega arith), ← g.known, ex))
            (λ (e : eqb k n ≡ false). rw (next book (scope_at book i) n k, e, kept types n k (byte_of t) (eqb-false k n e), g.known))
            (decide (eqb k n))));
      }

  pub filled : length (scope_at book i).nodes ≤ n → Typed book i types
  unfolding type_of_node
  filled full =
      let w = g.within in
      let e : n ≡ length (scope_at book i).nodes = omega arith in
      record { known = g.known ∙ ap (type_below book (scope_at book i)) e }

  -- node n, which names only lower ones, fits by the table so far where it fits by the whole one
  pub told : n < length (scope_at book i).nodes → (x : Node) → x ≡ node_at book i n → node_names book (scope_at book i) n x ≡ true
      → (r : Bool) → r ≡ node_suits types x → not r ≡ misfit_node book i (get_or (scope_at book i).nodes n no_node)
  unfolding misfit_node node_suits node_at type_of_node
  told h x ex named r er =
      let s = scope_at book i in
      rw (er, g.known, ← ex)
      (ap not
      (same_fits book s n (type_below book s n) (type_below book s (length s.nodes))
      (λ k l. higher book s k n (length s.nodes) l g.within) x named))

-- a clause fits by the table where it fits by the types of the nodes
pub told_clause : (book : List Scope) (i n : ℕ) {types : List ℕ} → Typed book i types → (c : Clause) → c ≡ clause_at book i n
    → (r : Bool) → r ≡ clause_suits book i types c → not r ≡ misfit_clause book i (get_or (scope_at book i).clauses n no_clause)
unfolding misfit_clause clause_suits clause_at
told_clause book i n t c ec r er = rw (er, t.known, ec)
