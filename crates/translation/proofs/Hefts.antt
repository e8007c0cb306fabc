-- The bytes of the records that a node's term is made of, and the code that they become.
--     made_bytes     a node's own
--     node_code      a node's code: 46 bytes for 14 of its records, and four more
--     clause_code    a clause's code as an exception, with what stands for it in its parent's: 24 bytes, and that of the nodes that it names
-- Assumes nothing.
use Prim.Native.Nat.{ℕ, zero, suc, ◌+◌, ◌*◌, ◌≤◌}
use mathlib.Core.Path.{◌≡◌, refl}
use mathlib.Core.Bool.{Bool, true, false, cond}
use mathlib.Core.List.{List}
use native.Mathlib.Omega.{arith}
use lib.ListN.{length, get_or}
use lib.Dec.{eqb}
use Rattle.calculus.specs.Terms.{Term, Terms, literal, own, called, error, unary, binary, choice, default, none, also}
use Rattle.calculus.specs.declared.Value.TheVariants as value
use Rattle.answers.specs.declared.Cause.{Cause}
use Rattle.answers.specs.declared.Cause.TheVariants as cause
use Rattle.book.specs.Syntax.{Scope, no_node}
use Rattle.book.specs.Sharing.{clause_nodes, gathered}
use Rattle.book.specs.Scopes.{sum}
use Rattle.book.specs.Trees.{exception, node_term, term_below, term_of, condition_term, consequence_term, select, clause_terms}
use Rattle.book.specs.declared.Node.{Node}
use Rattle.book.specs.declared.Node.TheVariants.{Constant, Number, Own, Called, Empty, Conflict, Unary, Binary, Choice, Default}
use Rattle.book.specs.declared.Clause.{Clause}
use Rattle.translation.specs.Code.{if_any, size, sizes}
use Rattle.translation.proofs.Parts.{weigh, all_weigh, all_of, around}
use Rattle.translation.proofs.Bounds.{clauses_all, own_all}

-- a node's record, by what becomes of it
abbrev pub bytes : Term → ℕ
bytes (literal (value.Truth b)) = 2
bytes (literal (value.Number z)) = 5
bytes (own x) = 2
bytes (called s x) = 3
bytes (error c) = 2
bytes (unary op a) = 2
bytes (binary op a b) = 3
bytes (choice c a b) = 4
bytes (default es j c) = 6

abbrev pub node_bytes : Node → ℕ
node_bytes (Constant b) = 2
node_bytes (Number z) = 5
node_bytes (Own v) = 2
node_bytes (Called k v) = 3
node_bytes (Empty t) = 2
node_bytes (Conflict t) = 2
node_bytes (Unary op a) = 2
node_bytes (Binary op a b) = 3
node_bytes (Choice c a b) = 4
node_bytes (Default x y z j c) = 6

pub made_bytes : (lower : ℕ → Term) (x : Node) → bytes (node_term lower x) ≡ node_bytes x
made_bytes lower (Constant b) = refl
made_bytes lower (Number z) = refl
made_bytes lower (Own v) = refl
made_bytes lower (Called k v) = refl
made_bytes lower (Empty t) = refl
made_bytes lower (Conflict t) = refl
made_bytes lower (Unary op a) = refl
made_bytes lower (Binary op a b) = refl
made_bytes lower (Choice c a b) = refl
made_bytes lower (Default x y z j c) = refl

abbrev pub heft : Term → ℕ
heft t = weigh bytes t

-- as an exception, nine bytes more
abbrev Light : Term → Type 0
Light t = 14 * (size t + 9) ≤ 46 * heft t + 62

-- so are k exceptions together
abbrev LightAll : ℕ → Terms → Type 0
LightAll k ts = 14 * sizes ts ≤ 46 * all_weigh bytes ts + 62 * k

none_light : LightAll 0 none
unfolding weigh size
none_light = omega arith

error_light : (c : Cause) → Light (error c)
unfolding weigh size
error_light c = omega arith

module _ (lower : ℕ → Term) (light : (a : ℕ) → Light (lower a)) where
  exception_light : (e k : ℕ) (ts : Terms) → LightAll k ts → LightAll (suc k) (exception lower e ts)
  unfolding weigh size
  exception_light e k ts h = go (eqb e 255)
    where
      go : (b : Bool) → LightAll (suc k) (cond b ts (also (lower e) ts))
      go true = omega arith
      go false = omega (arith, light e)

  default_light : (es : Terms) (j c : Term) → LightAll 3 es → Light j → Light c → Light (default es j c)
  unfolding weigh size
  default_light es j c e p q = omega (arith, around es)

  node_light : (x : Node) → Light (node_term lower x)
  unfolding weigh size
  node_light (Constant b) = omega arith
  node_light (Number z) = omega arith
  node_light (Own v) = omega arith
  node_light (Called k v) = omega arith
  node_light (Empty t) = error_light cause.Empty
  node_light (Conflict t) = error_light cause.Conflict
  node_light (Unary op a) = omega (arith, light a)
  node_light (Binary op a b) = omega (arith, light a, light b)
  node_light (Choice c a b) = omega (arith, light c, light a, light b)
  node_light (Default x y z j c) =
      let zs = exception lower z none in
      let ys = exception lower y zs in
      default_light (exception lower x ys) (lower j) (lower c)
      (exception_light x 2 ys (exception_light y 1 zs (exception_light z 0 none none_light))) (light j) (light c)

below_light : (nodes : List Node) (l n : ℕ) → Light (term_below nodes l n)
unfolding term_below
below_light nodes zero n = error_light cause.Empty
below_light nodes (suc l) n = go (eqb n l) (below_light nodes l)
  where
    go : (b : Bool) → ((a : ℕ) → Light (term_below nodes l a)) → Light (cond b (node_term (term_below nodes l) (get_or nodes l no_node)) (term_below nodes l n))
    go true more = node_light (term_below nodes l) more (get_or nodes l no_node)
    go false more = more n

pub node_code : (s : Scope) (n : ℕ) → 14 * (size (term_of s n) + 9) ≤ 46 * heft (term_of s n) + 62
unfolding term_of
node_code s n = below_light s.nodes (length s.nodes) n

-- Clauses

-- 14 times the code of a term as an exception, four bytes of which stand for those before and behind all exceptions
abbrev pub charge : Term → ℕ
charge t = 14 * size t + 182

abbrev pub named : Scope → ℕ → ℕ
named s n = 46 * heft (term_of s n)

charge_all : (es : Terms) → 14 * if_any es (1 + sizes es + 3) 0 ≤ all_of charge es
unfolding size all_of
charge_all none = omega arith
charge_all (also e none) = omega arith
charge_all (also e (also u us)) = omega (arith, charge_all (also u us))

default_charge : (es : Terms) (j c : Term) → charge (default es j c) ≤ 280 + all_of charge es + (14 * size j + 14 * size c)
unfolding size
default_charge es j c = omega (arith, charge_all es)

truth_code : (b : Bool) → 14 * size (literal (value.Truth b)) ≤ 28
unfolding size
truth_code b = omega arith

both_parts : (a b c e : ℕ) → a ≤ 280 + b + c → c ≤ 28 + 28 + e → a ≤ 336 + b + e
both_parts a b c e p q = omega arith

pub clause_code : (s : Scope) (cs : List Clause) (n : ℕ) (p : Clause → Bool)
    → ((c : Clause) → p c ≡ true → n ≤ c.parent → n + length cs ≤ c.parent)
    → all_of charge (select p cs (clause_terms s n cs)) ≤ 336 * length cs + sum (named s) (gathered clause_nodes cs)
clause_code s cs n p outer = clauses_all charge s (named s) 336 each (λ m. 336 * m) (λ m. omega arith) cs n p outer
  where
    own_code : (c : Clause) → 14 * size (condition_term s c.condition) + 14 * size (consequence_term s c.consequence) ≤ 28 + 28 + sum (named s) (clause_nodes c)
    own_code = own_all (λ t. 14 * size t) s (named s) 28 truth_code (λ m. omega (arith, node_code s m))

    each : (es : Terms) (c : Clause)
        → charge (default es (condition_term s c.condition) (consequence_term s c.consequence)) ≤ 336 + all_of charge es + sum (named s) (clause_nodes c)
    each es c =
        let j = condition_term s c.condition in
        let k = consequence_term s c.consequence in
        both_parts (charge (default es j k)) (all_of charge es) (14 * size j + 14 * size k) (sum (named s) (clause_nodes c)) (default_charge es j k) (own_code c)
