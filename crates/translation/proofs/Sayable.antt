-- Every term of a book can be said: its numbers were read from four bytes, and its errors are empty and conflict.
--     number_fits      what is read from four places of a list fits 32 bits
--     node_sayable     a node that is read from a record, over terms that can be said
--     book_sayable     the nodes of every scope that is read from bytes
--     tree_sayable     a tree of such nodes
-- Assumes nothing.
use Prim.Native.Nat.{ℕ, zero, suc, ◌^◌, ◌-◌}
use mathlib.Core.Path.{◌≡◌, refl}
use mathlib.Core.Bool.{Bool, true, false, cond}
use mathlib.Core.List.{List, [], ◌∷◌}
use native.Mathlib.Omega.{arith}
use lib.ListN.{length, get_or}
use lib.Dec.{eqb, ltb}
use lib.IntN.{pos, negsuc}
use borrow.Author.Tests.{ltb-true, ltb-false}
use mir.Syntax.{w32}
use mir.Val.{SFits, to_z, sel}
use Rattle.slices.specs.Bytes.{big_endian, number_at}
use Rattle.calculus.specs.Terms.{Term, Terms, none, also}
use Rattle.calculus.specs.declared.Unary.{Unary}
use Rattle.calculus.specs.declared.Binary.{Binary}
use Rattle.book.specs.Syntax.{Scope, node_of, no_node}
use Rattle.book.specs.Records.{Met, stage_of, body_of, records}
use Rattle.book.specs.Decode.{Parsed, in_front, parse, scopes_of}
use Rattle.book.specs.References.{scope_at}
use Rattle.book.specs.Trees.{exception, node_term, term_below, term_of, condition_term, consequence_term, select, clause_terms, is_base, bases, has_rule, without_rules, tree}
use Rattle.book.specs.declared.Node.{Node}
use Rattle.book.specs.declared.Node.TheVariants as node
use Rattle.book.specs.declared.Consequence.{Consequence}
use Rattle.book.specs.declared.Consequence.TheVariants.{Of, Fixed}
use Rattle.book.specs.declared.Target.{Target}
use Rattle.book.specs.declared.Clause.{Clause}
use Rattle.translation.specs.Measures.{Sayable, AllSayable}

-- what holds of both holds of the one chosen
either : {A : Type 0} (P : A → Type 0) (b : Bool) {x y : A} → P x → P y → P (cond b x y)
either P true h k = h
either P false h k = k

number_fits : (xs : List ℕ) (at : ℕ) → SFits w32 (number_at xs at)
unfolding number_at
number_fits xs at = go (big_endian 4 xs at)
  where
    go : (n : ℕ) → SFits w32 (to_z w32 n)
    go n = by (ltb n (2 ^ 31)) refl
      where
        by : (b : Bool) → ltb n (2 ^ 31) ≡ b → SFits w32 (sel b (pos n) (negsuc (2 ^ 32 - suc n)))
        by true e = record { sfits = ltb-true n (2 ^ 31) e }
        by false e = let l = ltb-false n (2 ^ 31) e in record { sfits = omega arith }

-- Nodes

-- over terms that can be said, the node's can
pub record Says (x : Node) : Type 0 where
  pub made : (lower : ℕ → Term) → ((a : ℕ) → Sayable (lower a)) → Sayable (node_term lower x)

exception_sayable : (lower : ℕ → Term) → ((a : ℕ) → Sayable (lower a)) → (e : ℕ) (ts : Terms) → AllSayable ts → AllSayable (exception lower e ts)
unfolding Sayable
exception_sayable lower h e ts k = either AllSayable (eqb e 255) k (h e, k)

unary_sayable : {op : Unary} {a : ℕ} → Says (node.Unary op a)
unfolding Sayable
unary_sayable {op} {a} = record { made = λ lower h. h a }

binary_sayable : {op : Binary} {a b : ℕ} → Says (node.Binary op a b)
unfolding Sayable
binary_sayable {op} {a} {b} = record { made = λ lower h. (h a, h b) }

default_sayable : (x y z j c : ℕ) → Says (node.Default x y z j c)
unfolding Sayable
default_sayable x y z j c =
    record {
      made =
          λ lower h. (
            exception_sayable lower h x _ (exception_sayable lower h y _ (exception_sayable lower h z none tt)),
            h j,
            h c,
          );
    }

node_sayable : (k : ℕ) (body : List ℕ) → Says (node_of k body)
unfolding node_of Sayable
node_sayable k body =
    either Says (eqb k 4) (record { made = λ lower h. tt })
    (either Says (eqb k 5) (record { made = λ lower h. number_fits body 0 })
    (either Says (eqb k 6) (record { made = λ lower h. tt })
    (either Says (eqb k 7) (record { made = λ lower h. tt })
    (either Says (eqb k 8) (record { made = λ lower h. tt })
    (either Says (eqb k 9) (record { made = λ lower h. tt })
    (either Says (eqb k 10) unary_sayable
    (either Says (eqb k 11) unary_sayable
    (either Says (eqb k 12) binary_sayable
    (either Says (eqb k 13) binary_sayable
    (either Says (eqb k 14) binary_sayable
    (either Says (eqb k 15) binary_sayable
    (either Says (eqb k 16) binary_sayable
    (either Says (eqb k 17) (record { made = λ lower h. (h (get_or body 0 0), h (get_or body 1 0), h (get_or body 2 0)) })
    (default_sayable (get_or body 0 0) (get_or body 1 0) (get_or body 2 0) (get_or body 3 0) (get_or body 4 0)))))))))))))))

-- Scopes

-- every node of a scope, and what stands where it has none
abbrev pub EachSays : Scope → Type 0
EachSays s = (n : ℕ) → Says (get_or s.nodes n no_node)

none_says : Says no_node
unfolding Sayable
none_says = record { made = λ lower h. tt }

-- every scope that was read, and what stands before the first
record Read (p : Parsed) : Type 0 where
  opened : EachSays p.opened
  inner : (i : ℕ) → EachSays (scope_at p.scopes i)

read_front : (m : Met) (p : Parsed) → Read p → Read (in_front m p)
unfolding in_front
read_front m p r =
    either Read (eqb (stage_of m) 1) (record { opened = λ n. none_says; inner = one_more })
    (either Read (eqb (stage_of m) 2) (record { opened = r.opened; inner = r.inner })
    (either Read (eqb (stage_of m) 3) (record { opened = r.opened; inner = r.inner })
    (either Read (eqb (stage_of m) 4) (record { opened = node_more; inner = r.inner })
    (either Read (eqb (stage_of m) 5) (record { opened = r.opened; inner = r.inner })
    r))))
  where
    one_more : (i : ℕ) → EachSays (scope_at (p.opened ∷ p.scopes) i)
    one_more zero = r.opened
    one_more (suc i) = r.inner i

    node_more : (n : ℕ) → Says (get_or (node_of m.kind (body_of m) ∷ p.opened.nodes) n no_node)
    node_more zero = node_sayable m.kind (body_of m)
    node_more (suc n) = r.opened n

read_all : (ms : List Met) → Read (parse ms)
unfolding parse
read_all [] = record { opened = λ n. none_says; inner = λ i n. none_says }
read_all (m ∷ ms) = read_front m (parse ms) (read_all ms)

pub book_sayable : (bytes : List ℕ) (i : ℕ) → EachSays (scope_at (scopes_of bytes) i)
unfolding scopes_of
book_sayable bytes i = (read_all (records bytes)).inner i

-- Trees

module _ (s : Scope) (each : EachSays s) where
  below_sayable : (l n : ℕ) → Sayable (term_below s.nodes l n)
  unfolding term_below Sayable
  below_sayable zero n = tt
  below_sayable (suc l) n = either Sayable (eqb n l) ((each l).made (term_below s.nodes l) (below_sayable l)) (below_sayable l n)

  term_sayable : (n : ℕ) → Sayable (term_of s n)
  unfolding term_of
  term_sayable n = below_sayable (length s.nodes) n

  condition_sayable : (n : ℕ) → Sayable (condition_term s n)
  unfolding Sayable
  condition_sayable n = either Sayable (eqb n 255) tt (term_sayable n)

  consequence_sayable : (c : Consequence) → Sayable (consequence_term s c)
  unfolding Sayable
  consequence_sayable (Of n) = term_sayable n
  consequence_sayable (Fixed b) = tt

  select_sayable : (cs : List Clause) (n : ℕ) (p : Clause → Bool) → AllSayable (select p cs (clause_terms s n cs))
  unfolding select clause_terms Sayable
  select_sayable [] n p = tt
  select_sayable (c ∷ cs) n p =
      let more = select_sayable cs (suc n) p in
      let exceptions = select_sayable cs (suc n) (λ d. eqb d.parent n) in
      either AllSayable (p c) ((exceptions, condition_sayable c.condition, consequence_sayable c.consequence), more) more

  without_sayable : (ts : Terms) → AllSayable ts → Sayable (without_rules ts)
  unfolding Sayable
  without_sayable none h = tt
  without_sayable (also t none) h = h.0
  without_sayable (also t (also u us)) h = (h, tt, tt)

  pub tree_sayable : (t : Target) → Sayable (tree s t)
  unfolding tree bases Sayable
  tree_sayable t =
      let h = select_sayable s.clauses 0 (is_base t) in
      either Sayable (has_rule s t) (h, tt, tt) (without_sayable (bases s t) h)
