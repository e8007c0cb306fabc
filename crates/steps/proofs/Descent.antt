-- What the nodes of a scope read, marked in the rows of their owners from the last node to the first.
--     Descent     what holds when the nodes from n on are marked: descent-start, descent-down, descent-owned, descent-free, descent-done
-- Assumes nothing.
use Prim.Native.Nat.{ℕ, suc, ◌<◌, ◌≤◌, ◌-◌}
use mathlib.Core.Path.{◌≡◌, sym, ap, ◌∙◌}
use mathlib.Core.Bool.{Bool, true, false, ◌&&◌, ◌||◌, or_assoc, or_comm, and-or_distrib_left}
use mathlib.Core.List.{List}
use native.Mathlib.Omega.{arith}
use lib.ListN.{length, get_or}
use lib.Dec.{eqb}
use borrow.Author.Tests.{ne_eqb}
use Rattle.order.specs.Order.{among}
use Rattle.laws.proofs.Booleans.{untrue}
use Rattle.book.specs.Lists.{any}
use Rattle.book.specs.Syntax.{Scope, no_node}
use Rattle.book.specs.References.{scope_at, dangles}
use Rattle.book.specs.Sharing.{operands, shares}
use Rattle.book.specs.Steps.{depends_on}
use Rattle.book.specs.Positions.{node_at}
use Rattle.book.proofs.Namings.{nodes_apart, scope_once}
use Rattle.steps.specs.Edges.{one_edge, own_step, Marked}
use Rattle.steps.specs.Owners.{Owned, some_below, node_reads, owned_edges, Unowned, Roots}
use Rattle.steps.proofs.Marking.{Marking, start, turn, done}
use Rattle.steps.proofs.Reading.{node_reads_lem}
use Rattle.steps.proofs.Owners.{handed}
use Rattle.steps.proofs.Roots.{operand_lower}

pub record Descent (book : List Scope) (i : ℕ) (from to owners : List ℕ) (n : ℕ) : Type 0 where
  pub within : n ≤ length (scope_at book i).nodes
  pub long : length owners ≡ 256
  pub free : Unowned book i owners n
  pub marks : Marking from to (owned_edges (scope_at book i) owners n) (depends_on (scope_at book i))

-- one node lower
pub descent_down : {book : List Scope} {i : ℕ} {from to owners : List ℕ} {n : ℕ} → Descent book i from to owners n → 0 < n
    → Descent book i from to owners (suc (n - 1))
descent_down {n = n} g l = let e : n ≡ suc (n - 1) = omega arith in rw e at g

module _ (book : List Scope) (i : ℕ) (from : List ℕ) where
  pub descent_start : (owners : List ℕ) (n : ℕ) → Roots book i owners → n ≡ length (scope_at book i).nodes → Descent book i from from owners n
  descent_start owners n g e =
      rw e
      (record {
        within = omega arith;
        long = g.long;
        free = g.free;
        marks =
            start from (owned_edges (scope_at book i) owners (length (scope_at book i).nodes)) (depends_on (scope_at book i))
            (λ x y l m. g.edges x y l);
      })

  pub descent_done : (to owners : List ℕ) (n : ℕ) → Descent book i from to owners n → n ≤ 0 → Marked from to (depends_on (scope_at book i))
  unfolding owned_edges some_below
  descent_done to owners n g l =
      let e : n ≡ 0 = omega arith in
      done from (owned_edges (scope_at book i) owners n) (depends_on (scope_at book i)) to g.marks (λ x y a b. rw e)

  module _ (to owners : List ℕ) (n : ℕ) (g : Descent book i from to owners (suc n)) where
    -- a node without owner
    pub descent_free : get_or owners n 0 ≡ 255 → Descent book i from to owners n
    unfolding owned_edges some_below
    descent_free e =
        record {
          within = omega (arith, g.within);
          long = g.long;
          free = λ k m l p. g.free k m (omega arith) p;
          marks =
              record {
                long = g.marks.long;
                edges =
                    λ x y l m.
                    let none : eqb (get_or owners n 0) x ≡ false = ne_eqb (get_or owners n 0) x (omega arith) in
                    rw none at (g.marks.edges x y l m);
                whole = g.marks.whole;
              };
        }

    module _ (few : length (scope_at book i).nodes ≤ 250) (sound : dangles book ≡ false) (single : shares book ≡ false) (row : ℕ)
        (er : row ≡ get_or owners n 0) (handed_on : List ℕ) (own : Owned (operands (node_at book i n)) row owners handed_on) where
      split : (x y : ℕ) → x < 40 → y < 40
          → owned_edges (scope_at book i) owners (suc n) x y
          ≡ (one_edge row (own_step (length (scope_at book i).variables) (node_at book i n)) x y || owned_edges (scope_at book i) handed_on n x y)
      unfolding owned_edges some_below one_edge node_at
      split x y l m =
          let s = scope_at book i in
          let here : n < length s.nodes = omega (arith, g.within) in
          let lowers : (a : ℕ) → among (operands (node_at book i n)) a ≡ true → a < n = λ a p. operand_lower book i sound n a here p in
          let itself = eqb row x && eqb (own_step (length s.variables) (node_at book i n)) y in
          let under = eqb row x && any (node_reads s y) (operands (node_at book i n)) in
          let others = owned_edges s owners n x y in
          let this : (eqb (get_or owners n 0) x && node_reads s y n) ≡ (itself || under) =
          ap (λ (t : ℕ). eqb t x && node_reads s y n) (sym er)
          ∙ ap (λ (t : Bool). eqb row x && t) (node_reads_lem s n y here m lowers)
          ∙ and-or_distrib_left (eqb row x) (eqb (own_step (length s.variables) (node_at book i n)) y)
          (any (node_reads s y) (operands (node_at book i n))) in
          ap (λ (t : Bool). t || others) this
          ∙ or_assoc itself under others
          ∙ ap (λ (t : Bool). itself || t) (or_comm under others)
          ∙ ap (λ (t : Bool). itself || t)
          (sym (handed s n (omega arith) (operands (node_at book i n)) row owners handed_on own lowers (λ a p. g.free n a (omega arith) p) x y l))

      -- a node that has one
      pub descent_owned : (next : List ℕ) → Marked to next (one_edge row (own_step (length (scope_at book i).variables) (node_at book i n)))
          → Descent book i from next handed_on n
      unfolding node_at
      descent_owned next mark =
          let s = scope_at book i in
          let here : n < length s.nodes = omega (arith, g.within) in
          record {
            within = omega arith;
            long = own.long ∙ g.long;
            free =
                λ k m l p.
                let below = operand_lower book i sound k m (omega arith) p in
                own.owner m (omega arith)
                ∙ rw (untrue (among (operands (node_at book i n)) m) (λ q. nodes_apart s (scope_once book single i) m k n no_node l here p q))
                (g.free k m (omega arith) p);
            marks =
                turn from (owned_edges s owners (suc n)) (depends_on s) to next
                (one_edge row (own_step (length s.variables) (node_at book i n))) (owned_edges s handed_on n) g.marks mark split;
          }
