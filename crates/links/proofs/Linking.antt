-- Linking the clauses of a scope, from the last to the first.
--     start    no link is set where no clause is linked
--     turn     one more clause is linked
-- Assumes nothing.
use Prim.Native.Nat.{ℕ, suc, ◌<◌, ◌≤◌, ◌+◌}
use mathlib.Core.Path.{◌≡◌, refl, sym, ap, ◌∙◌}
use mathlib.Core.Bool.{Bool, true, false, cond, ◌&&◌}
use mathlib.Core.List.{List}
use mathlib.Core.Logic.{⊎_elim}
use native.Mathlib.Omega.{arith}
use native.Mathlib.Nat.{eq-or-lt_of_le}
use lib.ListN.{length, get_or, set, drop, length-set, drop_of_length-le}
use lib.Seq.{drop-cons, get_or-set_same, get_or-set_other}
use lib.Dec.{eqb}
use borrow.Author.Tests.{eqb-true, eqb-false, eq-eqb, ne_eqb}
use Rattle.laws.proofs.Booleans.{decide}
use Rattle.book.specs.Syntax.{is_rule}
use Rattle.book.specs.References.{no_clause}
use Rattle.book.specs.declared.Clause.{Clause}
use Rattle.links.specs.Links.{slot_of, head_of, in_chain, rule_of, first_from, with_clause, LinkedFrom, Room}
use Rattle.links.proofs.Slots.{slot_bound}
use Rattle.links.proofs.Named.{Chained, chained_head}

pub start : (cs : List Clause) (links : List ℕ) → length links ≡ 834 → ((k : ℕ) → k < 834 → get_or links k 0 ≡ 255) → (n : ℕ) → length cs ≤ n
    → LinkedFrom cs n links
unfolding first_from
start cs links size blank n l =
    record {
      size = size;
      first = λ k h. rw (drop_of_length-le cs l) (blank k (omega arith));
      next = λ m a h. absurd (omega arith);
      rule = λ k h. rw (drop_of_length-le cs l) (blank (545 + k) (omega arith));
    }

-- a cell that may be written
written : (xs : List ℕ) (i j a : ℕ) → i < length xs → get_or (set xs i a) j 0 ≡ cond (eqb i j) a (get_or xs j 0)
written xs i j a l =
    ⊎_elim
    (λ (q : eqb i j ≡ true). rw (q, ← eqb-true i j q) (get_or-set_same xs i a 0 l))
    (λ (q : eqb i j ≡ false). rw q (get_or-set_other xs i j a 0 (λ e. eqb-false i j q (sym e))))
    (decide (eqb i j))

maybe : (b : Bool) (xs : List ℕ) (i j a : ℕ) → i < length xs → get_or (cond b (set xs i a) xs) j 0 ≡ cond (b && eqb i j) a (get_or xs j 0)
maybe true xs i j a l = written xs i j a l
maybe false xs i j a l = refl

unwritten : (b : Bool) (xs : List ℕ) (i j a : ℕ) → (j ≡ i → ⊥) → get_or (cond b (set xs i a) xs) j 0 ≡ get_or xs j 0
unwritten true xs i j a d = get_or-set_other xs i j a 0 d
unwritten false xs i j a d = refl

kept : (b : Bool) (xs : List ℕ) (i a : ℕ) → length (cond b (set xs i a) xs) ≡ length xs
kept true xs i a = length-set xs i a
kept false xs i a = refl

shifted : (a b : ℕ) → eqb (545 + a) (545 + b) ≡ eqb a b
shifted a b =
    ⊎_elim
    (λ (q : eqb a b ≡ true). let e = eqb-true a b q in eq-eqb (545 + a) (545 + b) (omega arith) ∙ sym q)
    (λ (q : eqb a b ≡ false). let d = eqb-false a b q in ne_eqb (545 + a) (545 + b) (λ e. d (omega arith)) ∙ sym q)
    (decide (eqb a b))

-- the cells of the links with one more clause
module _ (links : List ℕ) (n : ℕ) (c : Clause) (r : Room links n c) where
  abbrev chained : List ℕ
  chained = set (set links (417 + n) (get_or links (head_of c) 0)) (head_of c) n

  chained_size : length chained ≡ 834
  chained_size = length-set (set links (417 + n) (get_or links (head_of c) 0)) (head_of c) n ∙ length-set links (417 + n) (get_or links (head_of c) 0) ∙ r.size

  with_size : length (with_clause links n c) ≡ 834
  unfolding with_clause
  with_size = kept (is_rule c.consequence) chained (545 + slot_of c.target) n ∙ chained_size

  with_first : (k : ℕ) → k < 417 → get_or (with_clause links n c) k 0 ≡ cond (in_chain k c) n (get_or links k 0)
  unfolding with_clause
  with_first k l =
      let size = r.size in
      let head = r.head in
      unwritten (is_rule c.consequence) chained (545 + slot_of c.target) k n (λ e. omega arith)
      ∙ written (set links (417 + n) (get_or links (head_of c) 0)) (head_of c) k n (omega (arith, length-set links (417 + n) (get_or links (head_of c) 0)))
      ∙ ap (cond (in_chain k c) n) (get_or-set_other links (417 + n) k (get_or links (head_of c) 0) 0 (λ e. omega arith))

  with_own_lem : get_or (with_clause links n c) (417 + n) 0 ≡ get_or links (head_of c) 0
  unfolding with_clause
  with_own_lem =
      let size = r.size in
      let head = r.head in
      let number = r.number in
      unwritten (is_rule c.consequence) chained (545 + slot_of c.target) (417 + n) n (λ e. omega arith)
      ∙ get_or-set_other (set links (417 + n) (get_or links (head_of c) 0)) (head_of c) (417 + n) n 0 (λ e. omega arith)
      ∙ get_or-set_same links (417 + n) (get_or links (head_of c) 0) 0 (omega arith)

  with_next : (m : ℕ) → n < m → m < 128 → get_or (with_clause links n c) (417 + m) 0 ≡ get_or links (417 + m) 0
  unfolding with_clause
  with_next m l h =
      let head = r.head in
      unwritten (is_rule c.consequence) chained (545 + slot_of c.target) (417 + m) n (λ e. omega arith)
      ∙ get_or-set_other (set links (417 + n) (get_or links (head_of c) 0)) (head_of c) (417 + m) n 0 (λ e. omega arith)
      ∙ get_or-set_other links (417 + n) (417 + m) (get_or links (head_of c) 0) 0 (λ e. omega arith)

  with_rule : (k : ℕ) → k < 289 → get_or (with_clause links n c) (545 + k) 0 ≡ cond (rule_of k c) n (get_or links (545 + k) 0)
  unfolding with_clause
  with_rule k l =
      let head = r.head in
      let number = r.number in
      maybe (is_rule c.consequence) chained (545 + slot_of c.target) (545 + k) n (omega (arith, chained_size, slot_bound c.target))
      ∙ ap (λ (b : Bool). cond (is_rule c.consequence && b) n (get_or chained (545 + k) 0)) (shifted (slot_of c.target) k)
      ∙ ap (cond (rule_of k c) n)
      (get_or-set_other (set links (417 + n) (get_or links (head_of c) 0)) (head_of c) (545 + k) n 0 (λ e. omega arith)
      ∙ get_or-set_other links (417 + n) (545 + k) (get_or links (head_of c) 0) 0 (λ e. omega arith))

-- the first clause that has p, the front one's number being n
pub first_front : (p : Clause → Bool) (cs : List Clause) (n : ℕ) → n < length cs
    → first_from p n (drop n cs) ≡ cond (p (get_or cs n no_clause)) n (first_from p (suc n) (drop (suc n) cs))
unfolding first_from
first_front p cs n l = rw (drop-cons cs n no_clause l)

module _ (cs : List Clause) (g : Chained cs) where
  pub room : (n : ℕ) → n < length cs → (links : List ℕ) → length links ≡ 834 → Room links n (get_or cs n no_clause)
  room n l links size =
      let few = g.few in
      record { size = size; number = omega arith; head = omega (arith, chained_head cs g n l) }

  module _ (links : List ℕ) (n : ℕ) (l : n < length cs) (h : LinkedFrom cs (suc n) links) where
    turned : LinkedFrom cs n (with_clause links n (get_or cs n no_clause))
    turned =
        let c = get_or cs n no_clause in
        let r = room n l links h.size in
        let few = g.few in
        record {
          size = with_size links n c r;
          first = λ k b. with_first links n c r k b ∙ ap (cond (in_chain k c) n) (h.first k b) ∙ sym (first_front (in_chain k) cs n l);
          next =
              λ m a b.
              ⊎_elim
              (λ (e : n ≡ m). rw (← e) (with_own_lem links n c r ∙ h.first (head_of c) r.head))
              (λ (a' : n < m). with_next links n c r m a' (omega arith) ∙ h.next m a' b)
              (eq-or-lt_of_le a);
          rule = λ k b. with_rule links n c r k b ∙ ap (cond (rule_of k c) n) (h.rule k b) ∙ sym (first_front (rule_of k) cs n l);
        }

  pub turn : (links : List ℕ) (n m : ℕ) → n ≡ suc m → m < length cs → LinkedFrom cs n links → LinkedFrom cs m (with_clause links m (get_or cs m no_clause))
  turn links n m e l h = turned links m l (rw e at h)
