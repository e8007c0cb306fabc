-- Giving nodes to a row.
--     own_one, own-none, own-then, own-unless    one node, no node, some and then others, one that may be 255
--     some_none                                  where no number below n has a property, none is found
--     handed                                     the edges of the nodes that have an owner, once some that had none are given to a row
-- Assumes nothing.
use Prim.Native.Nat.{ℕ, zero, suc, ◌<◌, ◌≤◌}
use mathlib.Core.Path.{◌≡◌, refl, sym, ap, ◌∙◌}
use mathlib.Core.Bool.{Bool, true, false, cond, ◌&&◌, ◌||◌, false≢true, or-true}
use mathlib.Core.List.{List, [], ◌∷◌, ◌++◌}
use mathlib.Core.Logic.{⊎_elim}
use native.Mathlib.Omega.{arith}
use native.Mathlib.Nat.{eq-or-lt_of_le}
use lib.ListN.{length, get_or, set, length-set}
use lib.Seq.{get_or-set_same, get_or-set_other}
use lib.Dec.{eqb}
use borrow.Author.Tests.{eqb-true, eqb-false, ne_eqb}
use Rattle.order.specs.Order.{among}
use Rattle.laws.proofs.Booleans.{decide, both, or_cases, both_ways, untrue}
use Rattle.order.proofs.Among.{among_append, among_at, among_place}
use Rattle.book.specs.Lists.{any}
use Rattle.book.specs.Syntax.{Scope}
use Rattle.book.specs.Sharing.{unless255}
use Rattle.book.proofs.Searches.{any_at, any_true}
use Rattle.steps.specs.Owners.{Owned, some_below, node_reads, owned_edges}

-- Owners

pub own_none : {row : ℕ} {from : List ℕ} → Owned [] row from from
unfolding among
own_none = record { long = refl; owner = λ m l. refl }

pub own_one : (n row : ℕ) (from : List ℕ) → length from ≡ 256 → n < 256 → Owned (n ∷ []) row from (set from n row)
unfolding among
own_one n row from size l =
    record {
      long = length-set from n row;
      owner =
          λ m h.
          ⊎_elim
          (λ (q : eqb m n ≡ true). let e : m ≡ n = eqb-true m n q in rw (q, e) (get_or-set_same from n row 0 (omega arith)))
          (λ (q : eqb m n ≡ false). rw q (get_or-set_other from n m row 0 (eqb-false m n q)))
          (decide (eqb m n));
    }

pub own_then : {xs ys : List ℕ} {row : ℕ} {from mid to : List ℕ} → Owned xs row from mid → Owned ys row mid to → Owned (xs ++ ys) row from to
own_then {xs} {ys} {row} {from} g h =
    record {
      long = h.long ∙ g.long;
      owner =
          λ m l.
          h.owner m l
          ∙ ap (λ (t : ℕ). cond (among ys m) row t) (g.owner m l)
          ∙ either (among xs m) (among ys m) (get_or from m 0)
          ∙ ap (λ (t : Bool). cond t row (get_or from m 0)) (sym (among_append xs ys m));
    }
  where
    either : (a b : Bool) (t : ℕ) → cond b row (cond a row t) ≡ cond (a || b) row t
    either true true t = refl
    either true false t = refl
    either false b t = refl

-- 255 is no node
pub own_unless : {n : ℕ} {xs : List ℕ} {row : ℕ} {from mid to : List ℕ} → Owned (n ∷ []) row from mid → Owned xs row mid to
    → Owned (unless255 n xs) row from to
unfolding among
own_unless {n} {xs} {row} {from} g h =
    record {
      long = h.long ∙ g.long;
      owner =
          λ m l.
          let same : (eqb m n || among xs m) ≡ among (unless255 n xs) m =
          ⊎_elim
          (λ (q : eqb n 255 ≡ true). let e : n ≡ 255 = eqb-true n 255 q in rw (q, ne_eqb m n (omega arith)))
          (λ (q : eqb n 255 ≡ false). rw q)
          (decide (eqb n 255)) in
          (own_then g h).owner m l ∙ ap (λ (t : Bool). cond t row (get_or from m 0)) same;
    }

-- Numbers below n

module _ (p : ℕ → Bool) where
  some_true : (n : ℕ) → some_below p n ≡ true → (m : ℕ) × (m < n) × (p m ≡ true)
  unfolding some_below
  some_true zero e = absurd (false≢true e)
  some_true (suc n) e =
      ⊎_elim
      (λ h. (n, omega arith, h))
      (λ h. let r = some_true n h in (r.0, omega (arith, r.1), r.2))
      (or_cases (p n) (some_below p n) e)

  some_at : (n m : ℕ) → m < n → p m ≡ true → some_below p n ≡ true
  unfolding some_below
  some_at zero m l e = absurd (omega arith)
  some_at (suc n) m l e =
      ⊎_elim
      (λ (q : m ≡ n). rw (← q, e))
      (λ (h : m < n). rw (some_at n m h e) (or-true (p n)))
      (eq-or-lt_of_le {n = m} {m = n} (omega arith))

  pub some_none : (n : ℕ) → ((m : ℕ) → m < n → p m ≡ false) → some_below p n ≡ false
  some_none n h =
      untrue (some_below p n)
      (λ e. let r = some_true n e in false≢true (sym (h r.0 r.1) ∙ r.2))

any_among : (p : ℕ → Bool) (xs : List ℕ) (m : ℕ) → among xs m ≡ true → p m ≡ true → any p xs ≡ true
any_among p xs m a e =
    let r = among_place xs m a in
    any_at p xs r.0 r.1 0 (ap p r.2 ∙ e)

among_any : (p : ℕ → Bool) (xs : List ℕ) → any p xs ≡ true → (m : ℕ) × (among xs m ≡ true) × (p m ≡ true)
among_any p xs e = let r = any_true p xs e in (get_or xs r.0 0, among_at xs r.0 r.1, r.2 0)

-- Edges

module _ (s : Scope) (n : ℕ) (few : n ≤ 250) (names : List ℕ) (row : ℕ) (from to : List ℕ) (g : Owned names row from to)
    (below : (m : ℕ) → among names m ≡ true → m < n) (free : (m : ℕ) → among names m ≡ true → get_or from m 0 ≡ 255) where
  given : (m : ℕ) → among names m ≡ true → get_or to m 0 ≡ row
  given m e = let l = below m e in g.owner m (omega arith) ∙ rw e

  kept : (m : ℕ) → m < n → among names m ≡ false → get_or to m 0 ≡ get_or from m 0
  kept m l e = g.owner m (omega arith) ∙ rw e

  module _ (x y : ℕ) (vertex : x < 40) where
    there : owned_edges s to n x y ≡ true → (owned_edges s from n x y || eqb row x && any (node_reads s y) names) ≡ true
    unfolding owned_edges
    there e =
        let r = some_true (λ m. eqb (get_or to m 0) x && node_reads s y m) n e in
        let m = r.0 in
        let h = both (eqb (get_or to m 0) x) (node_reads s y m) r.2 in
        ⊎_elim
        (λ (a : among names m ≡ true).
        let z : eqb row x ≡ true = ap (λ (t : ℕ). eqb t x) (sym (given m a)) ∙ h.0 in
        rw (z, any_among (node_reads s y) names m a h.1) (or-true (owned_edges s from n x y)))
        (λ (a : among names m ≡ false).
        let z : eqb (get_or from m 0) x ≡ true = ap (λ (t : ℕ). eqb t x) (sym (kept m r.1 a)) ∙ h.0 in
        rw (some_at (λ m. eqb (get_or from m 0) x && node_reads s y m) n m r.1 (rw z h.1)))
        (decide (among names m))

    back : (owned_edges s from n x y || eqb row x && any (node_reads s y) names) ≡ true → owned_edges s to n x y ≡ true
    unfolding owned_edges
    back e =
        ⊎_elim
        (λ (a : owned_edges s from n x y ≡ true).
        let r = some_true (λ m. eqb (get_or from m 0) x && node_reads s y m) n a in
        let m = r.0 in
        let h = both (eqb (get_or from m 0) x) (node_reads s y m) r.2 in
        let o : get_or from m 0 ≡ x = eqb-true (get_or from m 0) x h.0 in
        let other : among names m ≡ false = untrue (among names m) (λ b. let z = free m b in omega arith) in
        let z : eqb (get_or to m 0) x ≡ true = ap (λ (t : ℕ). eqb t x) (kept m r.1 other) ∙ h.0 in
        some_at (λ m. eqb (get_or to m 0) x && node_reads s y m) n m r.1 (rw z h.1))
        (λ (a : (eqb row x && any (node_reads s y) names) ≡ true).
        let b = both (eqb row x) (any (node_reads s y) names) a in
        let r = among_any (node_reads s y) names b.1 in
        let z : eqb (get_or to r.0 0) x ≡ true = ap (λ (t : ℕ). eqb t x) (given r.0 r.1) ∙ b.0 in
        some_at (λ m. eqb (get_or to m 0) x && node_reads s y m) n r.0 (below r.0 r.1) (rw z r.2))
        (or_cases (owned_edges s from n x y) (eqb row x && any (node_reads s y) names) e)

    pub handed : owned_edges s to n x y ≡ (owned_edges s from n x y || eqb row x && any (node_reads s y) names)
    handed = both_ways (owned_edges s to n x y) (owned_edges s from n x y || eqb row x && any (node_reads s y) names) there back
