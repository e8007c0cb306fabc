-- Marking edges in the bytes of a matrix, one after the other.
--     no_row, no-column, zeroed, one_kept, one_lower      marking one edge
--     Marking                          with the edges that are left, `to` has all that `from` has and the whole
--     start, turn, done                where nothing is marked yet, once some more is marked, where nothing is left
--     list_turn, list_done             turn and done, where what is left are the edges of a list's elements
-- Assumes nothing.
use Prim.Native.Nat.{ℕ, ◌<◌, ◌≤◌, ◌+◌, ◌*◌}
use mathlib.Core.Path.{◌≡◌, refl, sym, ap, ◌∙◌}
use mathlib.Core.Bool.{Bool, true, false, ◌&&◌, ◌||◌, and-false, or-true, or-false, or_assoc}
use mathlib.Core.List.{List}
use mathlib.Core.Logic.{⊎_elim}
use native.Mathlib.Omega.{arith}
use native.Mathlib.Numerals.{add-one}
use lib.ListN.{length, get_or, drop, set, length-set, drop_of_length-le}
use lib.Seq.{drop-cons, get_or-set_same, get_or-set_other}
use lib.Dec.{eqb}
use borrow.Author.Tests.{eqb-true, eqb-false, eq-eqb, ne_eqb}
use Rattle.order.specs.Matrix.{linked}
use Rattle.order.proofs.Memo.{start_here, start_other, same_rows}
use Rattle.book.specs.Lists.{any}
use Rattle.steps.specs.Edges.{one_edge, Whole, Marked}
use Rattle.laws.proofs.Booleans.{decide, both, or_cases}

-- One edge

module _ (deps : List ℕ) (v w : ℕ) where
  pub no_row : 40 ≤ v → Marked deps deps (one_edge v w)
  unfolding one_edge
  no_row h =
      record {
        long = refl;
        edges = λ x y l m. rw (ne_eqb v x (omega arith)) (sym (or-false (linked deps x y)));
        whole = λ r. r;
      }

  pub no_column : 40 ≤ w → Marked deps deps (one_edge v w)
  unfolding one_edge
  no_column h =
      record {
        long = refl;
        edges = λ x y l m. rw (ne_eqb w y (omega arith), and-false (eqb v x)) (sym (or-false (linked deps x y)));
        whole = λ r. r;
      }

same_place : (v w x y : ℕ) → w < 40 → y < 40 → eqb (x * 40 + y) (v * 40 + w) ≡ (eqb v x && eqb w y)
same_place v w x y l m =
    ⊎_elim
    (λ (q : eqb v x ≡ true).
    let e : v ≡ x = eqb-true v x q in
    ⊎_elim
    (λ (r : eqb w y ≡ true). let d : w ≡ y = eqb-true w y r in rw (q, r) (eq-eqb (x * 40 + y) (v * 40 + w) (omega arith)))
    (λ (r : eqb w y ≡ false). let d = eqb-false w y r in rw (q, r) (ne_eqb (x * 40 + y) (v * 40 + w) (λ p. d (omega arith))))
    (decide (eqb w y)))
    (λ (q : eqb v x ≡ false). let d = eqb-false v x q in rw q (ne_eqb (x * 40 + y) (v * 40 + w) (λ p. d (omega arith))))
    (decide (eqb v x))

pub zeroed : (deps : List ℕ) (v w : ℕ) → length (set deps (v * 40 + w) 0) ≡ length deps
zeroed deps v w = length-set deps (v * 40 + w) 0

zero_set : (deps : List ℕ) (p q : ℕ) → p < length deps → eqb (get_or (set deps p 0) q 0) 0 ≡ (eqb (get_or deps q 0) 0 || eqb q p)
zero_set deps p q h =
    ⊎_elim
    (λ (t : eqb q p ≡ true). let e : q ≡ p = eqb-true q p t in rw (t, e, get_or-set_same deps p 0 0 h) (sym (or-true (eqb (get_or deps p 0) 0))))
    (λ (t : eqb q p ≡ false). rw (t, get_or-set_other deps p q 0 0 (eqb-false q p t)) (sym (or-false (eqb (get_or deps q 0) 0))))
    (decide (eqb q p))

module _ (deps : List ℕ) (v w : ℕ) (size : length deps ≡ 1640) (l : v < 40) (m : w < 40) where
  more : (x y : ℕ) → x < 40 → y < 40 → linked (set deps (v * 40 + w) 0) x y ≡ (linked deps x y || one_edge v w x y)
  unfolding one_edge linked
  more x y a b =
      zero_set deps (v * 40 + w) (x * 40 + y) (omega arith)
      ∙ ap (λ (t : Bool). eqb (get_or deps (x * 40 + y) 0) 0 || t) (same_place v w x y m b)

  starts : (x : ℕ) → x < 40 → get_or (set deps (v * 40 + w) 0) (1600 + x) 0 ≡ get_or deps (1600 + x) 0
  starts x a = get_or-set_other deps (v * 40 + w) (1600 + x) 0 0 (λ e. absurd (omega arith))

  -- row v is read from w or a lower vertex on, and every other row as before
  module _ (to : List ℕ) (long : length to ≡ 1640) (rows : (x y : ℕ) → x < 40 → y < 40 → linked to x y ≡ linked (set deps (v * 40 + w) 0) x y)
      (lower : (x : ℕ) → x < 40 → get_or to (1600 + x) 0 ≤ get_or deps (1600 + x) 0) (here : get_or to (1600 + v) 0 ≤ w) where
    one_more : Marked deps to (one_edge v w)
    unfolding one_edge
    one_more =
        record {
          long = long ∙ sym size;
          edges = λ x y a b. rows x y a b ∙ more x y a b;
          whole =
              λ r.
              record {
                read =
                    λ x y a b e.
                    ⊎_elim
                    (λ o. let s = r.read x y a b o in let t = lower x a in omega arith)
                    (λ o.
                    let p = both (eqb v x) (eqb w y) o in
                    let i : v ≡ x = eqb-true v x p.0 in
                    let j : w ≡ y = eqb-true w y p.1 in
                    rw (sym i, sym j) here)
                    (or_cases (linked deps x y) (one_edge v w x y) (sym (rows x y a b ∙ more x y a b) ∙ e));
              };
        }

  pub one_kept : get_or (set deps (v * 40 + w) 0) (1600 + v) 0 ≤ w → Marked deps (set deps (v * 40 + w) 0) (one_edge v w)
  one_kept h =
      one_more (set deps (v * 40 + w) 0) (length-set deps (v * 40 + w) 0 ∙ size) (λ x y a b. refl)
      (λ x a. let e = starts x a in omega arith) h

  pub one_lower : w < get_or (set deps (v * 40 + w) 0) (1600 + v) 0
      → Marked deps (set (set deps (v * 40 + w) 0) (1600 + v) w) (one_edge v w)
  one_lower h =
      let first = set deps (v * 40 + w) 0 in
      let long : length first ≡ 1640 = length-set deps (v * 40 + w) 0 ∙ size in
      let here = start_here first v w (omega arith) l in
      one_more (set first (1600 + v) w) (length-set first (1600 + v) w ∙ long) (λ x y a b. same_rows first v w (omega arith) l x y a b)
      (λ x a.
      let e = starts x a in
      ⊎_elim
      (λ (q : eqb x v ≡ true). let i : x ≡ v = eqb-true x v q in rw i (omega (arith, starts v l)))
      (λ (q : eqb x v ≡ false). let o = start_other first v w (omega arith) l x (eqb-false x v q) in omega arith)
      (decide (eqb x v)))
      (omega arith)

-- Many edges

pub record Marking (from to : List ℕ) (left all : ℕ → ℕ → Bool) : Type 0 where
  pub long : length to ≡ length from
  pub edges : (x y : ℕ) → x < 40 → y < 40 → (linked to x y || left x y) ≡ (linked from x y || all x y)
  pub whole : Whole from → Whole to

module _ (from : List ℕ) (left whole : ℕ → ℕ → Bool) where
  pub start : ((x y : ℕ) → x < 40 → y < 40 → left x y ≡ whole x y) → Marking from from left whole
  start same = record { long = refl; edges = λ x y l m. ap (λ (t : Bool). linked from x y || t) (same x y l m); whole = λ r. r }

  pub done : (to : List ℕ) → Marking from to left whole → ((x y : ℕ) → x < 40 → y < 40 → left x y ≡ false) → Marked from to whole
  done to g none =
      record {
        long = g.long;
        edges =
            λ x y l m. sym (or-false (linked to x y)) ∙ ap (λ (t : Bool). linked to x y || t) (sym (none x y l m)) ∙ g.edges x y l m;
        whole = g.whole;
      }

  pub turn : (to next : List ℕ) (more left' : ℕ → ℕ → Bool) → Marking from to left whole → Marked to next more
      → ((x y : ℕ) → x < 40 → y < 40 → left x y ≡ (more x y || left' x y)) → Marking from next left' whole
  turn to next more left' g h split =
      record {
        long = h.long ∙ g.long;
        edges =
            λ x y l m.
            ap (λ (t : Bool). t || left' x y) (h.edges x y l m)
            ∙ or_assoc (linked to x y) (more x y) (left' x y)
            ∙ ap (λ (t : Bool). linked to x y || t) (sym (split x y l m))
            ∙ g.edges x y l m;
        whole = λ r. h.whole (g.whole r);
      }

-- the edges of a list's elements
unfoldable pub any_edge : {A : Type 0} → (A → ℕ → ℕ → Bool) → List A → ℕ → ℕ → Bool
any_edge f xs x y = any (λ a. f a x y) xs

module _ {A : Type 0} (f : A → ℕ → ℕ → Bool) (xs : List A) (from to : List ℕ) (whole : ℕ → ℕ → Bool) (k : ℕ)
    (g : Marking from to (any_edge f (drop k xs)) whole) where
  pub list_turn : (next : List ℕ) (d : A) → k < length xs → Marked to next (f (get_or xs k d)) → Marking from next (any_edge f (drop (k + 1) xs)) whole
  unfolding any_edge any
  list_turn next d l h =
      turn from (any_edge f (drop k xs)) whole to next (f (get_or xs k d)) (any_edge f (drop (k + 1) xs)) g h
      (λ x y a b. rw (drop-cons xs k d l, add-one k))

  pub list_done : length xs ≤ k → Marked from to whole
  unfolding any_edge any
  list_done l =
      done from (any_edge f (drop k xs)) whole to g (λ x y a b. rw (drop_of_length-le xs l))
