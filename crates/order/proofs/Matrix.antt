-- Laws of the bytes of the matrix, and of the marks of the vertices that are done.
--     marked_true, marked-false    a byte that is not 0, or 0
--     marked_set                   the marks once one more is set
--     zero_marks                   nothing is marked in a list of zeros
--     edge_true, edge-false        the byte of an edge
--     edge_passed, edge-linked     whether row v is read at w
-- Assumes nothing.
use Rattle.laws.proofs.Zeros.{zeros}
use Prim.Native.Nat.{ℕ, ◌<◌, ◌≤◌, ◌+◌, ◌*◌}
use mathlib.Core.Path.{◌≡◌, sym}
use mathlib.Core.Bool.{true, false, not, ◌||◌, or-true, or-false, and-true, and-false}
use mathlib.Core.List.{List}
use mathlib.Core.Logic.{⊎_elim}
use lib.ListN.{length, get_or, set, replicate}
use lib.Seq.{get_or-set_same, get_or-set_other}
use lib.Dec.{eqb}
use borrow.Author.Tests.{eq-eqb, ne_eqb, eqb-true, eqb-false, le-leb, lt-leb}
use Rattle.order.specs.Matrix.{marked, linked, edge_of}
use Rattle.laws.proofs.Booleans.{decide}

module _ (bytes : List ℕ) (i : ℕ) where
  pub marked_true : (get_or bytes i 0 ≡ 0 → ⊥) → marked bytes i ≡ true
  unfolding marked
  marked_true h = rw (ne_eqb (get_or bytes i 0) 0 h)

  pub marked_false : get_or bytes i 0 ≡ 0 → marked bytes i ≡ false
  unfolding marked
  marked_false h = rw (eq-eqb (get_or bytes i 0) 0 h)

module _ (deps : List ℕ) (v w : ℕ) where
  pub edge_true : get_or deps (v * 40 + w) 0 ≡ 0 → get_or deps (1600 + v) 0 ≤ w → edge_of deps v w ≡ true
  unfolding edge_of linked
  edge_true h l = rw (eq-eqb (get_or deps (v * 40 + w) 0) 0 h) (le-leb (get_or deps (1600 + v) 0) w l)

  pub edge_false : (get_or deps (v * 40 + w) 0 ≡ 0 → ⊥) → edge_of deps v w ≡ false
  unfolding edge_of linked
  edge_false h = rw (ne_eqb (get_or deps (v * 40 + w) 0) 0 h)

  pub edge_passed : w < get_or deps (1600 + v) 0 → edge_of deps v w ≡ false
  unfolding edge_of
  edge_passed l = rw (lt-leb (get_or deps (1600 + v) 0) w l) (and-false (linked deps v w))

  pub edge_linked : get_or deps (1600 + v) 0 ≤ w → edge_of deps v w ≡ linked deps v w
  unfolding edge_of
  edge_linked l = rw (le-leb (get_or deps (1600 + v) 0) w l) (and-true (linked deps v w))

pub marked_set : (done : List ℕ) (v w : ℕ) → v < length done → marked (set done v 1) w ≡ (marked done w || eqb w v)
unfolding marked
marked_set done v w h =
    ⊎_elim
    (λ (q : eqb w v ≡ true).
    let e : w ≡ v = eqb-true w v q in
    rw (q, e, get_or-set_same done v 1 0 h) (sym (or-true (not (eqb (get_or done v 0) 0)))))
    (λ (q : eqb w v ≡ false). rw (q, get_or-set_other done v w 1 0 (eqb-false w v q)) (sym (or-false (not (eqb (get_or done w 0) 0)))))
    (decide (eqb w v))

pub zero_marks : (n i : ℕ) → marked (replicate n 0) i ≡ false
zero_marks n i = marked_false (replicate n 0) i (zeros n i)
