-- What is answered, and what the memory lent holds, where vertices, matrix and memory fit, and where they do not.
--     filled_fit      what a caller of `fill_order` knows where they fit
--     filled_taken    the same, from the order's vertices; filled-unfit, where they do not fit
--     fits_fit, unfit-many, unfit-rows, unfit-room    whether they fit, by the three tests
-- Assumes nothing.
use Prim.Native.Nat.{ℕ, ◌<◌, ◌≤◌}
use mathlib.Core.Path.{◌≡◌}
use mathlib.Core.Bool.{true, false}
use mathlib.Core.List.{List, ◌++◌}
use lib.ListN.{length, drop}
use borrow.Author.Tests.{le-leb, lt-leb}
use Rattle.std.specs.Prelude.{Option, ℕ, Some, None}
use Rattle.order.specs.Order.{order}
use Rattle.order.specs.Matrix.{edge_of}
use Rattle.order.specs.Answer.{fits, answer_of, memory_of, Filled}

module _ (deps : List ℕ) (n : ℕ) (out : List ℕ) where
  pub fits_fit : n ≤ 40 → 1640 ≤ length deps → n ≤ length out → fits deps n out ≡ true
  unfolding fits
  fits_fit a b c = rw (le-leb n 40 a, le-leb 1640 (length deps) b, le-leb n (length out) c)

  pub unfit_many : 40 < n → fits deps n out ≡ false
  unfolding fits
  unfit_many a = rw (lt-leb n 40 a)

  pub unfit_rows : n ≤ 40 → length deps < 1640 → fits deps n out ≡ false
  unfolding fits
  unfit_rows a b = rw (le-leb n 40 a, lt-leb 1640 (length deps) b)

  pub unfit_room : n ≤ 40 → 1640 ≤ length deps → length out < n → fits deps n out ≡ false
  unfolding fits
  unfit_room a b c = rw (le-leb n 40 a, le-leb 1640 (length deps) b, lt-leb n (length out) c)

  pub filled_unfit : fits deps n out ≡ false → Filled deps n out None out
  unfolding answer_of memory_of
  filled_unfit f = record { answer = rw f; memory = rw f }

  pub filled_taken : fits deps n out ≡ true → (k : ℕ) (filled : List ℕ)
      → length (order (edge_of deps) n) ≡ k → filled ≡ order (edge_of deps) n ++ drop k out → Filled deps n out (Some k) filled
  unfolding answer_of memory_of
  filled_taken f k filled e m = record { answer = rw (f, e); memory = rw (f, e) m }

  pub filled_fit : n ≤ 40 → 1640 ≤ length deps → n ≤ length out → (r : Option ℕ) (filled : List ℕ) → Filled deps n out r filled
      → (r ≡ Some (length (order (edge_of deps) n))) × (filled ≡ order (edge_of deps) n ++ drop (length (order (edge_of deps) n)) out)
  unfolding answer_of memory_of
  filled_fit a b c r filled h =
      let f = fits_fit a b c in
      (rw f at h.answer, rw f at h.memory)
