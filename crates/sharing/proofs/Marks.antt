-- Laws of marking the numbers that are named.
--     marked_none, marked-then             no number, and one list after another
--     marked_past, marked-new, marked-again    one number: past the marks, not marked yet, marked already
--     marked_unless                        a number that may be 255, and what follows it
--     marked_length                        there are as many marks as before
--     passed_start, passed-more, passed-end    what the elements below n of a list name, in a loop that counts n up to the list's length
--     marked_repeats                       marks that begin with none find whether some number stands twice
-- Assumes nothing.
use Prim.Native.Nat.{ℕ, ◌<◌, ◌≤◌, ◌+◌}
use mathlib.Core.Path.{◌≡◌, refl, sym, ◌∙◌}
use mathlib.Core.Bool.{Bool, true, false, ◌||◌, or-true, or-false}
use mathlib.Core.List.{List, [], ◌∷◌, ◌++◌, append-nil}
use mathlib.Core.Logic.{⊎_elim}
use native.Mathlib.Omega.{arith}
use native.Mathlib.Numerals.{add-one}
use lib.ListN.{length, get_or, set, take, replicate, length-set, get_or-eq_default}
use lib.Seq.{set_out, take_all, take-suc}
use lib.Dec.{eqb}
use Rattle.order.specs.Order.{among}
use Rattle.order.specs.Matrix.{marked}
use Rattle.laws.proofs.Booleans.{decide, eqb_swap}
use Rattle.order.proofs.Matrix.{marked_true, marked_false, marked_set, zero_marks}
use Rattle.book.specs.Lists.{any}
use Rattle.book.specs.Sharing.{unless255, gathered, repeats}
use Rattle.book.proofs.Searches.{any_none}
use Rattle.book.proofs.Gathered.{gathered_append}
use Rattle.sharing.specs.Marks.{mark_all, meets, Bytes, none, also, Marking}

bytes_then : {xs ys : List ℕ} → Bytes xs → Bytes ys → Bytes (xs ++ ys)
bytes_then none b = b
bytes_then (also h a) b = also h (bytes_then a b)

mark_then : (xs ys marks : List ℕ) → mark_all (xs ++ ys) marks ≡ mark_all ys (mark_all xs marks)
unfolding mark_all
mark_then [] ys marks = refl
mark_then (x ∷ xs) ys marks = mark_then xs ys (set marks x 1)

meets_then : (xs ys marks : List ℕ) (twice : Bool) → meets (xs ++ ys) marks twice ≡ meets ys (mark_all xs marks) (meets xs marks twice)
unfolding meets mark_all
meets_then [] ys marks twice = refl
meets_then (x ∷ xs) ys marks twice = meets_then xs ys (set marks x 1) (twice || marked marks x)

pub marked_none : {marks : List ℕ} {twice : Bool} → Marking [] marks twice twice marks
unfolding meets mark_all
marked_none = record { found = refl; memory = refl; bytes = none }

pub marked_then :
    {xs ys marks between after : List ℕ} {twice found r : Bool} → Marking xs marks twice found between → Marking ys between found r after
    → Marking (xs ++ ys) marks twice r after
marked_then {xs} {ys} {marks} {between} {after} {twice} {found} {r} a b =
    record {
      found = b.found ∙ rw (a.memory, a.found) (sym (meets_then xs ys marks twice));
      memory = b.memory ∙ rw a.memory (sym (mark_then xs ys marks));
      bytes = bytes_then a.bytes b.bytes;
    }

module _ (marks : List ℕ) (twice : Bool) (w : ℕ) (byte : w < 256) where
  pub marked_past : length marks ≤ w → Marking (w ∷ []) marks twice twice marks
  unfolding meets mark_all
  marked_past h =
      record {
        found = rw (marked_false marks w (get_or-eq_default marks 0 h)) (sym (or-false twice));
        memory = sym (set_out marks w 1 h);
        bytes = also byte none;
      }

  pub marked_new : get_or marks w 0 ≡ 0 → Marking (w ∷ []) marks twice twice (set marks w 1)
  unfolding meets mark_all
  marked_new h =
      record { found = rw (marked_false marks w h) (sym (or-false twice)); memory = refl; bytes = also byte none }

  pub marked_again : (get_or marks w 0 ≡ 0 → ⊥) → Marking (w ∷ []) marks twice true (set marks w 1)
  unfolding meets mark_all
  marked_again h =
      record { found = rw (marked_true marks w h) (sym (or-true twice)); memory = refl; bytes = also byte none }

unless_then : (x : ℕ) (xs : List ℕ) → unless255 x [] ++ xs ≡ unless255 x xs
unless_then x xs = ⊎_elim (λ q. rw q) (λ q. rw q) (decide (eqb x 255))

pub marked_unless :
    (x : ℕ) {xs marks between after : List ℕ} {twice found r : Bool} → Marking (unless255 x []) marks twice found between
    → Marking xs between found r after → Marking (unless255 x xs) marks twice r after
marked_unless x {xs} a b = rw (← unless_then x xs) (marked_then a b)

-- what the elements below n of a list name
unfoldable pub passed : {A : Type 0} → (A → List ℕ) → ℕ → List A → List ℕ
passed f n xs = gathered f (take n xs)

module _ {A : Type 0} (f : A → List ℕ) (xs : List A) {marks : List ℕ} {twice : Bool} where
  pub passed_start : Marking (passed f 0 xs) marks twice twice marks
  unfolding passed gathered
  passed_start = marked_none

  module _ (n : ℕ) {between : List ℕ} {found : Bool} (so_far : Marking (passed f n xs) marks twice found between) where
    pub passed_more :
        {after : List ℕ} {r : Bool} (d : A) → n < length xs → Marking (f (get_or xs n d)) between found r after
        → Marking (passed f (n + 1) xs) marks twice r after
    unfolding passed gathered
    passed_more d h m =
        rw (add-one n, take-suc xs n d h, gathered_append f (take n xs) (get_or xs n d ∷ []), append-nil (f (get_or xs n d))) (marked_then so_far m)

    pub passed_end : length xs ≤ n → Marking (gathered f xs) marks twice found between
    unfolding passed
    passed_end h = rw (← take_all n xs h) so_far

length_marked : (names marks : List ℕ) → length (mark_all names marks) ≡ length marks
unfolding mark_all
length_marked [] marks = refl
length_marked (x ∷ xs) marks = length_marked xs (set marks x 1) ∙ length-set marks x 1

pub marked_length : {names marks after : List ℕ} {twice r : Bool} → Marking names marks twice r after → length after ≡ length marks
marked_length {names} {marks} m = rw m.memory (length_marked names marks)

-- the marks with one more: what any of them meets
any_marked_set : (xs marks : List ℕ) (x : ℕ) → x < length marks → any (marked (set marks x 1)) xs ≡ (any (marked marks) xs || among xs x)
unfolding any among
any_marked_set [] marks x h = refl
any_marked_set (y ∷ ys) marks x h =
    rw (marked_set marks x y h, any_marked_set ys marks x h, eqb_swap x y)
    (regroup (marked marks y) (eqb y x) (any (marked marks) ys) (among ys x))
  where
    regroup : (a b c d : Bool) → ((a || b) || (c || d)) ≡ ((a || c) || (b || d))
    regroup true b c d = refl
    regroup false true true d = refl
    regroup false true false d = refl
    regroup false false c d = refl

meets_any :
    {names : List ℕ} (marks : List ℕ) (twice : Bool) → Bytes names → 256 ≤ length marks
    → meets names marks twice ≡ (twice || (any (marked marks) names || repeats names))
unfolding meets any repeats
meets_any marks twice none h = sym (or-false twice)
meets_any marks twice (also {x} {xs} b more) h =
    meets_any (set marks x 1) (twice || marked marks x) more (simp length-set h)
    ∙ rw (any_marked_set xs marks x (omega arith))
    (regroup twice (marked marks x) (any (marked marks) xs) (among xs x) (repeats xs))
  where
    regroup : (s a b c d : Bool) → ((s || a) || ((b || c) || d)) ≡ (s || ((a || b) || (c || d)))
    regroup true a b c d = refl
    regroup false true b c d = refl
    regroup false false true c d = refl
    regroup false false false c d = refl

pub marked_repeats : {names after : List ℕ} {r : Bool} → Marking names (replicate 256 0) false r after → r ≡ repeats names
marked_repeats {names} {after} {r} m =
    m.found
    ∙ meets_any (replicate 256 0) false m.bytes (omega arith)
    ∙ rw (any_none (marked (replicate 256 0)) names 0 (λ i l. zero_marks 256 (get_or names i 0)))
