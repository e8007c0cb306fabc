-- Laws of marking the chosen variables, from the last to the first.
--     too_many             more than 12 are refused
--     start, turn, stop    marking goes on: at first, after one more variable, after all
--     unfit_one            one that is unfit, and
--     twice                one that is marked already, make the choice bad
--     has_mark             one that is fit has a mark
-- Assumes nothing.
use Prim.Native.Nat.{ℕ, zero, suc, ◌-◌, ◌≤◌, ◌<◌}
use mathlib.Core.Path.{◌≡◌, refl, sym, ◌∙◌}
use mathlib.Core.Bool.{Bool, true, false, ◌||◌, false≢true, or-true, or-false}
use mathlib.Core.List.{List, [], ◌∷◌}
use native.Mathlib.Omega.{arith}
use lib.ListN.{length, get_or, set, drop, replicate, length-set}
use lib.Seq.{drop-cons, drop-length}
use lib.Dec.{eqb, ltb}
use borrow.Author.Tests.{lt-ltb, le-ltb}
use Rattle.std.specs.Prelude.{Option}
use Rattle.order.specs.Matrix.{marked}
use Rattle.order.proofs.Matrix.{marked_set, zero_marks}
use Rattle.book.specs.Lists.{any}
use Rattle.book.specs.declared.ValueType.TheVariants.{YesNo}
use Rattle.book.specs.declared.Variable.{Variable}
use Rattle.book.proofs.Searches.{any_at}
use Rattle.order.specs.Order.{among}
use Rattle.book.specs.Sharing.{repeats}
use Rattle.tabulation.specs.Chosen.{unfit, bad_choice}
use Rattle.lists.proofs.Reading.{can_give}
use Rattle.choices.specs.Marks.{ChosenMarked}
use Rattle.calculus.specs.declared.Value.{Value}

repeated_later : (n : ℕ) (xs : List ℕ) → repeats (drop n xs) ≡ true → repeats xs ≡ true
unfolding repeats
repeated_later zero xs e = e
repeated_later (suc n) [] e = e
repeated_later (suc n) (x ∷ xs) e = rw (repeated_later n xs e) (or-true (among xs x))

module _ {variables : List Variable} {given : List (Option Value)} {chosen marks : List ℕ} (size : length marks ≡ 32) where
  refuse : bad_choice variables given chosen ≡ true → ChosenMarked variables given chosen false marks
  refuse bad = record { size = size; taken = λ e. absurd (false≢true e); exact = λ e. absurd (false≢true e); refused = λ e. bad }

  pub too_many : 12 < length chosen → ChosenMarked variables given chosen false marks
  unfolding bad_choice
  too_many h = refuse (rw (lt-ltb 12 (length chosen) h))

-- those from a place on are good and marked, and no other is
pub record MarkingChosen (variables : List Variable) (given : List (Option Value)) (chosen marks : List ℕ) (left : ℕ) : Type 0 where
  pub size : length marks ≡ 32
  pub inside : left ≤ length chosen
  pub once : repeats (drop left chosen) ≡ false
  pub fits : any (unfit variables given) (drop left chosen) ≡ false
  pub exact : (v : ℕ) → marked marks v ≡ among (drop left chosen) v

pub start : (variables : List Variable) (given : List (Option Value)) (chosen : List ℕ) {marks : List ℕ} → marks ≡ replicate 32 0
    → {left : ℕ} → left ≡ length chosen → MarkingChosen variables given chosen marks left
unfolding repeats any among
start variables given chosen e l =
    record {
      size = rw e refl;
      inside = omega arith;
      once = rw (l, drop-length chosen);
      fits = rw (l, drop-length chosen);
      exact = λ v. rw (e, l, zero_marks 32 v, drop-length chosen);
    }

module _ {variables : List Variable} {given : List (Option Value)} {chosen marks : List ℕ} {left : ℕ} (m : MarkingChosen variables given chosen marks left) where
  pub stop : length chosen ≤ 12 → left ≡ 0 → ChosenMarked variables given chosen true marks
  unfolding bad_choice
  stop few e =
      let once : repeats chosen ≡ false = rw e at m.once in
      let fits : any (unfit variables given) chosen ≡ false = rw e at m.fits in
      record {
        size = m.size;
        taken = λ t. rw (le-ltb 12 (length chosen) few, once, fits);
        exact = λ t w. rw e at (m.exact w);
        refused = λ t. absurd (false≢true (sym t));
      }

  module _ (v : ℕ) (last : (0 < left) × (v ≡ get_or chosen (left - 1) 0)) where
    first : drop (left - 1) chosen ≡ v ∷ drop left chosen
    first =
        let i = m.inside in
        let s : suc (left - 1) ≡ left = omega arith in
        rw (drop-cons chosen (left - 1) 0 (omega arith), s, last.1)

    pub unfit_one : unfit variables given v ≡ true → ChosenMarked variables given chosen false marks
    unfolding bad_choice
    unfit_one e =
        let i = m.inside in
        refuse m.size
        (rw (any_at (unfit variables given) chosen (left - 1) (omega arith) 0 (rw last.1 at e), or-true (repeats chosen)) (or-true (ltb 12 (length chosen))))

    pub twice : marked marks v ≡ true → ChosenMarked variables given chosen false marks
    unfolding bad_choice repeats
    twice e =
        let again : repeats (drop (left - 1) chosen) ≡ true = rw (first, ← m.exact v, e) in
        refuse m.size (rw (repeated_later (left - 1) chosen again) (or-true (ltb 12 (length chosen))))

    module _ (few : length variables ≤ 32) (ok : unfit variables given v ≡ false) where
      pub has_mark : v < length marks
      has_mark = let k = (can_give variables given YesNo v ok).known in let s = m.size in omega arith

      pub turn : marked marks v ≡ false → {next : ℕ} → next ≡ left - 1 → MarkingChosen variables given chosen (set marks v 1) next
      unfolding repeats any among
      turn new {next} e =
          let i = m.inside in
          rw e (record {
            size = length-set marks v 1 ∙ m.size;
            inside = omega arith;
            once = rw (first, ← m.exact v, new) m.once;
            fits = rw (first, ok) m.fits;
            exact = λ w. rw (marked_set marks v w has_mark, m.exact w, first) (swap (among (drop left chosen) w) (eqb w v));
          })
        where
          swap : (a b : Bool) → (a || b) ≡ (b || a)
          swap true b = sym (or-true b)
          swap false b = sym (or-false b)
