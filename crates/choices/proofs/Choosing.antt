-- Laws of judging the chosen variables and putting them in order.
--     room, at_most    each variable of the scope has a mark, 32 at most
--     refused          where marking finds them bad
--     done             where it finds them good, and the marked ones are written
-- Assumes nothing.
use Prim.Native.Nat.{ℕ, ◌≤◌}
use mathlib.Core.Path.{◌≡◌, refl, sym}
use mathlib.Core.Bool.{Bool, true, false, false≢true}
use mathlib.Core.List.{List}
use native.Mathlib.Omega.{arith}
use lib.ListN.{length, take}
use lib.Seq.{length-take-le}
use Rattle.std.specs.Prelude.{Option}
use Rattle.book.specs.declared.Variable.{Variable}
use Rattle.lists.specs.Reading.{typed, Filled}
use Rattle.tabulation.specs.Chosen.{bad_choice, in_order}
use Rattle.tabulation.proofs.Chosen.{chosen_count}
use Rattle.choices.specs.Marks.{marked_from, ChosenMarked, MarkedWritten}
use Rattle.choices.specs.Choosing.{Choosing}
use Rattle.choices.proofs.Ordering.{marks_order}
use Rattle.calculus.specs.declared.Value.{Value}

module _ {variables : List Variable} {n : ℕ} {types : List ℕ} (f : Filled variables n types)
    {given : List (Option Value)} {chosen marks : List ℕ} where
  module _ {answer : Bool} (few : length variables ≤ 32) (m : ChosenMarked (typed (take n types)) given chosen answer marks) where
    pub room : length (take n marks) ≡ n
    room = let e = f.number in let s = m.size in length-take-le n marks (omega arith)

    pub at_most : length (take n marks) ≤ 32
    at_most = let r = room in let e = f.number in omega arith

  pub refused : {ordered : List ℕ} → ChosenMarked (typed (take n types)) given chosen false marks → length ordered ≡ 32
      → Choosing variables given chosen false ordered
  refused m s =
      record {
        size = s;
        taken = λ e. absurd (false≢true e);
        written = λ e. absurd (false≢true e);
        refused = λ e. rw f.bytes at (m.refused refl);
      }

  pub done : {ordered : List ℕ} → length variables ≤ 32 → ChosenMarked (typed (take n types)) given chosen true marks → MarkedWritten (take n marks) ordered
      → Choosing variables given chosen true ordered
  done few m o =
      let s = m.size in
      let good : bad_choice variables given chosen ≡ false = rw f.bytes at (m.taken refl) in
      let same : marked_from 0 (take n marks) ≡ in_order chosen variables = rw f.number (marks_order chosen marks variables (omega arith) (m.exact refl)) in
      record {
        size = o.size;
        taken = λ t. good;
        written = λ t. rw (← chosen_count variables given chosen good) (rw same at o.written);
        refused = λ t. absurd (false≢true (sym t));
      }
