-- Laws of writing the marked numbers, the lowest first.
--     start, marked_one, other_one, stop    writing goes on: at first, after a number that is marked or not, after all
--     marks_order                           where exactly the chosen variables are marked, these are they in order
-- Assumes nothing.
use Prim.Native.Nat.{ℕ, suc, ◌+◌, ◌≤◌, ◌<◌}
use mathlib.Core.Path.{◌≡◌, refl, sym, ap, ◌∙◌}
use mathlib.Core.Bool.{not}
use mathlib.Core.List.{List, [], ◌∷◌, ◌++◌, append-nil}
use mathlib.Core.Logic.{⊎_elim}
use native.Mathlib.Omega.{arith}
use native.Mathlib.Numerals.{add-one}
use lib.ListN.{length, get_or, set, take, drop, length-set, drop_of_length-le}
use lib.Seq.{drop-cons, take-suc-set, append_snoc, length-take-le, get_or-take}
use lib.Dec.{eqb}
use borrow.Author.Tests.{eq-eqb, ne_eqb}
use Rattle.laws.proofs.Booleans.{decide}
use Rattle.order.specs.Matrix.{marked}
use Rattle.book.specs.declared.Variable.{Variable}
use Rattle.order.specs.Order.{among}
use Rattle.tabulation.specs.Chosen.{chosen_from, in_order}
use Rattle.choices.specs.Marks.{marked_from, MarkedWritten}

-- the marked numbers below v are written
pub record WritingMarked (marks ordered : List ℕ) (count v : ℕ) : Type 0 where
  pub size : length ordered ≡ 32
  pub below : count ≤ v
  pub inside : v ≤ length marks
  pub rest : take count ordered ++ marked_from v (drop v marks) ≡ marked_from 0 marks

pub start : (marks : List ℕ) {ordered : List ℕ} → length ordered ≡ 32 → WritingMarked marks ordered 0 0
start marks s = record { size = s; below = omega arith; inside = omega arith; rest = refl }

module _ {marks ordered : List ℕ} {count v : ℕ} (o : WritingMarked marks ordered count v) (few : length marks ≤ 32) where
  pub stop : length marks ≤ v → MarkedWritten marks ordered
  unfolding marked_from
  stop h =
      let b = o.below in
      let i = o.inside in
      let s = o.size in
      let all : take count ordered ≡ marked_from 0 marks =
      sym (append-nil (take count ordered)) ∙ rw (drop_of_length-le marks h) at o.rest in
      let n : length (marked_from 0 marks) ≡ count = ap length (sym all) ∙ length-take-le count ordered (omega arith) in
      record { size = o.size; written = rw n all }

  module _ (h : v < length marks) where
    -- there is a place for one more
    room : count < length ordered
    room = let b = o.below in let s = o.size in omega arith

    pub marked_one : (get_or marks v 0 ≡ 0 → ⊥) → WritingMarked marks (set ordered count v) (count + 1) (v + 1)
    unfolding marked_from
    marked_one e =
        let b = o.below in
        record {
          size = length-set ordered count v ∙ o.size;
          below = omega arith;
          inside = omega arith;
          rest =
              rw (add-one count, add-one v, take-suc-set ordered count v room)
              (append_snoc (take count ordered) v (marked_from (suc v) (drop (suc v) marks))
              ∙ rw (drop-cons marks v 0 h, ne_eqb (get_or marks v 0) 0 e) at o.rest);
        }

    pub other_one : get_or marks v 0 ≡ 0 → WritingMarked marks ordered count (v + 1)
    unfolding marked_from
    other_one e =
        let b = o.below in
        record {
          size = o.size;
          below = omega arith;
          inside = omega arith;
          rest = rw (add-one v) (rw (drop-cons marks v 0 h, eq-eqb (get_or marks v 0) 0 e) at o.rest);
        }

same_order : (chosen marks : List ℕ) (variables : List Variable) (v : ℕ) → length marks ≡ length variables
    → ((j : ℕ) → j < length marks → marked marks j ≡ among chosen (v + j)) → marked_from v marks ≡ chosen_from chosen v variables
unfolding marked_from chosen_from marked
same_order chosen [] [] v e h = refl
same_order chosen [] (x ∷ xs) v e h = absurd (omega arith)
same_order chosen (m ∷ ms) [] v e h = absurd (omega arith)
same_order chosen (m ∷ ms) (x ∷ xs) v e h =
    let z : v + 0 ≡ v = omega arith in
    let here : not (eqb m 0) ≡ among chosen v = rw z at (h 0 (omega arith)) in
    let rest = same_order chosen ms xs (suc v) (omega arith) (λ j l. let z' : suc v + j ≡ v + suc j = omega arith in rw z' (h (suc j) (omega arith))) in
    rw (← here, rest) (⊎_elim (λ q. rw q) (λ q. rw q) (decide (eqb m 0)))

pub marks_order : (chosen marks : List ℕ) (variables : List Variable) → length variables ≤ length marks → ((v : ℕ) → marked marks v ≡ among chosen v)
    → marked_from 0 (take (length variables) marks) ≡ in_order chosen variables
unfolding marked
marks_order chosen marks variables l h =
    let n = length-take-le (length variables) marks l in
    same_order chosen (take (length variables) marks) variables 0 n
    (λ j k. let z : 0 + j ≡ j = omega arith in rw (z, get_or-take (length variables) marks j 0 (omega arith)) (h j))
