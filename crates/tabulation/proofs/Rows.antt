-- The rows of a table: "Every choice is there once, with evaluation's answer".
--     row_evaluated    evaluating for a row is the run for what its assignment gives
--     row_run          and the row is that of this run
--     row_answers      this evaluating is never refused; the row by what it replies
--     row_length       a row is one byte longer than the results
--     above_row, below_row    the row of a run that ends above or below the range
--     rows_length, rows_at    rows of one length: how long they are, and which stands where
--     table_length_lem     2^k rows
--     row_at           the n-th row is that of the n-th assignment
--     choice_row, choice_in    the row of an assignment stands at its binary number, also with bytes behind the table
--     choice_answers   it holds evaluation's answer
--     table_most       a table has 643,072 bytes at most
-- Assumes nothing.
use Prim.Native.Nat.{ℕ, zero, suc, ◌+◌, ◌-◌, ◌*◌, ◌≤◌, ◌<◌}
use mathlib.Core.Path.{◌≡◌, refl, sym, ap, subst, ◌∙◌}
use mathlib.Core.Bool.{Bool, false}
use mathlib.Core.List.{List, [], ◌∷◌, ◌++◌, append-nil}
use native.Mathlib.Omega.{arith}
use native.Mathlib.Nat.{suc-mul, mul-le-mul_right}
use lib.ListN.{length, get_or, take, drop, replicate, length-append, length-drop, length-replicate}
use lib.Seq.{take_at, take-append-le, drop-append-le, drop-append-add}
use Rattle.std.specs.Prelude.{Option, Ok}
use Rattle.book.specs.Sharing.{gathered}
use Rattle.book.specs.Decode.{scopes_of}
use Rattle.book.specs.References.{scope_at}
use Rattle.book.specs.Judge.{judge}
use Rattle.book.specs.declared.Variable.{Variable}
use Rattle.answers.specs.Numbers.{cause_number}
use Rattle.answers.specs.declared.Side.TheVariants.{Above, Below}
use Rattle.answers.specs.declared.Cause.{Cause}
use Rattle.answers.specs.declared.Cause.TheVariants.{OutOfRange}
use Rattle.answers.specs.declared.Answer.TheVariants.{Values}
use Rattle.acceptance.proofs.Limits.{accepted_within}
use Rattle.lists.specs.Inputs.{good, inputs}
use Rattle.lists.specs.Results.{result_length, results}
use Rattle.evaluation.specs.Handing.{falls_back}
use Rattle.evaluation.specs.Run.{Entered, values, ended, run_scope}
use Rattle.evaluation.specs.Evaluate.{Reply, reply_of, evaluate}
use Rattle.evaluation.proofs.Types.{inputs_fitting, values_length}
use Rattle.evaluation.proofs.Cases.{evaluate_run}
use Rattle.tabulation.specs.Chosen.{bad_choice, in_order}
use Rattle.tabulation.specs.Assignments.{assignments, power, row_number, assigned}
use Rattle.tabulation.specs.Giving.{giving}
use Rattle.tabulation.specs.Tabulate.{row_of, row, table}
use Rattle.tabulation.specs.Answers.{Tabulable, Rowed}
use Rattle.tabulation.proofs.Chosen.{order_repeated, order_fit, chosen_count, chosen_few}
use Rattle.tabulation.proofs.Assignments.{assignments_count, assignment_at, assignment_length, row_number_below}
use Rattle.tabulation.proofs.Giving.{assigned_inputs}
use Rattle.tabulation.proofs.Widths.{results_narrow, rows_most}
use Rattle.calculus.specs.declared.Value.{Value}

-- The row of a reply

end_row : (size : ℕ) (cause : Cause) (count : ℕ) → row_of size (reply_of (ended cause count)) ≡ cause_number cause ∷ replicate size 0
unfolding row_of
end_row size cause count = let all : size - 0 ≡ size = omega arith in ap (λ (k : ℕ). cause_number cause ∷ replicate k 0) all

-- "On the sheet, byte 3 is above and 4 below"
pub above_row : (size count : ℕ) → row_of size (reply_of (ended (OutOfRange Above) count)) ≡ 3 ∷ replicate size 0
above_row size count = end_row size (OutOfRange Above) count

pub below_row : (size count : ℕ) → row_of size (reply_of (ended (OutOfRange Below) count)) ≡ 4 ∷ replicate size 0
below_row size count = end_row size (OutOfRange Below) count

row_empty : (size : ℕ) (cause : Cause) (count : ℕ) → Rowed size (reply_of (ended cause count)) (row_of size (reply_of (ended cause count)))
row_empty size cause count = subst (Rowed size (reply_of (ended cause count))) (sym (end_row size cause count)) (Rowed.in_end cause count)

row_full : (size count : ℕ) (written : List ℕ) → length written ≡ size
    → Rowed size (record { answer = Ok (Values count (length written)); written = written })
    (row_of size (record { answer = Ok (Values count (length written)); written = written }))
unfolding row_of
row_full size count written e =
    let none : size - size ≡ 0 = omega arith in
    rw (e, none, append-nil written) (Rowed.in_values count written e)

rowed_length : {size : ℕ} {reply : Reply} {bytes : List ℕ} → Rowed size reply bytes → length bytes ≡ suc size
rowed_length (Rowed.in_values count written e) = ap suc e
rowed_length {size} (Rowed.in_end cause count) = ap suc (length-replicate {A = ℕ} size 0)

-- a scope of an accepted book, a good fixed list, and chosen variables that are not refused
module _ (bytes : List ℕ) (n i : ℕ) (ok : judge bytes ≡ Ok n) (here : i < n) where
  abbrev variables : List Variable
  variables = (scope_at (scopes_of bytes) i).variables

  module _ (chosen fixed : List ℕ) (gs : List (Option Value)) (read : inputs variables fixed ≡ good gs) (fit : bad_choice variables gs chosen ≡ false) where
    module _ (a : List Bool) (long : length a ≡ length (in_order chosen variables)) where
      row_inputs : inputs variables (fixed ++ assigned (in_order chosen variables) a) ≡ good (giving gs (in_order chosen variables) a)
      row_inputs = assigned_inputs variables fixed gs (in_order chosen variables) a read (order_repeated chosen variables) (order_fit variables gs chosen fit) long

      pub row_evaluated : evaluate bytes i (fixed ++ assigned (in_order chosen variables) a) (result_length variables)
          ≡ reply_of (run_scope (scopes_of bytes) i (giving gs (in_order chosen variables) a))
      row_evaluated =
          evaluate_run falls_back bytes i (fixed ++ assigned (in_order chosen variables) a) (result_length variables) n ok here (giving gs (in_order chosen variables) a)
          row_inputs
          (omega arith)

      pub row_run : row bytes i chosen fixed a
          ≡ row_of (result_length variables) (reply_of (run_scope (scopes_of bytes) i (giving gs (in_order chosen variables) a)))
      unfolding row
      row_run = ap (row_of (result_length variables)) row_evaluated

      by_run : (r : Entered) → run_scope (scopes_of bytes) i (giving gs (in_order chosen variables) a) ≡ r
          → Rowed (result_length variables) (reply_of r) (row_of (result_length variables) (reply_of r))
      by_run (values vs c) e =
          let fitting = inputs_fitting variables (fixed ++ assigned (in_order chosen variables) a) (giving gs (in_order chosen variables) a) row_inputs in
          let is = values_length bytes n ok i here (giving gs (in_order chosen variables) a) fitting vs c e in
          row_full (result_length variables) c (results vs) (sym is)
      by_run (ended d c) e = row_empty (result_length variables) d c

      pub row_answers : Rowed (result_length variables) (evaluate bytes i (fixed ++ assigned (in_order chosen variables) a) (result_length variables))
          (row bytes i chosen fixed a)
      unfolding row
      row_answers =
          subst (λ (r : Reply). Rowed (result_length variables) r (row_of (result_length variables) r)) (sym row_evaluated)
          (by_run (run_scope (scopes_of bytes) i (giving gs (in_order chosen variables) a)) refl)

      pub row_length : length (row bytes i chosen fixed a) ≡ suc (result_length variables)
      row_length = rowed_length row_answers

-- Rows of one length

module _ (f : List Bool → List ℕ) (size : ℕ) where
  pub rows_length : (xs : List (List Bool)) → ((j : ℕ) → j < length xs → length (f (get_or xs j [])) ≡ size) → length (gathered f xs) ≡ length xs * size
  unfolding gathered
  rows_length [] h = omega arith
  rows_length (x ∷ xs) h =
      let more = rows_length xs (λ j l. h (suc j) (omega arith)) in
      omega (arith, length-append (f x) (gathered f xs), h 0 (omega arith), suc-mul (length xs) size)

  pub rows_at : (xs : List (List Bool)) → ((j : ℕ) → j < length xs → length (f (get_or xs j [])) ≡ size) → (n : ℕ) → n < length xs
      → take size (drop (n * size) (gathered f xs)) ≡ f (get_or xs n [])
  unfolding gathered
  rows_at [] h n l = absurd (omega arith)
  rows_at (x ∷ xs) h zero l = let z : 0 * size ≡ 0 = omega arith in rw z (take_at (f x) (gathered f xs) size (h 0 (omega arith)))
  rows_at (x ∷ xs) h (suc n) l =
      let here = h 0 (omega arith) in
      let z : suc n * size ≡ length (f x) + n * size = omega (arith, suc-mul n size) in
      rw (z, drop-append-add (f x) (gathered f xs) (n * size)) (rows_at xs (λ j k. h (suc j) (omega arith)) n (omega arith))

-- The table

module _ (bytes : List ℕ) (i : ℕ) (chosen fixed : List ℕ) (c : Tabulable bytes i chosen fixed) where
  abbrev scope_variables : List Variable
  scope_variables = (scope_at (scopes_of bytes) i).variables

  abbrev order : List ℕ
  order = in_order chosen scope_variables

  as_many : length order ≡ length chosen
  as_many = chosen_count scope_variables c.given chosen c.fit

  count : length (assignments (length order)) ≡ power (length chosen)
  count = assignments_count (length order) ∙ ap power as_many

  -- each row has the length of all
  each_long : (j : ℕ) → j < length (assignments (length order))
      → length (row bytes i chosen fixed (get_or (assignments (length order)) j [])) ≡ suc (result_length scope_variables)
  each_long j l =
      row_length bytes c.asked.scopes i c.asked.accepted c.asked.present chosen fixed c.given c.read c.fit
      (get_or (assignments (length order)) j [])
      (assignment_length (length order) j (omega (arith, l, assignments_count (length order))))

  pub table_length_lem : length (table bytes i chosen fixed) ≡ power (length chosen) * suc (result_length scope_variables)
  unfolding table
  table_length_lem =
      rows_length (row bytes i chosen fixed) (suc (result_length scope_variables)) (assignments (length order)) each_long
      ∙ ap (λ (k : ℕ). k * suc (result_length scope_variables)) count

  pub row_at : (n : ℕ) → n < power (length chosen)
      → take (suc (result_length scope_variables)) (drop (n * suc (result_length scope_variables)) (table bytes i chosen fixed))
      ≡ row bytes i chosen fixed (get_or (assignments (length chosen)) n [])
  unfolding table
  row_at n l =
      rows_at (row bytes i chosen fixed) (suc (result_length scope_variables)) (assignments (length order)) each_long n (omega (arith, l, count))
      ∙ ap (λ (k : ℕ). row bytes i chosen fixed (get_or (assignments k) n [])) as_many

  pub choice_row : (a : List Bool) → length a ≡ length chosen
      → take (suc (result_length scope_variables)) (drop (row_number a * suc (result_length scope_variables)) (table bytes i chosen fixed)) ≡ row bytes i chosen fixed a
  choice_row a e =
      row_at (row_number a) (rw (← e) (row_number_below a))
      ∙ ap (λ (k : ℕ). row bytes i chosen fixed (get_or (assignments k) (row_number a) [])) (sym e)
      ∙ ap (row bytes i chosen fixed) (assignment_at a)

  -- it lies in the table, whatever stands behind that
  pub choice_in : (rest : List ℕ) (a : List Bool) → length a ≡ length chosen
      → take (suc (result_length scope_variables)) (drop (row_number a * suc (result_length scope_variables)) (table bytes i chosen fixed ++ rest))
      ≡ row bytes i chosen fixed a
  choice_in rest a e =
      let width = suc (result_length scope_variables) in
      let whole = table bytes i chosen fixed in
      let at = row_number a * width in
      let below : suc (row_number a) ≤ power (length chosen) = rw (← e) (row_number_below a) in
      let inside : suc (row_number a) * width ≤ power (length chosen) * width = mul-le-mul_right width below in
      let end : at + width ≤ length whole = omega (arith, inside, suc-mul (row_number a) width, table_length_lem) in
      ap (take width) (drop-append-le at whole rest (omega (arith, end)))
      ∙ take-append-le width (drop at whole) rest (omega (arith, end, length-drop at whole))
      ∙ choice_row a e

  pub choice_answers : (a : List Bool) → length a ≡ length chosen
      → Rowed (result_length scope_variables) (evaluate bytes i (fixed ++ assigned order a) (result_length scope_variables)) (row bytes i chosen fixed a)
  choice_answers a e =
      row_answers bytes c.asked.scopes i c.asked.accepted c.asked.present chosen fixed c.given c.read c.fit a (e ∙ sym as_many)

  pub table_most : length (table bytes i chosen fixed) ≤ 643072
  table_most =
      let few = (accepted_within bytes c.asked.scopes c.asked.accepted i).variables in
      let dozen = chosen_few scope_variables c.given chosen c.fit in
      let narrow = results_narrow scope_variables c.given chosen c.fit in
      let most = rows_most (12 - length chosen) (length chosen) (suc (result_length scope_variables)) (omega arith) (omega arith) in
      omega (arith, table_length_lem, most)
