-- What tabulating answers. It is a function of book, scope number, chosen variables, fixed input list and the length of the memory lent: nothing
-- else decides.
--     tabulated_replied      the cases of an answer
--     tabulated_table        of a length: it is that of 2^k rows and fits the memory; the table is written from the first byte
--     tabulated_choice       of a length: each assignment's row, which holds evaluation's answer
--     tabulated_refused      of a refusal: not one byte is written
--     tabulated_unchanged    of anything but a length: not one byte is written
--     tabulated_size         the memory keeps its length
--     tabulated_length       the length in the answer is that of the bytes written
--     tabulated_most         and is 643,072 at most
-- Assumes nothing.
use Prim.Native.Nat.{ℕ, suc, ◌*◌, ◌≤◌}
use mathlib.Core.Path.{◌≡◌, refl, sym, ap, ◌∙◌}
use mathlib.Core.Bool.{Bool, true, false, false≢true}
use mathlib.Core.List.{List, ◌++◌}
use mathlib.Core.Logic.{⊎_elim}
use native.Mathlib.Omega.{arith}
use lib.ListN.{length, take, drop}
use lib.Dec.{ltb}
use borrow.Author.Tests.{ltb-true, ltb-false}
use Rattle.std.specs.Prelude.{Result, ℕ, Ok, Err}
use Rattle.laws.proofs.Booleans.{decide}
use Rattle.book.specs.Decode.{scopes_of}
use Rattle.book.specs.References.{scope_at}
use Rattle.book.specs.Judge.{judge}
use Rattle.book.specs.declared.Variable.{Variable}
use Rattle.answers.specs.Response.{on_judged, memory_after}
use Rattle.answers.specs.Numbers.{produced_numbers}
use Rattle.answers.specs.Production.{Production, refuse, fitting}
use Rattle.answers.specs.declared.Refusal.{Refusal}
use Rattle.answers.specs.declared.Refusal.TheVariants.{Book, NoSuchScope, BadInput, BufferTooSmall, BadChoice}
use Rattle.answers.proofs.Within.{Within, is_written, fitting_cases, within_refused, within_unchanged, within_size, within_length}
use Rattle.acceptance.proofs.Acceptance.{accepted_count}
use Rattle.lists.specs.Inputs.{Inputs, bad, good, inputs}
use Rattle.lists.specs.Results.{result_length}
use Rattle.evaluation.specs.Answers.{Asked}
use Rattle.evaluation.specs.Evaluate.{evaluate}
use Rattle.tabulation.specs.Chosen.{bad_choice, in_order}
use Rattle.tabulation.specs.Assignments.{row_number, assigned}
use Rattle.tabulation.specs.Tabulate.{table, on_inputs, asked, tabulate}
use Rattle.tabulation.specs.Answers.{Tabulable, Rowed, Replied, InTable}
use Rattle.tabulation.proofs.Rows.{table_length_lem, choice_in, choice_answers, table_most}
use Rattle.answers.specs.declared.Fault.{Fault}

-- The cases

module _ (bytes : List ℕ) (i : ℕ) (chosen fixed : List ℕ) (room : ℕ) where
  on_fitting : Tabulable bytes i chosen fixed → Replied bytes i chosen fixed room (fitting (table bytes i chosen fixed) room)
  on_fitting c =
      let long = table_length_lem bytes i chosen fixed c in
      fitting_cases (Replied bytes i chosen fixed room) (table bytes i chosen fixed) room
      (λ l. rw long (Replied.whole c (omega (arith, l, long))))
      (λ l. Replied.short c (omega (arith, l, long)))

  on_inputs_lem : Asked bytes i → (r : Inputs) → inputs (scope_at (scopes_of bytes) i).variables fixed ≡ r
      → Replied bytes i chosen fixed room (on_inputs r (scope_at (scopes_of bytes) i).variables chosen (fitting (table bytes i chosen fixed) room))
  on_inputs_lem a bad h = Replied.malformed a h
  on_inputs_lem a (good given) h =
      let variables = (scope_at (scopes_of bytes) i).variables in
      ⊎_elim
      (λ (q : bad_choice variables given chosen ≡ true). rw q (Replied.unfit a given h q))
      (λ (q : bad_choice variables given chosen ≡ false). rw q (on_fitting (record { asked = a; given = given; read = h; fit = q })))
      (decide (bad_choice variables given chosen))

  on_asked : (n : ℕ) → judge bytes ≡ Ok n → Replied bytes i chosen fixed room (asked bytes i chosen fixed room)
  unfolding asked
  on_asked n h =
      let book = scopes_of bytes in
      let count : n ≡ length book = accepted_count bytes n h in
      ⊎_elim
      (λ (q : ltb i (length book) ≡ true).
      let a : Asked bytes i = record { scopes = n; accepted = h; present = omega (arith, ltb-true i (length book) q, count) } in
      rw q (on_inputs_lem a (inputs (scope_at book i).variables fixed) refl))
      (λ (q : ltb i (length book) ≡ false). rw q (Replied.absent n h (omega (arith, ltb-false i (length book) q, count))))
      (decide (ltb i (length book)))

  on_judged_lem : (j : Result ℕ Fault) → judge bytes ≡ j → Replied bytes i chosen fixed room (on_judged refuse j (asked bytes i chosen fixed room))
  on_judged_lem (Ok n) h = on_asked n h
  on_judged_lem (Err f) h = Replied.faulty f h

  pub tabulated_replied : Replied bytes i chosen fixed room (tabulate bytes i chosen fixed room)
  unfolding tabulate
  tabulated_replied = on_judged_lem (judge bytes) refl

-- What holds in each

module _ (bytes : List ℕ) (i : ℕ) (chosen fixed : List ℕ) (room : ℕ) where
  within : (p : Production) → Replied bytes i chosen fixed room p → Within room p
  within p (Replied.faulty f h) = Within.refused (Book f)
  within p (Replied.absent n h l) = Within.refused NoSuchScope
  within p (Replied.malformed a h) = Within.refused BadInput
  within p (Replied.unfit a given h q) = Within.refused BadChoice
  within p (Replied.short c l) = Within.refused BufferTooSmall
  within p (Replied.whole c l) =
      let long = table_length_lem bytes i chosen fixed c in
      rw (← long) (Within.whole (table bytes i chosen fixed) (omega (arith, l, long)))

  tabulated_within : Within room (tabulate bytes i chosen fixed room)
  tabulated_within = within (tabulate bytes i chosen fixed room) (tabulated_replied bytes i chosen fixed room)

  pub tabulated_length : (produced_numbers (tabulate bytes i chosen fixed room).answer).length ≡ length (tabulate bytes i chosen fixed room).written
  tabulated_length = within_length tabulated_within

  most : (p : Production) → Replied bytes i chosen fixed room p → (produced_numbers p.answer).length ≤ 643072
  most p (Replied.faulty f h) = omega arith
  most p (Replied.absent n h l) = omega arith
  most p (Replied.malformed a h) = omega arith
  most p (Replied.unfit a given h q) = omega arith
  most p (Replied.short c l) = omega arith
  most p (Replied.whole c l) = omega (arith, table_length_lem bytes i chosen fixed c, table_most bytes i chosen fixed c)

  pub tabulated_most : (produced_numbers (tabulate bytes i chosen fixed room).answer).length ≤ 643072
  tabulated_most = most (tabulate bytes i chosen fixed room) (tabulated_replied bytes i chosen fixed room)

module _ (bytes : List ℕ) (i : ℕ) (chosen fixed memory : List ℕ) where
  abbrev reply : Production
  reply = tabulate bytes i chosen fixed (length memory)

  abbrev variables : List Variable
  variables = (scope_at (scopes_of bytes) i).variables

  pub tabulated_refused : (r : Refusal) → reply.answer ≡ Err r → memory_after reply memory ≡ memory
  tabulated_refused r e = within_refused (tabulated_within bytes i chosen fixed (length memory)) r e memory

  pub tabulated_unchanged : ((size : ℕ) → reply.answer ≡ Ok size → ⊥) → memory_after reply memory ≡ memory
  tabulated_unchanged other = within_unchanged (tabulated_within bytes i chosen fixed (length memory)) other memory

  pub tabulated_size : length (memory_after reply memory) ≡ length memory
  tabulated_size = within_size memory (tabulated_within bytes i chosen fixed (length memory))

  in_table : (size : ℕ) (p : Production) → Replied bytes i chosen fixed (length memory) p → p.answer ≡ Ok size
      → InTable bytes i chosen fixed memory size (memory_after p memory)
  unfolding memory_after
  in_table size p (Replied.faulty f h) e = absurd (false≢true (ap is_written e))
  in_table size p (Replied.absent n h l) e = absurd (false≢true (ap is_written e))
  in_table size p (Replied.malformed a h) e = absurd (false≢true (ap is_written e))
  in_table size p (Replied.unfit a given h q) e = absurd (false≢true (ap is_written e))
  in_table size p (Replied.short c l) e = absurd (false≢true (ap is_written e))
  in_table size p (Replied.whole c l) e =
      let long = ap (λ (r : Result ℕ Refusal). (produced_numbers r).length) e in
      let whole : length (table bytes i chosen fixed) ≡ size = table_length_lem bytes i chosen fixed c ∙ long in
      record {
        choosing = c;
        whole = whole;
        long = sym long;
        fits = omega (arith, l, long);
        written = ap (λ (k : ℕ). table bytes i chosen fixed ++ drop k memory) whole;
      }

  pub tabulated_table : (size : ℕ) → reply.answer ≡ Ok size → InTable bytes i chosen fixed memory size (memory_after reply memory)
  tabulated_table size = in_table size reply (tabulated_replied bytes i chosen fixed (length memory))

  -- "Every choice is there once, with evaluation's answer": the row of an assignment, in the memory afterwards
  pub tabulated_choice : (size : ℕ) → reply.answer ≡ Ok size → (a : List Bool) → length a ≡ length chosen
      → Rowed (result_length variables) (evaluate bytes i (fixed ++ assigned (in_order chosen variables) a) (result_length variables))
      (take (suc (result_length variables)) (drop (row_number a * suc (result_length variables)) (memory_after reply memory)))
  tabulated_choice size e a long =
      let t = tabulated_table size e in
      rw (t.written, choice_in bytes i chosen fixed t.choosing (drop size memory) a long) (choice_answers bytes i chosen fixed t.choosing a long)
