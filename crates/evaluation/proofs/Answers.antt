-- What evaluating answers. It is a function of book, scope number, input list and the length of the result memory: nothing else decides.
--     replied                 the cases of an answer
--     evaluated_values        of values: the results have the length known before the run, fit the memory and are written from its first byte
--     evaluated_end           of an end: at least one scope was entered, and not one byte is written
--     evaluated_refused       of a refusal: not one byte is written
--     evaluated_unchanged     of anything but values: not one byte is written
--     evaluated_size          the memory keeps its length
--     evaluated_length        the length in the answer is that of the bytes written
--     evaluated_count_lem         the count is 4,096 at most
--     evaluated_short         the length is 192 at most
-- Assumes nothing.
use Prim.Native.Nat.{ℕ, ◌≤◌, ◌+◌, ◌-◌}
use mathlib.Core.Path.{◌≡◌, refl, sym, ap, subst, ◌∙◌}
use mathlib.Core.Bool.{Bool, true, false, false≢true}
use mathlib.Core.List.{List, ◌++◌}
use mathlib.Core.Logic.{⊎_elim}
use native.Mathlib.Omega.{arith}
use lib.ListN.{length, drop, length-append, length-drop}
use lib.Dec.{ltb, leb}
use borrow.Author.Tests.{ltb-true, ltb-false, leb-true, leb-false}
use Rattle.std.specs.Prelude.{Result, ℕ, Ok, Err}
use Rattle.answers.specs.Response.{on_judged, memory_after}
use Rattle.answers.specs.declared.Cause.{Cause}
use Rattle.answers.specs.declared.Cause.TheVariants.{Empty}
use Rattle.laws.proofs.Booleans.{decide}
use Rattle.book.specs.Decode.{scopes_of}
use Rattle.book.specs.References.{scope_at}
use Rattle.book.specs.Judge.{judge}
use Rattle.lists.specs.Inputs.{Inputs, bad, good, inputs}
use Rattle.lists.specs.Results.{result_length, results}
use Rattle.lists.proofs.Lengths.{length_most}
use Rattle.acceptance.proofs.Acceptance.{accepted_count}
use Rattle.acceptance.proofs.Orders.{accepted_book}
use Rattle.evaluation.specs.Run.{Entered, values, ended, run_scope}
use Rattle.evaluation.specs.Evaluate.{count_in, length_in, Reply, refuse, reply_of, on_inputs, asked_by, asked, evaluate_by, evaluate}
use Rattle.evaluation.specs.Answers.{Asked, Entering, Replied, InValues, InEnd}
use Rattle.answers.specs.declared.Refusal.{Refusal}
use Rattle.answers.specs.declared.Answer.{Answer}
use Rattle.answers.specs.declared.Answer.TheVariants.{Values, Ended}
use Rattle.evaluation.proofs.Running.{count_of}
use Rattle.evaluation.proofs.Counts.{values_count, ended_count, entered_small}
use Rattle.evaluation.proofs.Types.{inputs_fitting, values_typed, values_length}
use Rattle.answers.specs.declared.Fault.{Fault}

module _ (bytes : List ℕ) (i : ℕ) (list : List ℕ) (room : ℕ) where
  on_entered_lem : (e : Entering bytes i list room) (r : Entered) → run_scope (scopes_of bytes) i e.given ≡ r
      → Replied bytes i list room (reply_of r)
  on_entered_lem e (values vs c) h = Replied.finished e vs c h
  on_entered_lem e (ended d c) h = Replied.stopped e d c h

  on_inputs_lem : Asked bytes i → (r : Inputs) → inputs (scope_at (scopes_of bytes) i).variables list ≡ r
      → Replied bytes i list room (on_inputs r room (scopes_of bytes) i)
  on_inputs_lem a bad h = Replied.malformed a h
  on_inputs_lem a (good given) h =
      let variables = (scope_at (scopes_of bytes) i).variables in
      ⊎_elim
      (λ (q : leb (result_length variables) room ≡ true).
      let e : Entering bytes i list room =
      record {
        asked = a;
        given = given;
        read = h;
        fitting = inputs_fitting variables list given h;
        enough = leb-true (result_length variables) room q;
      } in
      rw q (on_entered_lem e (run_scope (scopes_of bytes) i given) refl))
      (λ (q : leb (result_length variables) room ≡ false). rw q (Replied.short a given h (leb-false (result_length variables) room q)))
      (decide (leb (result_length variables) room))

  on_asked : (n : ℕ) → judge bytes ≡ Ok n → Replied bytes i list room (asked (scopes_of bytes) i list room)
  unfolding asked_by
  on_asked n h =
      let book = scopes_of bytes in
      let count : n ≡ length book = accepted_count bytes n h in
      ⊎_elim
      (λ (q : ltb i (length book) ≡ true).
      let a : Asked bytes i = record { scopes = n; accepted = h; present = omega (arith, ltb-true i (length book) q, count) } in
      rw q (on_inputs_lem a (inputs (scope_at book i).variables list) refl))
      (λ (q : ltb i (length book) ≡ false). rw q (Replied.absent n h (omega (arith, ltb-false i (length book) q, count))))
      (decide (ltb i (length book)))

  on_judged_lem : (j : Result ℕ Fault) → judge bytes ≡ j → Replied bytes i list room (on_judged refuse j (asked (scopes_of bytes) i list room))
  on_judged_lem (Ok n) h = on_asked n h
  on_judged_lem (Err f) h = Replied.faulty f h

  pub replied : Replied bytes i list room (evaluate bytes i list room)
  unfolding evaluate_by
  replied = on_judged_lem (judge bytes) refl

-- Parts of an answer

abbrev pub is_values : Result Answer Refusal → Bool
is_values (Ok (Values c n)) = true
is_values (Ok (Ended d c)) = false
is_values (Err r) = false

abbrev pub is_end : Result Answer Refusal → Bool
is_end (Ok (Values c n)) = false
is_end (Ok (Ended d c)) = true
is_end (Err r) = false

abbrev pub cause_in : Result Answer Refusal → Cause
cause_in (Ok (Values c n)) = Empty
cause_in (Ok (Ended d c)) = d
cause_in (Err r) = Empty

sum_size : (a n b m : ℕ) → a ≡ n → n ≤ m → b ≡ m - n → a + b ≡ m
sum_size a n b m p q r = omega arith

module _ (bytes : List ℕ) (i : ℕ) (list memory : List ℕ) where
  in_values_lem : (c n : ℕ) (r : Reply) → Replied bytes i list (length memory) r → r.answer ≡ Ok (Values c n)
      → InValues bytes i list memory c n (memory_after r memory)
  unfolding memory_after
  in_values_lem c n r (Replied.faulty f h) e = absurd (false≢true (ap is_values e))
  in_values_lem c n r (Replied.absent m h l) e = absurd (false≢true (ap is_values e))
  in_values_lem c n r (Replied.malformed a h) e = absurd (false≢true (ap is_values e))
  in_values_lem c n r (Replied.short a g h l) e = absurd (false≢true (ap is_values e))
  in_values_lem c n r (Replied.stopped a d k h) e = absurd (false≢true (ap is_values e))
  in_values_lem c n r (Replied.finished a vs k h) e =
      let count : k ≡ c = ap count_in e in
      let size : length (results vs) ≡ n = ap length_in e in
      let run : run_scope (scopes_of bytes) i a.given ≡ values vs c = h ∙ ap (values vs) count in
      let is = values_length bytes a.asked.scopes a.asked.accepted i a.asked.present a.given a.fitting vs c run in
      record {
        entering = a;
        finals = vs;
        run = run;
        typed = values_typed bytes a.asked.scopes a.asked.accepted i a.asked.present a.given a.fitting vs c run;
        weighs = values_count bytes a.asked.scopes a.asked.accepted i a.asked.present a.given vs c run;
        long = sym (is ∙ size);
        fits = omega (arith, a.enough, is, size);
        whole = size;
        written = ap (λ (k : ℕ). results vs ++ drop k memory) size;
      }

  in_end_lem : (d : Cause) (c : ℕ) (r : Reply) → Replied bytes i list (length memory) r → r.answer ≡ Ok (Ended d c)
      → InEnd bytes i list memory d c (memory_after r memory)
  unfolding memory_after
  in_end_lem d c r (Replied.faulty f h) e = absurd (false≢true (ap is_end e))
  in_end_lem d c r (Replied.absent m h l) e = absurd (false≢true (ap is_end e))
  in_end_lem d c r (Replied.malformed a h) e = absurd (false≢true (ap is_end e))
  in_end_lem d c r (Replied.short a g h l) e = absurd (false≢true (ap is_end e))
  in_end_lem d c r (Replied.finished a vs k h) e = absurd (false≢true (ap is_end e))
  in_end_lem d c r (Replied.stopped a b k h) e =
      let run : run_scope (scopes_of bytes) i a.given ≡ ended d c =
      h ∙ ap (λ (t : Cause). ended t k) (ap cause_in e) ∙ ap (ended d) (ap count_in e) in
      let counts = ended_count bytes a.asked.scopes a.asked.accepted i a.asked.present a.given d c run in
      record { entering = a; run = run; some = counts.0; most = counts.1; unchanged = refl }

  nothing_written : (r : Reply) → Replied bytes i list (length memory) r → is_values r.answer ≡ false → memory_after r memory ≡ memory
  unfolding memory_after
  nothing_written r (Replied.faulty f h) e = refl
  nothing_written r (Replied.absent m h l) e = refl
  nothing_written r (Replied.malformed a h) e = refl
  nothing_written r (Replied.short a g h l) e = refl
  nothing_written r (Replied.stopped a d k h) e = refl
  nothing_written r (Replied.finished a vs k h) e = absurd (false≢true (sym e))

  pub evaluated_values : (count size : ℕ) → (evaluate bytes i list (length memory)).answer ≡ Ok (Values count size)
      → InValues bytes i list memory count size (memory_after (evaluate bytes i list (length memory)) memory)
  evaluated_values c n = in_values_lem c n (evaluate bytes i list (length memory)) (replied bytes i list (length memory))

  pub evaluated_end : (cause : Cause) (count : ℕ) → (evaluate bytes i list (length memory)).answer ≡ Ok (Ended cause count)
      → InEnd bytes i list memory cause count (memory_after (evaluate bytes i list (length memory)) memory)
  evaluated_end d c = in_end_lem d c (evaluate bytes i list (length memory)) (replied bytes i list (length memory))

  pub evaluated_refused : (r : Refusal) → (evaluate bytes i list (length memory)).answer ≡ Err r
      → memory_after (evaluate bytes i list (length memory)) memory ≡ memory
  evaluated_refused r e = nothing_written (evaluate bytes i list (length memory)) (replied bytes i list (length memory)) (ap is_values e)

  pub evaluated_unchanged : ((count size : ℕ) → (evaluate bytes i list (length memory)).answer ≡ Ok (Values count size) → ⊥)
      → memory_after (evaluate bytes i list (length memory)) memory ≡ memory
  evaluated_unchanged other =
      nothing_written (evaluate bytes i list (length memory)) (replied bytes i list (length memory))
      (not_values (evaluate bytes i list (length memory)).answer other)
    where
      not_values : (a : Result Answer Refusal) → ((count size : ℕ) → a ≡ Ok (Values count size) → ⊥) → is_values a ≡ false
      not_values (Ok (Values c n)) h = absurd (h c n refl)
      not_values (Ok (Ended d c)) h = refl
      not_values (Err r) h = refl

  pub evaluated_size : length (memory_after (evaluate bytes i list (length memory)) memory) ≡ length memory
  evaluated_size = by_answer (evaluate bytes i list (length memory)).answer refl
    where
      by_answer : (a : Result Answer Refusal) → (evaluate bytes i list (length memory)).answer ≡ a
          → length (memory_after (evaluate bytes i list (length memory)) memory) ≡ length memory
      by_answer (Ok (Values c n)) e =
          let v = evaluated_values c n e in
          let bs = results v.finals in
          ap length v.written
          ∙ length-append bs (drop n memory)
          ∙ sum_size (length bs) n (length (drop n memory)) (length memory) v.whole v.fits (length-drop n memory)
      by_answer (Ok (Ended d c)) e = ap length (evaluated_end d c e).unchanged
      by_answer (Err r) e = ap length (evaluated_refused r e)

  written_length : (r : Reply) → Replied bytes i list (length memory) r → length_in r.answer ≡ length r.written
  written_length r (Replied.faulty f h) = refl
  written_length r (Replied.absent m h l) = refl
  written_length r (Replied.malformed a h) = refl
  written_length r (Replied.short a g h l) = refl
  written_length r (Replied.stopped a d k h) = refl
  written_length r (Replied.finished a vs k h) = refl

  pub evaluated_length : length_in (evaluate bytes i list (length memory)).answer ≡ length (evaluate bytes i list (length memory)).written
  evaluated_length = written_length (evaluate bytes i list (length memory)) (replied bytes i list (length memory))

  small_count : (r : Reply) → Replied bytes i list (length memory) r → count_in r.answer ≤ 4096
  small_count r (Replied.faulty f h) = omega arith
  small_count r (Replied.absent m h l) = omega arith
  small_count r (Replied.malformed a h) = omega arith
  small_count r (Replied.short a g h l) = omega arith
  small_count r (Replied.stopped a d k h) =
      subst (λ (t : Entered). count_of t ≤ 4096) h (entered_small bytes a.asked.scopes a.asked.accepted i a.asked.present a.given)
  small_count r (Replied.finished a vs k h) =
      subst (λ (t : Entered). count_of t ≤ 4096) h (entered_small bytes a.asked.scopes a.asked.accepted i a.asked.present a.given)

  pub evaluated_count_lem : count_in (evaluate bytes i list (length memory)).answer ≤ 4096
  evaluated_count_lem = small_count (evaluate bytes i list (length memory)) (replied bytes i list (length memory))

  small_length : (r : Reply) → Replied bytes i list (length memory) r → length_in r.answer ≤ 192
  small_length r (Replied.faulty f h) = omega arith
  small_length r (Replied.absent m h l) = omega arith
  small_length r (Replied.malformed a h) = omega arith
  small_length r (Replied.short a g h l) = omega arith
  small_length r (Replied.stopped a d k h) = omega arith
  small_length r (Replied.finished a vs k h) =
      let is = values_length bytes a.asked.scopes a.asked.accepted i a.asked.present a.given a.fitting vs k h in
      let few = ((accepted_book bytes a.asked.scopes a.asked.accepted).within i).variables in
      omega (arith, is, few, length_most (scope_at (scopes_of bytes) i).variables)

  pub evaluated_short : length_in (evaluate bytes i list (length memory)).answer ≤ 192
  evaluated_short = small_length (evaluate bytes i list (length memory)) (replied bytes i list (length memory))
