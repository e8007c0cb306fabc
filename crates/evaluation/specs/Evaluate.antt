-- The service: what evaluating answers, and which bytes it writes.
use Rattle.std.specs.Prelude.{ℕ, cond, List, [], length, ltb, leb, Result, Ok, Err}
use Rattle.book.specs.Syntax.{Scope}
use Rattle.book.specs.References.{scope_at}
use Rattle.book.specs.Decode.{scopes_of}
use Rattle.book.specs.Judge.{judge}
use Rattle.lists.specs.Inputs.{Inputs, bad, good, inputs}
use Rattle.lists.specs.Results.{result_length, results}
use Rattle.evaluation.specs.Handing.{Handed, falls_back}
use Rattle.evaluation.specs.Run.{Entered, values, ended, run_scope_by}
use Rattle.answers.specs.Response.{Response, on_judged}
use Rattle.answers.specs.Numbers.{answer_numbers}
use Rattle.answers.specs.declared.Refusal.{Refusal}
use Rattle.answers.specs.declared.Refusal.TheVariants.{NoSuchScope, BadInput, BufferTooSmall}
use Rattle.answers.specs.declared.Answer.{Answer}
use Rattle.answers.specs.declared.Answer.TheVariants.{Values, Ended}
use Rattle.answers.specs.declared.Cause.{Cause}
use Rattle.calculus.specs.declared.Value.{Value}

-- the count in an answer
abbrev pub count_in : Result Answer Refusal → ℕ
count_in a = (answer_numbers a).count

-- "the length of the results (0 without values)"
abbrev pub length_in : Result Answer Refusal → ℕ
length_in a = (answer_numbers a).length

-- the answer of an evaluation or a run, and the bytes that it writes
abbrev pub Reply : Type 0
Reply = Response (Result Answer Refusal)

abbrev pub refuse : Refusal → Reply
refuse r = record { answer = Err r; written = [] }

-- "an evaluation or a run its outcome, its count and the length of the results (0 without values)"
abbrev pub reply_of : Entered → Reply
reply_of (values vs n) = record { answer = Ok (Values n (length (results vs))); written = results vs }
reply_of (ended c n) = record { answer = Ok (Ended c n); written = [] }

-- 15, the paper's "short can": "code or result longer than the memory lent"
abbrev pub fitting : ℕ → Scope → Reply → Reply
fitting room s r = cond (leb (result_length s.variables) room) r (refuse BufferTooSmall)

-- `by`: what the outcome of an override tree hands over
module _ (by : Result Value Cause → Handed) where
  -- 14, the paper's "bad slip"
  abbrev pub on_inputs_by : Inputs → ℕ → List Scope → ℕ → Reply
  on_inputs_by bad room book i = refuse BadInput
  on_inputs_by (good given) room book i = fitting room (scope_at book i) (reply_of (run_scope_by by book i given))

  -- "then 13, 14, 15"; 13: "scope asked for is absent"
  unfoldable pub asked_by : List Scope → ℕ → List ℕ → ℕ → Reply
  asked_by book i bytes room =
      cond (ltb i (length book)) (on_inputs_by (inputs (scope_at book i).variables bytes) room book i) (refuse NoSuchScope)

  -- evaluating scope i of a book with an input list, for a result memory of this length
  unfoldable pub evaluate_by : List ℕ → ℕ → List ℕ → ℕ → Reply
  evaluate_by book i bytes room = on_judged refuse (judge book) (asked_by (scopes_of book) i bytes room)

-- The meaning: an empty override falls back

abbrev pub on_inputs : Inputs → ℕ → List Scope → ℕ → Reply
on_inputs = on_inputs_by falls_back

abbrev pub asked : List Scope → ℕ → List ℕ → ℕ → Reply
asked = asked_by falls_back

abbrev pub evaluate : List ℕ → ℕ → List ℕ → ℕ → Reply
evaluate = evaluate_by falls_back
