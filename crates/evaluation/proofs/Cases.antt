-- What evaluating replies, by the tests that it makes.
--     evaluate_faulty, evaluate_absent, evaluate_malformed, evaluate_short    1 to 12, 13, 14, 15
--     evaluate_run    a good list and enough room: what the run comes to
-- Assumes nothing.
use Prim.Native.Nat.{ℕ, ◌<◌, ◌≤◌}
use mathlib.Core.Path.{◌≡◌, ap, ◌∙◌}
use mathlib.Core.List.{List}
use native.Mathlib.Omega.{arith}
use lib.ListN.{length}
use borrow.Author.Tests.{lt-ltb, le-ltb, le-leb, lt-leb}
use Rattle.std.specs.Prelude.{Result, Option, ℕ, Ok, Err}
use Rattle.book.specs.Decode.{scopes_of}
use Rattle.book.specs.References.{scope_at}
use Rattle.book.specs.Judge.{judge}
use Rattle.book.specs.declared.Variable.{Variable}
use Rattle.answers.specs.Response.{on_judged}
use Rattle.answers.specs.declared.Fault.{Fault}
use Rattle.answers.specs.declared.Refusal.TheVariants.{Book, NoSuchScope, BadInput, BufferTooSmall}
use Rattle.acceptance.proofs.Acceptance.{accepted_count}
use Rattle.lists.specs.Inputs.{bad, good, inputs}
use Rattle.lists.specs.Results.{result_length}
use Rattle.evaluation.specs.Handing.{Handed}
use Rattle.evaluation.specs.Run.{run_scope_by}
use Rattle.evaluation.specs.Evaluate.{reply_of, refuse, asked_by, evaluate_by}
use Rattle.answers.specs.declared.Cause.{Cause}
use Rattle.calculus.specs.declared.Value.{Value}

-- `by`: what the outcome of an override tree hands over
module _ (by : Result Value Cause → Handed) (bytes : List ℕ) (i : ℕ) (list : List ℕ) (room : ℕ) where
  judged_so : (j : Result ℕ Fault) → judge bytes ≡ j → evaluate_by by bytes i list room ≡ on_judged refuse j (asked_by by (scopes_of bytes) i list room)
  unfolding evaluate_by
  judged_so j e = ap (λ (k : Result ℕ Fault). on_judged refuse k (asked_by by (scopes_of bytes) i list room)) e

  pub evaluate_faulty : (f : Fault) → judge bytes ≡ Err f → evaluate_by by bytes i list room ≡ refuse (Book f)
  evaluate_faulty f e = judged_so (Err f) e

  module _ (n : ℕ) (ok : judge bytes ≡ Ok n) where
    abbrev variables : List Variable
    variables = (scope_at (scopes_of bytes) i).variables

    is_asked : evaluate_by by bytes i list room ≡ asked_by by (scopes_of bytes) i list room
    is_asked = judged_so (Ok n) ok

    count : n ≡ length (scopes_of bytes)
    count = accepted_count bytes n ok

    pub evaluate_absent : n ≤ i → evaluate_by by bytes i list room ≡ refuse NoSuchScope
    unfolding asked_by
    evaluate_absent l = is_asked ∙ rw (le-ltb i (length (scopes_of bytes)) (omega (arith, count)))

    module _ (here : i < n) where
      pub evaluate_malformed : inputs variables list ≡ bad → evaluate_by by bytes i list room ≡ refuse BadInput
      unfolding asked_by
      evaluate_malformed read = is_asked ∙ rw (lt-ltb i (length (scopes_of bytes)) (omega (arith, count)), read)

      module _ (gs : List (Option Value)) (read : inputs variables list ≡ good gs) where
        pub evaluate_short : room < result_length variables → evaluate_by by bytes i list room ≡ refuse BufferTooSmall
        unfolding asked_by
        evaluate_short l = is_asked ∙ rw (lt-ltb i (length (scopes_of bytes)) (omega (arith, count)), read, lt-leb (result_length variables) room l)

        pub evaluate_run : result_length variables ≤ room → evaluate_by by bytes i list room ≡ reply_of (run_scope_by by (scopes_of bytes) i gs)
        unfolding asked_by
        evaluate_run l = is_asked ∙ rw (lt-ltb i (length (scopes_of bytes)) (omega (arith, count)), read, le-leb (result_length variables) room l)
