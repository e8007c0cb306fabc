-- Running the code of an accepted book agrees with evaluating the book.
--     run_agrees          the replies are the same: outcome, number, count and the bytes written
--     run_memory          and so is every byte of the result memory
--     run_count           the count is at most the weight of the scope asked for
--     never_bad_code_lem, never_stuck_lem     no run is refused with 16 or 17
--     agreement           all of it, with the acceptance of the code
-- Assumes nothing.
use Prim.Native.Nat.{ℕ, ◌<◌, ◌≤◌}
use mathlib.Core.Path.{◌≡◌, refl, sym, ap, ◌∙◌}
use mathlib.Core.Bool.{Bool, true, false, false≢true}
use mathlib.Core.List.{List}
use native.Mathlib.Omega.{arith}
use mathlib.Core.Logic.{⊎_elim}
use lib.ListN.{length}
use lib.Dec.{ltb}
use borrow.Author.Tests.{ltb-true}
use Rattle.std.specs.Prelude.{Ok, Result, Err}
use Rattle.laws.proofs.Booleans.{decide}
use Rattle.book.specs.Syntax.{Scope}
use Rattle.book.specs.Decode.{scopes_of}
use Rattle.book.specs.References.{scope_at}
use Rattle.book.specs.Scopes.{weight}
use Rattle.book.specs.Judge.{judge}
use Rattle.answers.specs.Response.{memory_after}
use Rattle.lists.specs.Inputs.{Inputs, bad, good, inputs}
use Rattle.acceptance.proofs.Acceptance.{accepted_count}
use Rattle.evaluation.specs.Evaluate as evaluation
use Rattle.evaluation.specs.Evaluate.{count_in, Reply, evaluate}
use Rattle.evaluation.specs.Answers.{Replied}
use Rattle.answers.specs.declared.Refusal.{Refusal}
use Rattle.answers.specs.declared.Refusal.TheVariants.{Book, NoSuchScope, BadInput, BufferTooSmall, BadCode, Stuck, BadChoice}
use Rattle.answers.specs.declared.Answer.{Answer}
use Rattle.answers.specs.declared.Answer.TheVariants.{Values, Ended}
use Rattle.evaluation.proofs.Counts.{values_count, ended_count}
use Rattle.evaluation.proofs.Types.{inputs_fitting}
use Rattle.evaluation.proofs.Answers.{replied}
use Rattle.translation.specs.Blocks.{code_of}
use Rattle.machine.specs.Service.{on_inputs, asked, run}
use Rattle.agreement.specs.Compiled.{compiled}
use Rattle.agreement.specs.Agreement.{Agreement}
use Rattle.agreement.proofs.Parsing.{blocks_code_lem}
use Rattle.agreement.proofs.Accepting.{code_accepted_lem}
use Rattle.agreement.proofs.Blocks.{code_run, code_variables, code_scopes}

-- the refusals of code: 16 and 17
abbrev refuses_code : Refusal → Bool
refuses_code (Book f) = false
refuses_code NoSuchScope = false
refuses_code BadInput = false
refuses_code BufferTooSmall = false
refuses_code BadCode = true
refuses_code Stuck = true
refuses_code BadChoice = false

abbrev of_code : Result Answer Refusal → Bool
of_code (Ok (Values c l)) = false
of_code (Ok (Ended d c)) = false
of_code (Err r) = refuses_code r

module _ (bytes : List ℕ) (n : ℕ) (accepted : judge bytes ≡ Ok n) where
  abbrev book : List Scope
  book = scopes_of bytes

  module _ (i : ℕ) (list : List ℕ) (room : ℕ) where
    on_inputs_lem : i < n → (x : Inputs) → inputs (scope_at book i).variables list ≡ x
        → on_inputs x room (compiled book) i ≡ evaluation.on_inputs x room book i
    on_inputs_lem l bad e = refl
    on_inputs_lem l (good gs) e =
        let variables = (scope_at book i).variables in
        rw (
          code_variables bytes n accepted i l,
          code_run bytes n accepted i l gs (inputs_fitting variables list gs e),
        )

    on_asked : asked (compiled book) i list room ≡ evaluation.asked book i list room
    unfolding asked evaluation.asked_by
    on_asked =
        let count : n ≡ length book = accepted_count bytes n accepted in
        ⊎_elim
        (λ (q : ltb i n ≡ true).
        rw (code_scopes bytes n accepted i, ← count, q, code_variables bytes n accepted i (ltb-true i n q))
        (on_inputs_lem (ltb-true i n q) (inputs (scope_at book i).variables list) refl))
        (λ (q : ltb i n ≡ false). rw (code_scopes bytes n accepted i, ← count, q))
        (decide (ltb i n))

    pub run_agrees : run (code_of (scopes_of bytes)) i list room ≡ evaluate bytes i list room
    unfolding run evaluation.evaluate_by
    run_agrees = rw (code_accepted_lem bytes n accepted, blocks_code_lem book, accepted) on_asked

    pub run_count : count_in (run (code_of (scopes_of bytes)) i list room).answer ≤ weight (scopes_of bytes) i
    run_count = rw run_agrees (light (evaluate bytes i list room) (replied bytes i list room))
      where
        light : (r : Reply) → Replied bytes i list room r → count_in r.answer ≤ weight book i
        light r (Replied.faulty f h) = omega arith
        light r (Replied.absent m h l) = omega arith
        light r (Replied.malformed a h) = omega arith
        light r (Replied.short a g h l) = omega arith
        light r (Replied.stopped e d c h) = (ended_count bytes e.asked.scopes e.asked.accepted i e.asked.present e.given d c h).1
        light r (Replied.finished e vs c h) =
            omega (arith, values_count bytes e.asked.scopes e.asked.accepted i e.asked.present e.given vs c h)

    -- an evaluation is refused with neither number
    not_of_code : (r : Reply) → Replied bytes i list room r → of_code r.answer ≡ false
    not_of_code r (Replied.faulty f h) = refl
    not_of_code r (Replied.absent m h l) = refl
    not_of_code r (Replied.malformed a h) = refl
    not_of_code r (Replied.short a g h l) = refl
    not_of_code r (Replied.stopped e d c h) = refl
    not_of_code r (Replied.finished e vs c h) = refl

    never : (a : Result Answer Refusal) → of_code a ≡ true → (run (code_of book) i list room).answer ≡ a → ⊥
    never a q e =
        false≢true
        (sym (not_of_code (evaluate bytes i list room) (replied bytes i list room))
        ∙ ap (λ (r : Reply). of_code r.answer) (sym run_agrees)
        ∙ ap of_code e
        ∙ q)

    pub never_bad_code_lem : (run (code_of (scopes_of bytes)) i list room).answer ≡ Err BadCode → ⊥
    never_bad_code_lem = never (Err BadCode) refl

    pub never_stuck_lem : (run (code_of (scopes_of bytes)) i list room).answer ≡ Err Stuck → ⊥
    never_stuck_lem = never (Err Stuck) refl

  pub run_memory : (i : ℕ) (list memory : List ℕ)
      → memory_after (run (code_of (scopes_of bytes)) i list (length memory)) memory ≡ memory_after (evaluate bytes i list (length memory)) memory
  run_memory i list memory = ap (λ (r : Reply). memory_after r memory) (run_agrees i list (length memory))

  pub agreement : Agreement bytes
  agreement =
      record {
        code_accepted = code_accepted_lem bytes n accepted;
        replies = run_agrees;
        memories = run_memory;
        counts = run_count;
        never_bad_code = never_bad_code_lem;
        never_stuck = never_stuck_lem;
      }
