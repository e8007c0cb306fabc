-- The four services agree: from what each ensures, and from the agreement of running with evaluating.
use Prim.Native.Nat.{ℕ, ◌≤◌}
use mathlib.Core.Path.{◌≡◌, sym, ap, ◌∙◌, subst}
use mathlib.Core.List.{List, ◌++◌}
use lib.ListN.{length, take, drop}
use lib.Seq.{take-append_seam, drop-append_seam}
use borrow.Author.Tests.{le-leb}
use Rattle.std.specs.Prelude.{Ok}
use Rattle.book.specs.Decode.{scopes_of}
use Rattle.book.specs.Judge.{judge}
use Rattle.answers.specs.Response.{memory_after}
use Rattle.answers.specs.Numbers.{produced_numbers}
use Rattle.evaluation.specs.Evaluate.{Reply, evaluate}
use Rattle.evaluator.specs.Service.{Evaluated}
use Rattle.translation.specs.Blocks.{code_of}
use Rattle.machine.specs.Service.{run}
use Rattle.agreement.proofs.Agreement.{agreement}
use Rattle.answers.specs.Production.{Production, fitting}
use Rattle.compiler.specs.Compile.{compile, Compiles}
use Rattle.runner.specs.Service.{Runs}
use Rattle.engine.specs.Claim.{Memories, written_code, Agreed, Together}
use Rattle.engine.specs.declared.Answers.{Answers}

module _ (bytes : List ℕ) (n i : ℕ) (list : List ℕ) (m : Memories) (r : Answers) (accepts : judge bytes ≡ Ok n)
    (fits : length (code_of (scopes_of bytes)) ≤ length m.code_before)
    (compiling : Compiles bytes m.code_before r.compiled m.code_after)
    (evaluating : Evaluated bytes i list m.evaluated_before r.evaluated m.evaluated_after)
    (running : Runs (written_code m r) i list m.ran_before r.ran m.ran_after) where
  abbrev code : List ℕ
  code = code_of (scopes_of bytes)

  -- the code fits, so it is what compiling answers
  compiles : compile bytes (length m.code_before) ≡ record { answer = Ok (length code); written = code }
  unfolding compile fitting
  compiles = rw (accepts, le-leb (length code) (length m.code_before) fits)

  answered : r.compiled ≡ Ok (length code)
  answered = compiling.answer ∙ ap (λ (c : Production). c.answer) compiles

  memory : m.code_after ≡ code ++ drop (length code) m.code_before
  unfolding memory_after
  memory = compiling.memory ∙ ap (λ (c : Production). memory_after c m.code_before) compiles

  wrote : written_code m r ≡ code
  wrote = rw (answered, memory) (take-append_seam code (drop (length code) m.code_before))

  -- the run is one of the book's code
  ran : run (written_code m r) i list (length m.ran_before) ≡ run code i list (length m.ran_before)
  ran = ap (λ (c : List ℕ). run c i list (length m.ran_before)) wrote

  ran_answer : r.ran ≡ (run code i list (length m.ran_before)).answer
  ran_answer = running.answer ∙ ap (λ (x : Reply). x.answer) ran

  same : m.ran_before ≡ m.evaluated_before → run (written_code m r) i list (length m.ran_before) ≡ evaluate bytes i list (length m.evaluated_before)
  same e = ran ∙ (agreement bytes n accepts).replies i list (length m.ran_before) ∙ ap (λ (x : List ℕ). evaluate bytes i list (length x)) e

  pub agreed : Agreed bytes (code_of (scopes_of bytes)) i m r
  agreed =
      let a = agreement bytes n accepts in
      record {
        sized = answered;
        written = wrote;
        kept = rw memory (drop-append_seam code (drop (length code) m.code_before));
        accepts = rw wrote a.code_accepted;
        never_bad = λ e. a.never_bad_code i list (length m.ran_before) (sym ran_answer ∙ e);
        never_stuck = λ e. a.never_stuck i list (length m.ran_before) (sym ran_answer ∙ e);
        answers = λ e. running.answer ∙ ap (λ (x : Reply). x.answer) (same e) ∙ sym evaluating.answer;
        memories = λ e.
            running.memory ∙ ap (λ (x : Reply). memory_after x m.ran_before) (same e)
            ∙ ap (memory_after (evaluate bytes i list (length m.evaluated_before))) e ∙ sym evaluating.memory;
        evaluated_count =
            let most = a.counts i list (length m.evaluated_before) in
            rw (evaluating.answer, ← a.replies i list (length m.evaluated_before)) most;
        ran_count = rw ran_answer (a.counts i list (length m.ran_before));
      }

-- from what the services ensure; the code run is a part of the code memory
pub together : (bytes : List ℕ) (i : ℕ) (list : List ℕ) (m : Memories) (r : Answers) (size : ℕ) (part : List ℕ) → r.judged ≡ judge bytes
    → Compiles bytes m.code_before r.compiled m.code_after → Evaluated bytes i list m.evaluated_before r.evaluated m.evaluated_after
    → size ≡ (produced_numbers r.compiled).length → part ≡ take size (drop 0 m.code_after) → Runs part i list m.ran_before r.ran m.ran_after
    → Together bytes i list m r
together bytes i list m r size part judges compiling evaluating sized handed running =
    let whole : part ≡ written_code m r = handed ∙ ap (λ (n : ℕ). take n m.code_after) sized in
    let runs : Runs (written_code m r) i list m.ran_before r.ran m.ran_after =
    subst (λ (code : List ℕ). Runs code i list m.ran_before r.ran m.ran_after) whole running in
    record {
      judging = judges;
      compiling = compiling;
      evaluating = evaluating;
      running = runs;
      claim = λ n accepts fits. agreed bytes n i list m r accepts fits compiling evaluating runs;
    }
