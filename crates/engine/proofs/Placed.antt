-- The numbers of every answer have room in one number of 64 bits, whatever the bytes.
--     judge_placed       a book has 32 scopes at most
--     compile_placed, tabulate-placed     its code 201,435 bytes, a table 643,072
--     evaluate_placed, run-placed    a count is 4,096 at most, and the results are 192 bytes long at most
-- Assumes nothing.
use Prim.Native.Nat.{ℕ, ◌<◌, ◌≤◌}
use mathlib.Core.Path.{◌≡◌, refl}
use mathlib.Core.List.{List}
use native.Mathlib.Omega.{arith}
use lib.ListN.{length}
use Rattle.std.specs.Prelude.{Result, ℕ, Ok, Err}
use Rattle.answers.specs.Numbers.{refusal_number, cause_number, refused_numbers, judged_numbers, produced_numbers, answer_numbers}
use Rattle.answers.specs.declared.Cause.{Cause}
use Rattle.answers.specs.declared.Side.TheVariants.{Above, Below}
use Rattle.answers.specs.declared.Cause.TheVariants.{Empty, Conflict, OutOfRange}
use Rattle.answers.specs.declared.Refusal.{Refusal}
use Rattle.answers.specs.declared.Refusal.TheVariants.{Book, NoSuchScope, BadInput, BufferTooSmall, BadCode, Stuck, BadChoice}
use Rattle.answers.specs.declared.Answer.{Answer}
use Rattle.answers.specs.declared.Answer.TheVariants as answer
use Rattle.book.specs.Judge.{judge}
use Rattle.acceptance.proofs.Numbers.{number_bound}
use Rattle.acceptance.proofs.Orders.{accepted_book}
use Rattle.evaluation.specs.Evaluate.{count_in, length_in, evaluate}
use Rattle.evaluation.proofs.Answers.{evaluated_count_lem, evaluated_short}
use Rattle.tabulation.specs.Tabulate.{tabulate}
use Rattle.tabulation.proofs.Answers.{tabulated_most}
use Rattle.compiler.specs.Compile.{compile}
use Rattle.compiler.proofs.Readings.{compiled_most}
use Rattle.machine.specs.Service.{run}
use Rattle.runner.proofs.Answers.{ran_count_lem, ran_short}
use Rattle.numbers.specs.Packed.{Placed}
use Rattle.answers.specs.declared.Fault.{Fault}

refusal_small : (r : Refusal) → refusal_number r < 256
refusal_small (Book f) = omega (arith, number_bound f)
refusal_small NoSuchScope = omega arith
refusal_small BadInput = omega arith
refusal_small BufferTooSmall = omega arith
refusal_small BadCode = omega arith
refusal_small Stuck = omega arith
refusal_small BadChoice = omega arith

cause_small : (c : Cause) → cause_number c < 256
cause_small Empty = omega arith
cause_small Conflict = omega arith
cause_small (OutOfRange Above) = omega arith
cause_small (OutOfRange Below) = omega arith

refused_placed : (r : Refusal) → Placed (refused_numbers r)
refused_placed r = record { refusal = refusal_small r; outcome = omega arith; count = omega arith; length = omega arith }

answer_placed : (a : Result Answer Refusal) → count_in a ≤ 4096 → length_in a ≤ 192 → Placed (answer_numbers a)
answer_placed (Ok (answer.Values n l)) h k = record { refusal = omega arith; outcome = omega arith; count = omega arith; length = omega arith }
answer_placed (Ok (answer.Ended c n)) h k = record { refusal = omega arith; outcome = cause_small c; count = omega arith; length = omega arith }
answer_placed (Err r) h k = refused_placed r

produced_placed : (p : Result ℕ Refusal) → (produced_numbers p).length ≤ 643072 → Placed (produced_numbers p)
produced_placed (Ok n) h = record { refusal = omega arith; outcome = omega arith; count = omega arith; length = omega arith }
produced_placed (Err r) h = refused_placed r

judged_placed : (bytes : List ℕ) (j : Result ℕ Fault) → judge bytes ≡ j → Placed (judged_numbers j)
judged_placed bytes (Ok n) e =
    let few = (accepted_book bytes n e).scopes in
    record { refusal = omega arith; outcome = omega arith; count = omega arith; length = omega arith }
judged_placed bytes (Err f) e = refused_placed (Book f)

pub judge_placed : (bytes : List ℕ) → Placed (judged_numbers (judge bytes))
judge_placed bytes = judged_placed bytes (judge bytes) refl

pub compile_placed : (bytes memory : List ℕ) → Placed (produced_numbers (compile bytes (length memory)).answer)
compile_placed bytes memory = produced_placed (compile bytes (length memory)).answer (omega (arith, compiled_most bytes memory))

pub tabulate_placed : (bytes : List ℕ) (i : ℕ) (chosen fixed memory : List ℕ)
    → Placed (produced_numbers (tabulate bytes i chosen fixed (length memory)).answer)
tabulate_placed bytes i chosen fixed memory =
    produced_placed (tabulate bytes i chosen fixed (length memory)).answer (tabulated_most bytes i chosen fixed (length memory))

pub evaluate_placed : (bytes : List ℕ) (i : ℕ) (list memory : List ℕ) → Placed (answer_numbers (evaluate bytes i list (length memory)).answer)
evaluate_placed bytes i list memory =
    answer_placed (evaluate bytes i list (length memory)).answer (evaluated_count_lem bytes i list memory) (evaluated_short bytes i list memory)

pub run_placed : (code : List ℕ) (i : ℕ) (list memory : List ℕ) → Placed (answer_numbers (run code i list (length memory)).answer)
run_placed code i list memory = answer_placed (run code i list (length memory)).answer (ran_count_lem code i list memory) (ran_short code i list memory)
