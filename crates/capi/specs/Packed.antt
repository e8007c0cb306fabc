-- What the exported services answer that are lent memory, and what every byte of the lent memory holds afterwards.
use Rattle.std.specs.Prelude.{ℕ, ◌≡◌, List, length}
use Rattle.answers.specs.Response.{Response, memory_after}
use Rattle.answers.specs.Numbers.{Numbers, produced_numbers, answer_numbers}
use Rattle.evaluation.specs.Evaluate.{evaluate}
use Rattle.tabulation.specs.Tabulate.{tabulate}
use Rattle.compiler.specs.Compile.{compile}
use Rattle.machine.specs.Service.{run}
use Rattle.numbers.specs.Packed.{Says}

-- those of a response, its answer as one number, from which the answer's numbers are recovered
pub record Packed {A : Type 0} (numbers : A → Numbers) (response : Response A) (before : List ℕ) (r : ℕ) (after : List ℕ) : Type 0 where
  pub answer : Says (numbers response.answer) r
  pub memory : after ≡ memory_after response before

abbrev pub PackedCompilation : List ℕ → List ℕ → ℕ → List ℕ → Type 0
PackedCompilation bytes before = Packed produced_numbers (compile bytes (length before)) before

abbrev pub PackedEvaluation : List ℕ → ℕ → List ℕ → List ℕ → ℕ → List ℕ → Type 0
PackedEvaluation bytes i list before = Packed answer_numbers (evaluate bytes i list (length before)) before

abbrev pub PackedRun : List ℕ → ℕ → List ℕ → List ℕ → ℕ → List ℕ → Type 0
PackedRun code i list before = Packed answer_numbers (run code i list (length before)) before

abbrev pub PackedTabulation : List ℕ → ℕ → List ℕ → List ℕ → List ℕ → ℕ → List ℕ → Type 0
PackedTabulation bytes i chosen fixed before = Packed produced_numbers (tabulate bytes i chosen fixed (length before)) before
