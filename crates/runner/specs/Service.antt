-- The service, and the service over the directory.
use Rattle.std.specs.Prelude.{ℕ, ◌<◌, ◌≤◌, ◌≡◌, true, List, length, Result}
use Rattle.lists.specs.Reading.{typed}
use Rattle.lists.specs.Results.{result_length}
use Rattle.evaluation.specs.Types.{Fitting}
use Rattle.answers.specs.Response.{Responds}
use Rattle.answers.specs.declared.Answer.{Answer}
use Rattle.machine.specs.Acceptance.{accepted}
use Rattle.machine.specs.Service.{reply, run}
use Rattle.directory.specs.Tabled.{block_at, block_count, Tabled}
use Rattle.instructions.specs.Views.{givens_at}
use Rattle.blocks.specs.Entries.{run_at, variables_at}
use Rattle.answers.specs.declared.Refusal.{Refusal}

-- the answer and the memory are those of running
abbrev pub Runs : List ℕ → ℕ → List ℕ → List ℕ → Result Answer Refusal → List ℕ → Type 0
Runs code i list before = Responds (run code i list (length before)) before

-- accepted code with its directory
pub record Ready (code directory : List ℕ) : Type 0 where
  pub accepts : accepted code ≡ true
  pub tabled : Tabled code directory (block_count code)

-- block p is there and its variables have these type bytes, what is given fits them, and its results have room
pub record Asked (code directory : List ℕ) (p : ℕ) (types given memory : List ℕ) : Type 0 where
  pub ready : Ready code directory
  pub block : p < block_count code
  pub variables : typed types ≡ (block_at code p).variables
  pub size : length given ≡ 32
  pub fitting : Fitting (block_at code p).variables (givens_at given 0 (variables_at code p))
  pub room : result_length (block_at code p).variables ≤ length memory

-- the answer and the memory are those of entering block p with what the cells give
abbrev pub Replied : List ℕ → ℕ → List ℕ → List ℕ → Result Answer Refusal → List ℕ → Type 0
Replied code p given = Responds (reply (run_at code p (givens_at given 0 (variables_at code p))))
