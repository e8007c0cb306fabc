-- The service over its tables.
use Rattle.std.specs.Prelude.{ℕ, ◌*◌, ◌<◌, ◌≤◌, ◌≡◌, List, length, take, drop, Ok, Result}
use Rattle.book.specs.Decode.{scopes_of}
use Rattle.book.specs.References.{scope_at}
use Rattle.book.specs.Steps.{step_count, step_order}
use Rattle.book.specs.Judge.{judge}
use Rattle.index.specs.Index.{Laid}
use Rattle.answers.specs.Response.{Responds}
use Rattle.cells.specs.Codec.{AllKept}
use Rattle.lists.specs.Writing.{result_length_at}
use Rattle.evaluation.specs.Types.{Fitting}
use Rattle.evaluation.specs.Evaluate.{evaluate}
use Rattle.answers.specs.declared.Answer.{Answer}
use Rattle.scopes.specs.Steps.{givens_from}
use Rattle.answers.specs.declared.Refusal.{Refusal}

-- the tables of an accepted book of n scopes
pub record Tabled (bytes index orders : List ℕ) (n : ℕ) : Type 0 where
  pub accepted : judge bytes ≡ Ok n
  pub laid : Laid bytes index
  pub step_orders : (i : ℕ) → i < length (scopes_of bytes)
      → take (step_count (scope_at (scopes_of bytes) i)) (drop (i * 40) orders) ≡ step_order (scope_at (scopes_of bytes) i)

-- scope i is there, what is given, in a cell for each variable, fits its variables, and its results have room
pub record Asked (bytes index orders : List ℕ) (n i : ℕ) (given memory : List ℕ) : Type 0 where
  pub tabled : Tabled bytes index orders n
  pub scope : i < n
  pub given_room : length given ≡ 32
  pub given_kept : AllKept given
  pub fitting : Fitting (scope_at (scopes_of bytes) i).variables (givens_from given 0 (length (scope_at (scopes_of bytes) i).variables))
  pub room : result_length_at (scopes_of bytes) i ≤ length memory

-- the answer and the memory are those of evaluating
abbrev pub Evaluated : List ℕ → ℕ → List ℕ → List ℕ → Result Answer Refusal → List ℕ → Type 0
Evaluated bytes i list before = Responds (evaluate bytes i list (length before)) before
