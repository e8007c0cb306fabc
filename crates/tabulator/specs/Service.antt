-- The service over its tables.
use Rattle.std.specs.Prelude.{ℕ, suc, ◌*◌, ◌≡◌, false, List, length, take, Result}
use Rattle.answers.specs.Response.{Responds}
use Rattle.answers.specs.Production.{fitting}
use Rattle.book.specs.Decode.{scopes_of}
use Rattle.book.specs.References.{scope_at}
use Rattle.lists.specs.Writing.{result_length_at}
use Rattle.scopes.specs.Steps.{givens_from}
use Rattle.loaded.specs.Loaded.{Enterable}
use Rattle.tabulation.specs.Chosen.{bad_choice, in_order}
use Rattle.tabulation.specs.Assignments.{power}
use Rattle.rows.specs.Filling.{cell_rows}
use Rattle.answers.specs.declared.Refusal.{Refusal}

-- a scope of a loaded book can be entered; the chosen variables are good, and stand in number order; and the table is of the length that is known
-- before
pub record TableAsked (bytes index links orders : List ℕ) (i : ℕ) (chosen ordered given : List ℕ) : Type 0 where
  pub enterable : Enterable bytes index links orders i given
  pub good : bad_choice (scope_at (scopes_of bytes) i).variables (givens_from given 0 (length (scope_at (scopes_of bytes) i).variables)) chosen ≡ false
  pub order : take (length chosen) ordered ≡ in_order chosen (scope_at (scopes_of bytes) i).variables
  pub long : length (cell_rows bytes i (in_order chosen (scope_at (scopes_of bytes) i).variables) given)
      ≡ power (length chosen) * suc (result_length_at (scopes_of bytes) i)

-- the answer and the memory are those of the rows of all assignments
abbrev pub WritesTable : List ℕ → ℕ → List ℕ → List ℕ → List ℕ → Result ℕ Refusal → List ℕ → Type 0
WritesTable bytes i chosen given before =
    Responds (fitting (cell_rows bytes i (in_order chosen (scope_at (scopes_of bytes) i).variables) given) (length before)) before
