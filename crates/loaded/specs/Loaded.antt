-- Preparing a book, and running a scope of a loaded one.
use Rattle.std.specs.Prelude.{ℕ, ◌<◌, ◌≤◌, ◌≡◌, List, length, replicate, Result, Ok}
use Rattle.answers.specs.Response.{Responds}
use Rattle.answers.specs.declared.Answer.{Answer}
use Rattle.book.specs.Judge.{judge}
use Rattle.scan.specs.Filling.{Unfilled}
use Rattle.cells.specs.Codec.{AllKept}
use Rattle.book.specs.Decode.{scopes_of}
use Rattle.book.specs.References.{scope_at}
use Rattle.lists.specs.Writing.{result_length_at}
use Rattle.evaluation.specs.Types.{Fitting}
use Rattle.evaluation.specs.Evaluate.{reply_of}
use Rattle.scopes.specs.Steps.{World, givens_from, entered_at}
use Rattle.scopes.specs.Known.{Known}
use Rattle.answers.specs.declared.Fault.{Fault}
use Rattle.answers.specs.declared.Refusal.{Refusal}

-- tables that are still empty: an index, links for 32 scopes, orders
pub record Unprepared (bytes index links orders : List ℕ) : Type 0 where
  pub unfilled : Unfilled bytes index
  pub unlinked : links ≡ replicate 26688 255
  pub room : 1280 ≤ length orders

-- what judging answers, and of an accepted book the tables
pub record Prepared (bytes index links orders : List ℕ) (r : Result ℕ Fault) : Type 0 where
  pub answer : r ≡ judge bytes
  pub world : (n : ℕ) → r ≡ Ok n → World bytes index links orders

-- the book is loaded and has scope i; what is given, in a cell for each variable, fits its variables
pub record Enterable (bytes index links orders : List ℕ) (i : ℕ) (given : List ℕ) : Type 0 where
  pub world : World bytes index links orders
  pub scope : i < length (scopes_of bytes)
  pub given_room : length given ≡ 32
  pub given_kept : AllKept given
  pub fitting : Fitting (scope_at (scopes_of bytes) i).variables (givens_from given 0 (length (scope_at (scopes_of bytes) i).variables))

-- and its results have room
pub record RunsLoaded (bytes index links orders : List ℕ) (i : ℕ) (given memo memory : List ℕ) : Type 0 where
  pub enterable : Enterable bytes index links orders i given
  pub known : Known bytes memo
  pub room : result_length_at (scopes_of bytes) i ≤ length memory

-- the answer and the memory are those of a run with what the cells give
abbrev pub Replied : List ℕ → ℕ → List ℕ → List ℕ → Result Answer Refusal → List ℕ → Type 0
Replied bytes i given = Responds (reply_of (entered_at bytes i given))
