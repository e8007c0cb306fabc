-- What each answer of tabulating means, and each row.
use Rattle.std.specs.Prelude.{ℕ, suc, ◌*◌, ◌<◌, ◌≤◌, ◌≡◌, true, false, List, [], ◌∷◌, ◌++◌, length, drop, replicate, Option, Ok, Err}
use Rattle.book.specs.Decode.{scopes_of}
use Rattle.book.specs.References.{scope_at}
use Rattle.book.specs.Judge.{judge}
use Rattle.answers.specs.Numbers.{cause_number}
use Rattle.answers.specs.Production.{Production, refuse}
use Rattle.answers.specs.declared.Cause.{Cause}
use Rattle.answers.specs.declared.Fault.{Fault}
use Rattle.answers.specs.declared.Refusal.TheVariants.{Book, NoSuchScope, BadInput, BufferTooSmall, BadChoice}
use Rattle.answers.specs.declared.Answer.TheVariants.{Values, Ended}
use Rattle.lists.specs.Inputs.{bad, good, inputs}
use Rattle.lists.specs.Results.{result_length}
use Rattle.evaluation.specs.Answers.{Asked}
use Rattle.evaluation.specs.Evaluate.{Reply}
use Rattle.tabulation.specs.Chosen.{bad_choice}
use Rattle.tabulation.specs.Assignments.{power}
use Rattle.tabulation.specs.Tabulate.{table}
use Rattle.calculus.specs.declared.Value.{Value}

-- the scope asked for is one of an accepted book, the fixed input list is good, and the variables may be chosen
pub record Tabulable (bytes : List ℕ) (i : ℕ) (chosen fixed : List ℕ) : Type 0 where
  pub asked : Asked bytes i
  pub given : List (Option Value)
  pub read : inputs (scope_at (scopes_of bytes) i).variables fixed ≡ good given
  pub fit : bad_choice (scope_at (scopes_of bytes) i).variables given chosen ≡ false

-- the length of the table, which is known before a row is: 2^k rows of one byte and the results
abbrev pub table_length : List ℕ → ℕ → List ℕ → ℕ
table_length bytes i chosen = power (length chosen) * suc (result_length (scope_at (scopes_of bytes) i).variables)

-- the row of what evaluating replies, its results being of this length: "the results, or as many zero bytes where there are no values"
pub data Rowed (size : ℕ) : Reply → List ℕ → Type 0 where
  in_values : (count : ℕ) (written : List ℕ) → length written ≡ size → Rowed size (record { answer = Ok (Values count size); written = written }) (0 ∷ written)
  in_end : (cause : Cause) (count : ℕ) → Rowed size (record { answer = Ok (Ended cause count); written = [] }) (cause_number cause ∷ replicate size 0)

-- "after 14, before 15": the cases of tabulating scope i of a book for the chosen variables with a fixed input list, for a memory of this length
pub data Replied (bytes : List ℕ) (i : ℕ) (chosen fixed : List ℕ) (room : ℕ) : Production → Type 0 where
  faulty : (f : Fault) → judge bytes ≡ Err f → Replied bytes i chosen fixed room (refuse (Book f))
  absent : (n : ℕ) → judge bytes ≡ Ok n → n ≤ i → Replied bytes i chosen fixed room (refuse NoSuchScope)
  malformed : Asked bytes i → inputs (scope_at (scopes_of bytes) i).variables fixed ≡ bad → Replied bytes i chosen fixed room (refuse BadInput)
  unfit : Asked bytes i → (given : List (Option Value)) → inputs (scope_at (scopes_of bytes) i).variables fixed ≡ good given
      → bad_choice (scope_at (scopes_of bytes) i).variables given chosen ≡ true → Replied bytes i chosen fixed room (refuse BadChoice)
  short : Tabulable bytes i chosen fixed → room < table_length bytes i chosen → Replied bytes i chosen fixed room (refuse BufferTooSmall)
  whole : Tabulable bytes i chosen fixed → table_length bytes i chosen ≤ room
      → Replied bytes i chosen fixed room (record { answer = Ok (table_length bytes i chosen); written = table bytes i chosen fixed })

-- where the answer is a length: the memory before and after
pub record InTable (bytes : List ℕ) (i : ℕ) (chosen fixed memory : List ℕ) (size : ℕ) (after : List ℕ) : Type 0 where
  pub choosing : Tabulable bytes i chosen fixed
  pub whole : length (table bytes i chosen fixed) ≡ size
  pub long : size ≡ table_length bytes i chosen
  pub fits : size ≤ length memory
  pub written : after ≡ table bytes i chosen fixed ++ drop size memory
