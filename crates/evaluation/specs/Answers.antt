-- What each answer of evaluating means.
use Rattle.std.specs.Prelude.{ℕ, ◌<◌, ◌≤◌, ◌≡◌, List, [], ◌++◌, length, drop, Option, Ok, Err}
use Rattle.calculus.specs.declared.Value.{Value}
use Rattle.answers.specs.declared.Cause.{Cause}
use Rattle.book.specs.Decode.{scopes_of}
use Rattle.book.specs.References.{scope_at}
use Rattle.book.specs.Scopes.{weight}
use Rattle.book.specs.Judge.{judge}
use Rattle.answers.specs.declared.Fault.{Fault}
use Rattle.lists.specs.Inputs.{bad, good, inputs}
use Rattle.lists.specs.Results.{result_length, results}
use Rattle.evaluation.specs.Run.{values, ended, run_scope}
use Rattle.evaluation.specs.Types.{Fitting, ValuesFit}
use Rattle.evaluation.specs.Evaluate.{Reply, refuse}
use Rattle.answers.specs.declared.Refusal.TheVariants.{Book, NoSuchScope, BadInput, BufferTooSmall}
use Rattle.answers.specs.declared.Answer.TheVariants.{Values, Ended}

-- the scope asked for is one of an accepted book
pub record Asked (bytes : List ℕ) (i : ℕ) : Type 0 where
  pub scopes : ℕ
  pub accepted : judge bytes ≡ Ok scopes
  pub present : i < scopes

-- and the input list is good, and the result memory long enough
pub record Entering (bytes : List ℕ) (i : ℕ) (list : List ℕ) (room : ℕ) : Type 0 where
  pub asked : Asked bytes i
  pub given : List (Option Value)
  pub read : inputs (scope_at (scopes_of bytes) i).variables list ≡ good given
  pub fitting : Fitting (scope_at (scopes_of bytes) i).variables given
  pub enough : result_length (scope_at (scopes_of bytes) i).variables ≤ room

-- "then 13, 14, 15": the cases of evaluating scope i of a book with an input list, for a result memory of this length
pub data Replied (bytes : List ℕ) (i : ℕ) (list : List ℕ) (room : ℕ) : Reply → Type 0 where
  faulty : (f : Fault) → judge bytes ≡ Err f → Replied bytes i list room (refuse (Book f))
  absent : (n : ℕ) → judge bytes ≡ Ok n → n ≤ i → Replied bytes i list room (refuse NoSuchScope)
  malformed : Asked bytes i → inputs (scope_at (scopes_of bytes) i).variables list ≡ bad → Replied bytes i list room (refuse BadInput)
  short : Asked bytes i → (given : List (Option Value)) → inputs (scope_at (scopes_of bytes) i).variables list ≡ good given
      → room < result_length (scope_at (scopes_of bytes) i).variables → Replied bytes i list room (refuse BufferTooSmall)
  stopped : (e : Entering bytes i list room) (cause : Cause) (count : ℕ)
      → run_scope (scopes_of bytes) i e.given ≡ ended cause count
      → Replied bytes i list room (record { answer = Ok (Ended cause count); written = [] })
  finished : (e : Entering bytes i list room) (vs : List Value) (count : ℕ)
      → run_scope (scopes_of bytes) i e.given ≡ values vs count
      → Replied bytes i list room (record { answer = Ok (Values count (length (results vs))); written = results vs })

-- where the answer is values, with a count and a length: the memory before and after
pub record InValues (bytes : List ℕ) (i : ℕ) (list memory : List ℕ) (count size : ℕ) (after : List ℕ) : Type 0 where
  pub entering : Entering bytes i list (length memory)
  pub finals : List Value
  pub run : run_scope (scopes_of bytes) i entering.given ≡ values finals count
  pub typed : ValuesFit (scope_at (scopes_of bytes) i).variables finals
  pub weighs : count ≡ weight (scopes_of bytes) i
  pub long : size ≡ result_length (scope_at (scopes_of bytes) i).variables
  pub fits : size ≤ length memory
  pub whole : length (results finals) ≡ size
  pub written : after ≡ results finals ++ drop size memory

-- where it is an end, with a cause and a count
pub record InEnd (bytes : List ℕ) (i : ℕ) (list memory : List ℕ) (cause : Cause) (count : ℕ) (after : List ℕ) : Type 0 where
  pub entering : Entering bytes i list (length memory)
  pub run : run_scope (scopes_of bytes) i entering.given ≡ ended cause count
  pub some : 1 ≤ count
  pub most : count ≤ weight (scopes_of bytes) i
  pub unchanged : after ≡ memory
