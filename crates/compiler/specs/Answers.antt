-- What each answer of compiling means.
use Rattle.std.specs.Prelude.{ℕ, ◌*◌, ◌<◌, ◌≤◌, ◌≡◌, List, ◌++◌, length, drop, Ok, Err}
use Rattle.book.specs.Decode.{scopes_of}
use Rattle.book.specs.Judge.{judge}
use Rattle.answers.specs.declared.Fault.{Fault}
use Rattle.answers.specs.declared.Refusal.TheVariants.{Book, BufferTooSmall}
use Rattle.translation.specs.Blocks.{code_of}
use Rattle.answers.specs.Production.{Production, refuse}

-- the cases of compiling a book, for a code memory of this length
pub data Replied (bytes : List ℕ) (room : ℕ) : Production → Type 0 where
  faulty : (f : Fault) → judge bytes ≡ Err f → Replied bytes room (refuse (Book f))
  short : (n : ℕ) → judge bytes ≡ Ok n → room < length (code_of (scopes_of bytes)) → Replied bytes room (refuse BufferTooSmall)
  whole : (n : ℕ) → judge bytes ≡ Ok n → length (code_of (scopes_of bytes)) ≤ room
      → Replied bytes room (record { answer = Ok (length (code_of (scopes_of bytes))); written = code_of (scopes_of bytes) })

-- where the answer is a length: the memory before and after
pub record InCode (bytes memory : List ℕ) (size : ℕ) (after : List ℕ) : Type 0 where
  pub scopes : ℕ
  pub accepted : judge bytes ≡ Ok scopes
  pub long : size ≡ length (code_of (scopes_of bytes))
  pub fits : size ≤ length memory
  pub most : size ≤ 7 * length bytes
  pub written : after ≡ code_of (scopes_of bytes) ++ drop size memory
