-- What a service that is lent memory responds, and what every byte of that memory holds afterwards.
use Rattle.std.specs.Prelude.{ℕ, ◌≡◌, List, ◌++◌, length, drop, Result, Ok, Err}
use Rattle.answers.specs.declared.Refusal.{Refusal}
use Rattle.answers.specs.declared.Refusal.TheVariants.{Book}
use Rattle.answers.specs.declared.Fault.{Fault}

-- an answer, and the bytes that it writes
pub record Response (A : Type 0) : Type 0 where
  pub answer : A
  pub written : List ℕ

-- a fault of the book is refused before all else
abbrev pub on_judged : {A : Type 0} → (Refusal → Response A) → Result ℕ Fault → Response A → Response A
on_judged refuse (Ok n) r = r
on_judged refuse (Err f) r = refuse (Book f)

-- "Lent memory changes only where code or values are written, from its first byte, and nothing after them"
unfoldable pub memory_after : {A : Type 0} → Response A → List ℕ → List ℕ
memory_after r memory = r.written ++ drop (length r.written) memory

-- the answer, and the lent memory before and after, are those of a response
pub record Responds {A : Type 0} (response : Response A) (before : List ℕ) (r : A) (after : List ℕ) : Type 0 where
  pub answer : r ≡ response.answer
  pub memory : after ≡ memory_after response before
