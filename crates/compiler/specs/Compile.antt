-- The service: what compiling answers, and what every byte of the code memory holds afterwards.
use Rattle.std.specs.Prelude.{ℕ, List, length, Result}
use Rattle.book.specs.Decode.{scopes_of}
use Rattle.book.specs.Judge.{judge}
use Rattle.answers.specs.Response.{on_judged, Responds}
use Rattle.answers.specs.Production.{Production, refuse, fitting}
use Rattle.translation.specs.Blocks.{code_of}
use Rattle.answers.specs.declared.Refusal.{Refusal}

-- compiling a book, for a code memory of this length
unfoldable pub compile : List ℕ → ℕ → Production
compile bytes room = on_judged refuse (judge bytes) (fitting (code_of (scopes_of bytes)) room)

-- the answer and the memory are those of compiling
abbrev pub Compiles : List ℕ → List ℕ → Result ℕ Refusal → List ℕ → Type 0
Compiles bytes before = Responds (compile bytes (length before)) before
