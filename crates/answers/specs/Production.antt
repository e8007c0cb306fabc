-- What a service answers that writes bytes and hands back their length: "compiling, like each later writer, the length written".
use Rattle.std.specs.Prelude.{ℕ, cond, List, [], length, leb, Result, Ok, Err}
use Rattle.answers.specs.Response.{Response}
use Rattle.answers.specs.declared.Refusal.{Refusal}
use Rattle.answers.specs.declared.Refusal.TheVariants.{BufferTooSmall}

-- such an answer, and the bytes that it writes
abbrev pub Production : Type 0
Production = Response (Result ℕ Refusal)

abbrev pub refuse : Refusal → Production
refuse r = record { answer = Err r; written = [] }

-- 15, the paper's "short can": "code or result longer than the memory lent"; else "the length written"
unfoldable pub fitting : List ℕ → ℕ → Production
fitting bytes room = cond (leb (length bytes) room) (record { answer = Ok (length bytes); written = bytes }) (refuse BufferTooSmall)
