-- "Where an answer is an enum, a definition sets out this paper's number and values for each of its cases".
use Rattle.std.specs.Prelude.{ℕ, Result, Ok, Err}
use Rattle.answers.specs.declared.Side.TheVariants.{Above, Below}
use Rattle.answers.specs.declared.Cause.{Cause}
use Rattle.answers.specs.declared.Cause.TheVariants.{Empty, Conflict, OutOfRange}
use Rattle.answers.specs.declared.Fault.{Fault}
use Rattle.answers.specs.declared.Fault.TheVariants.{Truncated, UnknownKind, OutOfOrder, LimitExceeded, InvalidByte, DanglingReference, SharedNode, TypeMismatch, MixedClauses, ScopeCycle, WeightExceeded, DependencyCycle}
use Rattle.answers.specs.declared.Refusal.{Refusal}
use Rattle.answers.specs.declared.Refusal.TheVariants.{Book, NoSuchScope, BadInput, BufferTooSmall, BadCode, Stuck, BadChoice}
use Rattle.answers.specs.declared.Answer.{Answer}
use Rattle.answers.specs.declared.Answer.TheVariants as answer

-- the paper's number of a fault
abbrev pub fault_number : Fault → ℕ
fault_number Truncated = 1
fault_number UnknownKind = 2
fault_number OutOfOrder = 3
fault_number LimitExceeded = 4
fault_number InvalidByte = 5
fault_number DanglingReference = 6
fault_number SharedNode = 7
fault_number TypeMismatch = 8
fault_number MixedClauses = 9
fault_number ScopeCycle = 10
fault_number WeightExceeded = 11
fault_number DependencyCycle = 12

-- of a refusal
abbrev pub refusal_number : Refusal → ℕ
refusal_number (Book f) = fault_number f
refusal_number NoSuchScope = 13
refusal_number BadInput = 14
refusal_number BufferTooSmall = 15
refusal_number BadCode = 16
refusal_number Stuck = 17
-- the first change request: "Turned away: 18"
refusal_number BadChoice = 18

-- the number of an outcome without values, as in the first change request: "one byte of outcome (0 values, 1 empty, 2 conflict, 3 out of range)";
-- for its 3, since the third: "On the sheet, byte 3 is above and 4 below". That evaluating and running have these numbers, too, is the project's own
abbrev pub cause_number : Cause → ℕ
cause_number Empty = 1
cause_number Conflict = 2
cause_number (OutOfRange Above) = 3
cause_number (OutOfRange Below) = 4

-- what a service hands back, in numbers; refusal 0 where nothing is refused. That what it does not hand back is 0 is the project's own
pub record Numbers : Type 0 where
  pub refusal : ℕ
  pub outcome : ℕ
  pub count : ℕ
  pub length : ℕ

-- "A refusal returns its number and the count 0"
abbrev pub refused_numbers : Refusal → Numbers
refused_numbers r = record { refusal = refusal_number r; outcome = 0; count = 0; length = 0 }

-- "Judging hands back the number of scopes", which stands in the length's place
abbrev pub judged_numbers : Result ℕ Fault → Numbers
judged_numbers (Ok n) = record { refusal = 0; outcome = 0; count = 0; length = n }
judged_numbers (Err f) = refused_numbers (Book f)

-- "compiling, like each later writer, the length written"
abbrev pub produced_numbers : Result ℕ Refusal → Numbers
produced_numbers (Ok n) = record { refusal = 0; outcome = 0; count = 0; length = n }
produced_numbers (Err r) = refused_numbers r

-- "an evaluation or a run its outcome, its count and the length of the results (0 without values)"
abbrev pub answer_numbers : Result Answer Refusal → Numbers
answer_numbers (Ok (answer.Values n size)) = record { refusal = 0; outcome = 0; count = n; length = size }
answer_numbers (Ok (answer.Ended c n)) = record { refusal = 0; outcome = cause_number c; count = n; length = 0 }
answer_numbers (Err r) = refused_numbers r
