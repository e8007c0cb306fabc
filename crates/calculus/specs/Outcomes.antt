-- Outcomes: a value, or an end with its cause, which everything but a default passes on whole.
use Rattle.std.specs.Prelude.{cond, Result, Ok, Err}
use Rattle.calculus.specs.Values.{truth_of}
use Rattle.calculus.specs.Operators.{unary_of, binary_of}
use Rattle.calculus.specs.declared.Value.{Value}
use Rattle.calculus.specs.declared.Unary.{Unary}
use Rattle.calculus.specs.declared.Binary.{Binary}
use Rattle.answers.specs.declared.Cause.{Cause}

-- "Elsewhere an operand that is empty, conflict or out of range is the result of the whole"
abbrev pub bind : Result Value Cause → (Value → Result Value Cause) → Result Value Cause
bind (Ok v) f = f v
bind (Err c) f = Err c

abbrev pub unary_on : Unary → Result Value Cause → Result Value Cause
unary_on op a = bind a (unary_of op)

-- "operands taken left first; 'and' takes both"
abbrev pub binary_on : Binary → Result Value Cause → Result Value Cause → Result Value Cause
binary_on op a b = bind a (λ v. bind b (binary_of op v))

-- "'if' takes one branch"; an end of the condition is the result
abbrev pub choose : Result Value Cause → Result Value Cause → Result Value Cause → Result Value Cause
choose c a b = bind c (λ v. cond (truth_of v) a b)
