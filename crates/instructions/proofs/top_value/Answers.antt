-- `instructions::top_value` meets its contract.
use Rattle.instructions.proofs.Stack.{take_empty, take_nothing, take_many, take_value}
use native.Mathlib.Omega.{arith}
use Rattle.instructions.proofs.top_value.Goals as goal

pub returns-then-h-eq0 : goal.returns-then-h-eq0
returns-then-h-eq0 c = take_empty _ _ c.if-h-eq0.true

pub returns-then-c-eq-NOTHING : goal.returns-then-c-eq-NOTHING
returns-then-c-eq-NOTHING c = take_nothing _ _ (omega arith) c.if-c-eq-NOTHING.true

pub returns-then-c-lt-MANY : goal.returns-then-c-lt-MANY
returns-then-c-lt-MANY c = rw c.value_in.ensures (take_value _ _ (omega arith) c.if-c-eq-NOTHING.false c.if-c-lt-MANY.true)

pub returns : goal.returns
returns c = take_many _ _ (omega arith) c.if-c-lt-MANY.false
