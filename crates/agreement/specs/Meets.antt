-- What is read in an evaluation and in a run: the machine's memory holds the values of the evaluation, each of its type.
use Rattle.std.specs.Prelude.{ℕ, ◌≡◌}
use Rattle.calculus.specs.Evaluation.{Env}
use Rattle.calculus.specs.declared.Value.{Value}
use Rattle.book.specs.declared.ValueType.{ValueType}
use Rattle.evaluation.specs.Types.{HasType}
use Rattle.machine.specs.Machine.{Cell, unset, given, stored, Callee, waiting, entered, Memory, own_at, callee_at, value_at}

-- an own variable's cell holds the value
abbrev pub HoldsValue : Cell → Value → Type 0
HoldsValue unset v = ⊥
HoldsValue (given w) v = w ≡ v
HoldsValue (stored w) v = w ≡ v

-- variable x of an entered sub-scope holds the value
abbrev pub CalleeHolds : Callee → ℕ → Value → Type 0
CalleeHolds (waiting gs) x v = ⊥
CalleeHolds (entered vs) x v = HoldsValue (value_at vs x) v

-- own variable x is of type t, and memory and evaluation agree on its value
abbrev pub OwnMeets : Env → Memory → ℕ → ValueType → Type 0
OwnMeets e m x t = HoldsValue (own_at m x) (e.own x) × HasType t (e.own x)

-- the same of variable x of sub-scope k
abbrev pub CalledMeets : Env → Memory → ℕ → ℕ → ValueType → Type 0
CalledMeets e m k x t = CalleeHolds (callee_at m k) x (e.called k x) × HasType t (e.called k x)
