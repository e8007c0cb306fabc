-- What the machine does at the instructions that the translation writes for a term's own node.
--     literal_runs, own_runs, called-runs      a leaf pushes its value
--     error_runs                               an error is raised
--     unary_runs, binary-runs                  an operator replaces its operands by its outcome
-- Assumes nothing.
use Prim.Native.Nat.{ℕ, ◌<◌}
use mathlib.Core.Path.{◌≡◌, ◌∙◌}
use mathlib.Core.List.{List, ◌∷◌}
use lib.ListN.{length}
use borrow.Author.Tests.{lt-ltb}
use Rattle.record.specs.Kinds.{shape_in, shapes_of, kinds}
use Rattle.calculus.specs.Operators.{unary_of, binary_of}
use Rattle.calculus.specs.declared.Value.{Value}
use Rattle.calculus.specs.declared.Value.TheVariants.{Truth, Number}
use Rattle.answers.specs.declared.Cause.{Cause}
use Rattle.answers.specs.declared.Cause.TheVariants.{Empty, Conflict, OutOfRange}
use Rattle.calculus.specs.declared.Joined.{Joined}
use Rattle.calculus.specs.declared.Joined.TheVariants.{One}
use Rattle.calculus.specs.declared.Unary.{Unary}
use Rattle.calculus.specs.declared.Unary.TheVariants.{Not, Negate}
use Rattle.calculus.specs.declared.Binary.{Binary}
use Rattle.calculus.specs.declared.Binary.TheVariants.{And, Add, Subtract, Equal, Less}
use Rattle.book.specs.Typing.{unary_type, operand_type}
use Rattle.book.specs.declared.ValueType.{ValueType}
use Rattle.evaluation.specs.Types.{HasType}
use Rattle.translation.specs.Code.{unary_kind, binary_kind, raise_kind, literal_code}
use Rattle.translation.specs.Measures.{SayableValue, SayableCause}
use Rattle.machine.specs.Instructions as instruction
use Rattle.machine.specs.Instructions.{instruction_of}
use Rattle.machine.specs.Machine.{Cell, unset, given, stored, Callee, waiting, entered, Memory, Try, Surroundings, own_at, callee_at, value_at, answered, read_from, read_in, effect}
use Rattle.machine.specs.Run.{follow, exec}
use Rattle.machine.proofs.Steps.{exec_step, step_truth, step_number, step_own, step_called, effect_unary, effect_binary, step_raise_empty, step_raise_conflict, raise_at}
use Rattle.agreement.specs.Meets.{HoldsValue, CalleeHolds}

module _ (env : Surroundings) (m : Memory) (k : List ℕ) (st : List Joined) (ts : List Try) where
  pub literal_runs : (v : Value) → SayableValue v → length st < 1024 → exec env (literal_code v k) 0 st ts m ≡ exec env k 0 (One v ∷ st) ts m
  literal_runs (Truth b) s h = step_truth env st ts m b k h
  literal_runs (Number z) s h = step_number env st ts m z k s h

  read_runs : (c : Cell) (v : Value) → HoldsValue c v → length st < 1024 → follow (read_from c st ts m) (exec env k) ≡ exec env k 0 (One v ∷ st) ts m
  read_runs unset v p h = absurd p
  read_runs (given w) v p h = rw (lt-ltb (length st) 1024 h, p)
  read_runs (stored w) v p h = rw (lt-ltb (length st) 1024 h, p)

  pub own_runs : (x : ℕ) (v : Value) → HoldsValue (own_at m x) v → length st < 1024 → exec env (6 ∷ x ∷ k) 0 st ts m ≡ exec env k 0 (One v ∷ st) ts m
  own_runs x v p h = step_own env st ts m x k ∙ read_runs (own_at m x) v p h

  callee_runs : (c : Callee) (x : ℕ) (v : Value) → CalleeHolds c x v → length st < 1024
      → follow (read_in c x st ts m) (exec env k) ≡ exec env k 0 (One v ∷ st) ts m
  callee_runs (waiting gs) x v p h = absurd p
  callee_runs (entered vs) x v p h = read_runs (value_at vs x) v p h

  pub called_runs : (s x : ℕ) (v : Value) → CalleeHolds (callee_at m s) x v → length st < 1024
      → exec env (7 ∷ s ∷ x ∷ k) 0 st ts m ≡ exec env k 0 (One v ∷ st) ts m
  called_runs s x v p h = step_called env st ts m s x k ∙ callee_runs (callee_at m s) x v p h

  pub error_runs : (c : Cause) → SayableCause c → exec env (raise_kind c ∷ k) 0 st ts m ≡ raise_at env c k st ts m
  error_runs Empty s = step_raise_empty env m k st ts
  error_runs Conflict s = step_raise_conflict env m k st ts
  error_runs (OutOfRange i) s = absurd s

  unary_step : (op : Unary) (st₁ : List Joined)
      → exec env (unary_kind op ∷ k) 0 st₁ ts m ≡ follow (effect env (instruction.unary op) (length k) st₁ ts m) (exec env k)
  unfolding instruction_of shape_in shapes_of kinds
  unary_step Not st₁ = exec_step env st₁ ts m 10 k
  unary_step Negate st₁ = exec_step env st₁ ts m 11 k

  binary_step : (op : Binary) (st₁ : List Joined)
      → exec env (binary_kind op ∷ k) 0 st₁ ts m ≡ follow (effect env (instruction.binary op) (length k) st₁ ts m) (exec env k)
  unfolding instruction_of shape_in shapes_of kinds
  binary_step And st₁ = exec_step env st₁ ts m 12 k
  binary_step Add st₁ = exec_step env st₁ ts m 13 k
  binary_step Subtract st₁ = exec_step env st₁ ts m 14 k
  binary_step Equal st₁ = exec_step env st₁ ts m 15 k
  binary_step Less st₁ = exec_step env st₁ ts m 16 k

  pub unary_runs : (op : Unary) (v : Value) → HasType (unary_type op) v
      → exec env (unary_kind op ∷ k) 0 (One v ∷ st) ts m ≡ follow (answered (unary_of op v) st ts m) (exec env k)
  unary_runs op v p = unary_step op (One v ∷ st) ∙ rw (effect_unary env st ts m op v (length k) p)

  pub binary_runs : (op : Binary) (u : ValueType) (v w : Value) → HasType (operand_type op u) v → HasType (operand_type op u) w
      → exec env (binary_kind op ∷ k) 0 (One w ∷ One v ∷ st) ts m ≡ follow (answered (binary_of op v w) st ts m) (exec env k)
  binary_runs op u v w p q = binary_step op (One w ∷ One v ∷ st) ∙ rw (effect_binary env st ts m op u v w (length k) p q)
