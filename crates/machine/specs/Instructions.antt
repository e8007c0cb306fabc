-- The instructions of code, by their kinds and bodies.
use Rattle.std.specs.Prelude.{ℕ, cond, List, get_or, eqb}
use Rattle.slices.specs.Bytes.{big_endian, number_at}
use Rattle.calculus.specs.declared.Value.{Value}
use Rattle.calculus.specs.declared.Value.TheVariants.{Truth, Number}
use Rattle.answers.specs.declared.Cause.{Cause}
use Rattle.answers.specs.declared.Cause.TheVariants.{Empty, Conflict}
use Rattle.calculus.specs.declared.Unary.{Unary}
use Rattle.calculus.specs.declared.Unary.TheVariants.{Not, Negate}
use Rattle.calculus.specs.declared.Binary.{Binary}
use Rattle.calculus.specs.declared.Binary.TheVariants.{And, Add, Subtract, Equal, Less}

-- numbers are those of variables and sub-scopes of the block; a distance is counted in bytes, from the instruction's end
pub data Instruction : Type 0 where
  -- "Kinds 4–7 push as in the book"
  push : Value → Instruction
  read_own : ℕ → Instruction
  read_called : ℕ → ℕ → Instruction
  -- "10–16 have no body and work on the stack"
  unary : Unary → Instruction
  binary : Binary → Instruction
  -- "raise empty; raise conflict"
  raise : Cause → Instruction
  -- "jump; take a yes/no and jump on no"
  jump jump_if_no : ℕ → Instruction
  -- "try, keeping the stack height"; "end of try"
  begin_try : ℕ → Instruction
  end_try : Instruction
  -- "push 'nothing'"; "join the top two"; "settle"
  push_nothing join : Instruction
  settle : ℕ → Instruction
  -- "own variable; sub-scope and variable: store"
  store : ℕ → Instruction
  override : ℕ → ℕ → Instruction
  -- "sub-scope: enter"
  enter : ℕ → Instruction
  -- "variable, distance: jump if given"
  jump_if_given : ℕ → ℕ → Instruction
  -- any other kind; accepted code has none
  unknown : Instruction

-- the instruction of a kind, with all bytes after the kind
unfoldable pub instruction_of : ℕ → List ℕ → Instruction
instruction_of k rest =
    let a = get_or rest 0 0 in
    let b = get_or rest 1 0 in
    let d = big_endian 2 rest 0 in
    cond (eqb k 4) (push (Truth (eqb a 1)))
    (cond (eqb k 5) (push (Number (number_at rest 0)))
    (cond (eqb k 6) (read_own a)
    (cond (eqb k 7) (read_called a b)
    (cond (eqb k 10) (unary Not)
    (cond (eqb k 11) (unary Negate)
    (cond (eqb k 12) (binary And)
    (cond (eqb k 13) (binary Add)
    (cond (eqb k 14) (binary Subtract)
    (cond (eqb k 15) (binary Equal)
    (cond (eqb k 16) (binary Less)
    (cond (eqb k 32) (raise Empty)
    (cond (eqb k 33) (raise Conflict)
    (cond (eqb k 34) (jump d)
    (cond (eqb k 35) (jump_if_no d)
    (cond (eqb k 36) (begin_try d)
    (cond (eqb k 37) end_try
    (cond (eqb k 38) push_nothing
    (cond (eqb k 39) join
    (cond (eqb k 40) (settle d)
    (cond (eqb k 41) (store a)
    (cond (eqb k 42) (override a b)
    (cond (eqb k 43) (enter a)
    (cond (eqb k 44) (jump_if_given a (big_endian 2 rest 1))
    unknown)))))))))))))))))))))))
