-- The terms of the calculus.
use Rattle.std.specs.Prelude.{ℕ}
use Rattle.calculus.specs.declared.Value.{Value}
use Rattle.answers.specs.declared.Cause.{Cause}
use Rattle.calculus.specs.declared.Unary.{Unary}
use Rattle.calculus.specs.declared.Binary.{Binary}

mutual
  pub data Term : Type 0 where
    -- "constant", "number"
    literal : Value → Term
    -- "own variable": its number
    own : ℕ → Term
    -- "sub-scope variable": sub-scope, variable
    called : ℕ → ℕ → Term
    -- "empty", "conflict"; also out of range, which no book names
    error : Cause → Term
    unary : Unary → Term → Term
    binary : Binary → Term → Term → Term
    -- "if": condition, then, else
    choice : Term → Term → Term → Term
    -- "default": exceptions, justification, consequence
    default : Terms → Term → Term → Term

  -- exceptions, left to right
  pub data Terms : Type 0 where
    none : Terms
    also : Term → Terms → Terms
