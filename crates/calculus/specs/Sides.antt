-- What add, subtract and negate come to by their exact result, said by itself: the number where 32 bits hold it, else the side on which it lies.
use Rattle.std.specs.Prelude.{◌≡◌, Bool, true, ℤ, Result, Ok, Err}
use Rattle.std.specs.Int.Signed.{lt_z}
use Rattle.std.specs.Int.{w32}
use Rattle.std.proofs.Common.{SFits}
use Rattle.calculus.specs.Values.{lowest, highest}
use Rattle.calculus.specs.declared.Value.{Value}
use Rattle.calculus.specs.declared.Value.TheVariants.{Number}
use Rattle.answers.specs.declared.Side.{Side}
use Rattle.answers.specs.declared.Side.TheVariants.{Above, Below}
use Rattle.answers.specs.declared.Cause.TheVariants.{OutOfRange}
use Rattle.answers.specs.declared.Cause.{Cause}

-- a number lies out of the range on this side
abbrev pub beyond : Side → ℤ → Bool
beyond Above z = lt_z highest z
beyond Below z = lt_z z lowest

-- "Add, subtract and negate say above or below" (paper 02, No. 3): the outcome o of the exact result z
pub record ComesTo (z : ℤ) (o : Result Value Cause) : Type 0 where
  -- a side, exactly where the exact result lies out of the range on it
  pub side : (s : Side) → beyond s z ≡ true → o ≡ Err (OutOfRange s)
  pub side_only : (s : Side) → o ≡ Err (OutOfRange s) → beyond s z ≡ true
  -- the number itself, exactly where 32 bits hold it
  pub number : SFits w32 z → o ≡ Ok (Number z)
  pub number_only : (v : Value) → o ≡ Ok v → SFits w32 z
