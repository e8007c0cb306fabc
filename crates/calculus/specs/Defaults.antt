-- Defaults: what the exceptions come to, and the result of the whole.
use Rattle.std.specs.Prelude.{Result, Ok, Err}
use Rattle.calculus.specs.Joining.{join}
use Rattle.answers.specs.declared.Cause.{Cause}
use Rattle.answers.specs.declared.Cause.TheVariants.{Empty, Conflict, OutOfRange}
use Rattle.calculus.specs.declared.Joined.TheVariants.{Nothing, One, Many}
use Rattle.calculus.specs.declared.Joined.{Joined}
use Rattle.calculus.specs.declared.Value.{Value}

-- what an exception without a value comes to: an empty one to nothing, any other to its own cause
abbrev pub caught : Cause → Result Joined Cause
caught Empty = Ok Nothing
caught Conflict = Err Conflict
caught (OutOfRange s) = Err (OutOfRange s)

-- what one exception comes to
abbrev pub found : Result Value Cause → Result Joined Cause
found (Ok v) = Ok (One v)
found (Err c) = caught c

-- what two parts of the exceptions come to, left first
abbrev pub together : Result Joined Cause → Result Joined Cause → Result Joined Cause
together (Err c) b = Err c
together (Ok j) (Err c) = Err c
together (Ok j) (Ok k) = Ok (join j k)

-- the exceptions so far and one more: "The first that is conflict or out of range is the result"
abbrev pub gather : Result Joined Cause → Result Value Cause → Result Joined Cause
gather g o = together g (found o)

-- "Else two or more that are not empty give conflict, equal values included; exactly one is the result"; with none, the rest is
abbrev pub settle : Result Joined Cause → Result Value Cause → Result Value Cause
settle (Err c) rest = Err c
settle (Ok Nothing) rest = rest
settle (Ok (One v)) rest = Ok v
settle (Ok Many) rest = Err Conflict
