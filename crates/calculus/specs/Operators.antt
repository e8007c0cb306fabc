-- The operators on values, over the whole numbers.
use Rattle.std.specs.Prelude.{not, ◌&&◌, neg_ℤ, ◌+ℤ◌, ◌-ℤ◌, Result, Ok}
use Rattle.std.specs.Int.Signed.{lt_z}
use Rattle.calculus.specs.Values.{truth_of, number_of, ranged, equal}
use Rattle.calculus.specs.declared.Value.{Value}
use Rattle.calculus.specs.declared.Value.TheVariants.{Truth}
use Rattle.calculus.specs.declared.Unary.{Unary}
use Rattle.calculus.specs.declared.Unary.TheVariants.{Not, Negate}
use Rattle.calculus.specs.declared.Binary.{Binary}
use Rattle.calculus.specs.declared.Binary.TheVariants.{And, Add, Subtract, Equal, Less}
use Rattle.answers.specs.declared.Cause.{Cause}

-- "10 not, 11 negate"
abbrev pub unary_of : Unary → Value → Result Value Cause
unary_of Not v = Ok (Truth (not (truth_of v)))
unary_of Negate v = ranged (neg_ℤ (number_of v))

-- "12 and, 13 add, 14 subtract, 15 equal, 16 less"
abbrev pub binary_of : Binary → Value → Value → Result Value Cause
binary_of And v w = Ok (Truth (truth_of v && truth_of w))
binary_of Add v w = ranged (number_of v +ℤ number_of w)
binary_of Subtract v w = ranged (number_of v -ℤ number_of w)
binary_of Equal v w = Ok (Truth (equal v w))
binary_of Less v w = Ok (Truth (lt_z (number_of v) (number_of w)))
