-- Values: a yes/no or a number, each read at its own type, and the range of numbers.
use Rattle.std.specs.Prelude.{Bool, false, not, cond, eqb, ℤ, pos, negsuc, Result, Ok, Err}
use Rattle.std.specs.Int.Signed.{lt_z}
use Rattle.calculus.specs.declared.Value.{Value}
use Rattle.calculus.specs.declared.Value.TheVariants.{Truth, Number}
use Rattle.answers.specs.declared.Side.TheVariants.{Above, Below}
use Rattle.answers.specs.declared.Cause.TheVariants.{OutOfRange}
use Rattle.answers.specs.declared.Cause.{Cause}

-- "'Not' and 'and' take yes/no": of a number, no; an accepted book never meets one here
abbrev pub truth_of : Value → Bool
truth_of (Truth b) = b
truth_of (Number n) = false

-- "negate, add, subtract and less take numbers": of a yes/no, 0; an accepted book never meets one here
abbrev pub number_of : Value → ℤ
number_of (Truth b) = pos 0
number_of (Number n) = n

-- −2,147,483,648
abbrev pub lowest : ℤ
lowest = negsuc 2147483647

abbrev pub highest : ℤ
highest = pos 2147483647

-- what an exact result comes to: "Out of range (ours): add, subtract or negate leaving −2,147,483,648 to 2,147,483,647"; "Add, subtract and negate
-- say above or below" (paper 02, No. 3)
abbrev pub ranged : ℤ → Result Value Cause
ranged z = cond (lt_z z lowest) (Err (OutOfRange Below)) (cond (lt_z highest z) (Err (OutOfRange Above)) (Ok (Number z)))

abbrev pub equal_numbers : ℤ → ℤ → Bool
equal_numbers (pos a) (pos b) = eqb a b
equal_numbers (pos a) (negsuc b) = false
equal_numbers (negsuc a) (pos b) = false
equal_numbers (negsuc a) (negsuc b) = eqb a b

-- "equal takes two of one type": of two types, no; an accepted book never compares them
abbrev pub equal : Value → Value → Bool
equal (Truth a) (Truth b) = cond a b (not b)
equal (Truth a) (Number n) = false
equal (Number m) (Truth b) = false
equal (Number m) (Number n) = equal_numbers m n
