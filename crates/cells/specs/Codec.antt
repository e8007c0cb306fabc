-- A variable, a joined value and an outcome as one number, a cell: a tag times 2 ^ 32, and a payload below 2 ^ 32. The tags, in their order:
--     0 nothing   1 no   2 yes   3 a number, its bits   (4, 5: room for two more types of values)
--     6 many   7 empty   8 conflict   9 above   10 below
-- so one comparison tells a value from an end. No and yes have the payload 0: the payload of every value is the bits of its number.
use Rattle.std.specs.Prelude.{ℕ, ◌+◌, ◌*◌, ◌%◌, ◌≡◌, Bool, true, false, cond, List, get_or, eqb, ltb, ℤ, pos, Result, Ok, Err}
use Rattle.std.specs.Int.{w32}
use Rattle.std.proofs.Common.{SFits, to_z, of_z}
use Rattle.calculus.specs.Values.{number_of}
use Rattle.calculus.specs.declared.Value.{Value}
use Rattle.calculus.specs.declared.Value.TheVariants.{Truth, Number}
use Rattle.answers.specs.declared.Side.{Side}
use Rattle.answers.specs.declared.Side.TheVariants.{Above, Below}
use Rattle.answers.specs.declared.Cause.{Cause}
use Rattle.answers.specs.declared.Cause.TheVariants.{Empty, Conflict, OutOfRange}
use Rattle.calculus.specs.declared.Joined.TheVariants.{Nothing, One, Many}
use Rattle.calculus.specs.declared.Joined.{Joined}

abbrev pub tag : ℕ → ℕ
tag n = n * 4294967296

abbrev pub no_cell : ℕ
no_cell = tag 1

abbrev pub yes_cell : ℕ
yes_cell = tag 2

-- of the number 0
abbrev pub zero_cell : ℕ
zero_cell = tag 3

abbrev pub many_cell : ℕ
many_cell = tag 6

abbrev pub empty_cell : ℕ
empty_cell = tag 7

abbrev pub conflict_cell : ℕ
conflict_cell = tag 8

abbrev pub above_cell : ℕ
above_cell = tag 9

abbrev pub below_cell : ℕ
below_cell = tag 10

-- Values and outcomes

abbrev pub truth_cell : Bool → ℕ
truth_cell false = no_cell
truth_cell true = yes_cell

unfoldable pub value_cell : Value → ℕ
value_cell (Truth b) = truth_cell b
value_cell (Number z) = zero_cell + of_z w32 z

abbrev pub side_cell : Side → ℕ
side_cell Above = above_cell
side_cell Below = below_cell

abbrev pub cause_cell : Cause → ℕ
cause_cell Empty = empty_cell
cause_cell Conflict = conflict_cell
cause_cell (OutOfRange s) = side_cell s

unfoldable pub cell_of : Result Value Cause → ℕ
cell_of (Ok v) = value_cell v
cell_of (Err c) = cause_cell c

-- the payload of a value's cell, as a number
abbrev pub payload : ℕ → ℤ
payload c = to_z w32 (c % 4294967296)

-- what a cell below every end holds; of nothing, no
unfoldable pub value_of : ℕ → Value
value_of c = cond (ltb c zero_cell) (Truth (eqb c yes_cell)) (Number (payload c))

-- the side of a cell that is out of range
abbrev pub side_of : ℕ → Side
side_of c = cond (ltb c below_cell) Above Below

-- the cause of a cell that is an end
unfoldable pub cause_of : ℕ → Cause
cause_of c = cond (ltb c conflict_cell) Empty (cond (ltb c above_cell) Conflict (OutOfRange (side_of c)))

unfoldable pub outcome_of : ℕ → Result Value Cause
outcome_of c = cond (ltb c empty_cell) (Ok (value_of c)) (Err (cause_of c))

-- the number in an outcome
abbrev pub number_in : Result Value Cause → ℤ
number_in (Ok v) = number_of v
number_in (Err c) = pos 0

-- the cell is that of the outcome, whose number 32 bits hold
pub record Codes (c : ℕ) (o : Result Value Cause) : Type 0 where
  pub is : c ≡ cell_of o
  pub fits : SFits w32 (number_in o)

-- Exceptions so far: nothing, a value, many, or the end that they came to

unfoldable pub gathered_cell : Result Joined Cause → ℕ
gathered_cell (Ok Nothing) = 0
gathered_cell (Ok (One v)) = value_cell v
gathered_cell (Ok Many) = many_cell
gathered_cell (Err c) = cause_cell c

abbrev pub number_gathered : Result Joined Cause → ℤ
number_gathered (Ok Nothing) = pos 0
number_gathered (Ok (One v)) = number_of v
number_gathered (Ok Many) = pos 0
number_gathered (Err c) = pos 0

-- the cell is that of the exceptions so far
pub record Gathers (c : ℕ) (g : Result Joined Cause) : Type 0 where
  pub is : c ≡ gathered_cell g
  pub fits : SFits w32 (number_gathered g)

-- Variables

-- a variable's cell where it is read: nothing is read as no
abbrev pub held_cell : ℕ → ℕ
held_cell c = cond (eqb c 0) no_cell c

-- a variable's cell is nothing, or the cell of a value
abbrev pub Kept : ℕ → Type 0
Kept c = Codes (held_cell c) (Ok (value_of c))

abbrev pub AllKept : List ℕ → Type 0
AllKept cells = (x : ℕ) → Kept (get_or cells x 0)
