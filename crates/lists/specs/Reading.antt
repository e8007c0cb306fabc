-- An input list read into cells, one for each of 32 variables.
use Rattle.std.specs.Prelude.{ℕ, ◌≡◌, Bool, true, false, ◌&&◌, ◌||◌, List, map, length, get_or, take, eqb, ltb, Option, None}
use Rattle.cells.specs.Codec.{AllKept}
use Rattle.cells.specs.Cells.{given_at}
use Rattle.book.specs.Syntax.{type_of}
use Rattle.book.specs.declared.Variable.{Variable}
use Rattle.lists.specs.Inputs.{bad, good, input_length, inputs}
use Rattle.calculus.specs.declared.Value.{Value}

-- an input record, by its kind and the bytes after it: of no known kind, truncated, or an invalid byte
unfoldable pub malformed : ℕ → List ℕ → Bool
malformed k rest = eqb (input_length k) 0 || (ltb (length rest) (input_length k) || (eqb k 1 && ltb 1 (get_or rest 1 0)))

-- variables by one type byte each
unfoldable pub typed : List ℕ → List Variable
typed types = map (λ b. record { holds = type_of b }) types

-- the first n bytes are type bytes of the variables, one for each
pub record Filled (variables : List Variable) (n : ℕ) (types : List ℕ) : Type 0 where
  pub number : n ≡ length variables
  pub bytes : typed (take n types) ≡ variables

-- the list is good, and the cells hold what it gives
pub record Taken (variables : List Variable) (bytes cells : List ℕ) : Type 0 where
  pub givens : List (Option Value)
  pub list : inputs variables bytes ≡ good givens
  pub number : length givens ≡ length variables
  pub decoded : (v : ℕ) → given_at cells v ≡ get_or givens v None
  pub kept : AllKept cells

-- what reading a list answers, and leaves in the cells; what they hold after a bad list is not said
pub record Reading (variables : List Variable) (bytes : List ℕ) (answer : Bool) (cells : List ℕ) : Type 0 where
  pub size : length cells ≡ 32
  pub taken : answer ≡ true → Taken variables bytes cells
  pub refused : answer ≡ false → inputs variables bytes ≡ bad
