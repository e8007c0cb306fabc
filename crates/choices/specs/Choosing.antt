-- The chosen variables judged, and put in order.
use Rattle.std.specs.Prelude.{ℕ, ◌≡◌, Bool, true, false, List, length, take, Option}
use Rattle.book.specs.declared.Variable.{Variable}
use Rattle.tabulation.specs.Chosen.{bad_choice, in_order}
use Rattle.calculus.specs.declared.Value.{Value}

-- what judging the chosen variables answers, and writes if they are good; what is written if they are bad is not said
pub record Choosing (variables : List Variable) (given : List (Option Value)) (chosen : List ℕ) (answer : Bool) (ordered : List ℕ) : Type 0 where
  pub size : length ordered ≡ 32
  pub taken : answer ≡ true → bad_choice variables given chosen ≡ false
  pub written : answer ≡ true → take (length chosen) ordered ≡ in_order chosen variables
  pub refused : answer ≡ false → bad_choice variables given chosen ≡ true
