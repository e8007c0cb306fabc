-- Marks for the chosen variables: a byte for each number, not 0 where it is chosen.
use Rattle.std.specs.Prelude.{ℕ, suc, ◌≡◌, Bool, true, false, cond, List, [], ◌∷◌, length, take, eqb, Option}
use Rattle.order.specs.Matrix.{marked}
use Rattle.book.specs.declared.Variable.{Variable}
use Rattle.order.specs.Order.{among}
use Rattle.tabulation.specs.Chosen.{bad_choice}
use Rattle.calculus.specs.declared.Value.{Value}

-- the numbers that are marked, in order, the first byte's number being v
unfoldable pub marked_from : ℕ → List ℕ → List ℕ
marked_from v [] = []
marked_from v (m ∷ ms) = cond (eqb m 0) (marked_from (suc v) ms) (v ∷ marked_from (suc v) ms)

-- what marking the chosen variables answers: whether they are good; and if they are, that they are marked and no other
pub record ChosenMarked (variables : List Variable) (given : List (Option Value)) (chosen : List ℕ) (answer : Bool) (marks : List ℕ) : Type 0 where
  pub size : length marks ≡ 32
  pub taken : answer ≡ true → bad_choice variables given chosen ≡ false
  pub exact : answer ≡ true → (v : ℕ) → marked marks v ≡ among chosen v
  pub refused : answer ≡ false → bad_choice variables given chosen ≡ true

-- the marked numbers are written from the first place on
pub record MarkedWritten (marks ordered : List ℕ) : Type 0 where
  pub size : length ordered ≡ 32
  pub written : take (length (marked_from 0 marks)) ordered ≡ marked_from 0 marks
