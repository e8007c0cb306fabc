-- The chosen variables: which lists of them are refused, and their order.
use Rattle.std.specs.Prelude.{ℕ, suc, Bool, cond, ◌||◌, List, [], ◌∷◌, length, ltb, Option}
use Rattle.order.specs.Order.{among}
use Rattle.book.specs.Lists.{any}
use Rattle.book.specs.Sharing.{repeats}
use Rattle.book.specs.declared.ValueType.TheVariants.{YesNo}
use Rattle.book.specs.declared.Variable.{Variable}
use Rattle.lists.specs.Inputs.{cannot_give}
use Rattle.calculus.specs.declared.Value.{Value}

-- one variable, by the variables of the scope and what the fixed input list gives: "absent, not yes/no, or in the fixed list"
abbrev pub unfit : List Variable → List (Option Value) → ℕ → Bool
unfit variables fixed = cannot_give variables fixed YesNo

-- 18: "more than 12 chosen, one chosen twice, absent, not yes/no, or in the fixed list"
unfoldable pub bad_choice : List Variable → List (Option Value) → List ℕ → Bool
bad_choice variables fixed chosen = ltb 12 (length chosen) || (repeats chosen || any (unfit variables fixed) chosen)

-- the chosen ones of the variables from v on, in number order, whatever order they are handed in
unfoldable pub chosen_from : List ℕ → ℕ → List Variable → List ℕ
chosen_from chosen v [] = []
chosen_from chosen v (x ∷ xs) = cond (among chosen v) (v ∷ chosen_from chosen (suc v) xs) (chosen_from chosen (suc v) xs)

-- the chosen variables of a scope, the lowest-numbered first
abbrev pub in_order : List ℕ → List Variable → List ℕ
in_order chosen variables = chosen_from chosen 0 variables
