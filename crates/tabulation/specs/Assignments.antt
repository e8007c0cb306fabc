-- "every choice of no and yes": an assignment holds one of them for each chosen variable, the lowest-numbered first.
use Rattle.std.specs.Prelude.{ℕ, zero, suc, ◌+◌, ◌*◌, Bool, true, false, List, [], ◌∷◌, ◌++◌, map, length}
use Rattle.lists.specs.Results.{bit}

-- the assignments of k variables: "The lowest-numbered chosen variable changes slowest, and no comes before yes."
unfoldable pub assignments : ℕ → List (List Bool)
assignments zero = [] ∷ []
assignments (suc k) = map (λ a. false ∷ a) (assignments k) ++ map (λ a. true ∷ a) (assignments k)

-- 2^k
unfoldable pub power : ℕ → ℕ
power zero = 1
power (suc k) = 2 * power k

-- the number of an assignment's row, from 0: no is the digit 0 and yes 1, the first variable the highest digit. That "Every choice is there once",
-- at this row, are the theorems choice_row and assignment_once
unfoldable pub row_number : List Bool → ℕ
row_number [] = 0
row_number (b ∷ bs) = bit b * power (length bs) + row_number bs

-- the input records of an assignment of as many variables: "kind 1 (variable, 0 or 1)"
unfoldable pub assigned : List ℕ → List Bool → List ℕ
assigned [] bs = []
assigned (v ∷ vs) [] = []
assigned (v ∷ vs) (b ∷ bs) = 1 ∷ v ∷ bit b ∷ assigned vs bs
