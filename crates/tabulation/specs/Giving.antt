-- What is given for an assignment.
use Rattle.std.specs.Prelude.{ℕ, Bool, List, [], ◌∷◌, set, Option, Some}
use Rattle.calculus.specs.declared.Value.TheVariants.{Truth}
use Rattle.calculus.specs.declared.Value.{Value}

-- "with a fixed input list for the rest": what the list gives, and no or yes at each chosen variable
unfoldable pub giving : List (Option Value) → List ℕ → List Bool → List (Option Value)
giving gs [] bs = gs
giving gs (v ∷ vs) [] = gs
giving gs (v ∷ vs) (b ∷ bs) = giving (set gs v (Some (Truth b))) vs bs
