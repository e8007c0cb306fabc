-- What a variable holds, by its cell.
use Rattle.std.specs.Prelude.{ℕ, false, cond, List, get_or, eqb, Option, None, Some}
use Rattle.calculus.specs.declared.Value.{Value}
use Rattle.calculus.specs.declared.Value.TheVariants.{Truth}
use Rattle.cells.specs.Codec.{value_of}

unfoldable pub given_of : ℕ → Option Value
given_of c = cond (eqb c 0) None (Some (value_of c))

-- the cell at a place; past the end nothing
unfoldable pub given_at : List ℕ → ℕ → Option Value
given_at cells at = given_of (get_or cells at 0)

-- what a variable holds where it is read; one that is not set is never read
abbrev pub held : Option Value → Value
held None = Truth false
held (Some v) = v
