-- Joined values by their cells: what a cell holds of them, and the cell that two of them join to.
use Rattle.std.specs.Prelude.{ℕ, cond, eqb, ltb}
use Rattle.calculus.specs.Joining.{join}
use Rattle.calculus.specs.declared.Joined.{Joined}
use Rattle.calculus.specs.declared.Joined.TheVariants.{Nothing, One, Many}
use Rattle.cells.specs.Codec.{many_cell, value_of}

-- nothing, a value, or many; any other cell below that of many counts as a value, one above it, as an end's, as many
unfoldable pub joined_of : ℕ → Joined
joined_of c = cond (eqb c 0) Nothing (cond (ltb c many_cell) (One (value_of c)) Many)

-- the cell of what two cells joined to; a value keeps the cell that it has, and stands where the other is nothing
abbrev pub cell_from : ℕ → ℕ → Joined → ℕ
cell_from a b Nothing = 0
cell_from a b (One v) = cond (eqb a 0) b a
cell_from a b Many = many_cell

unfoldable pub join_cell : ℕ → ℕ → ℕ
join_cell a b = cell_from a b (join (joined_of a) (joined_of b))
