-- How many rows the directory of short code needs at most.
use Rattle.std.specs.Prelude.{ℕ, suc, ◌+◌, Bool, cond, ◌&&◌, List, [], ◌∷◌, get_or, eqb, ltb}

-- two bytes that may begin a block: a 1, and the number of a scope
abbrev pub begins : ℕ → ℕ → Bool
begins a b = eqb a 1 && ltb b 32

unfoldable pub begins_at : List ℕ → ℕ → Bool
begins_at code at = begins (get_or code at 0) (get_or code (at + 1) 0)

-- how many bytes may begin a block
unfoldable pub beginnings_in : List ℕ → ℕ
beginnings_in [] = 0
beginnings_in (b ∷ rest) = let n = beginnings_in rest in cond (begins b (get_or rest 0 0)) (suc n) n
