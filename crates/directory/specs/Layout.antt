-- The layout of the directory of a code's blocks, one slice of numbers.
--   places   for each of 32 scopes 1 more than the number of its block, 0 where it has none
--   rows     from 32 on, 45 numbers for each block: where its instructions begin and end, its weight, how many variables and sub-scopes it has,
--            the block of each of 8 sub-scopes, the type byte of each of 32 variables
-- Blocks are numbered from 0 in the order of the code.
use Rattle.std.specs.Prelude.{ℕ, ◌+◌, ◌-◌, ◌*◌, ◌%◌, ◌<◌, ◌≡◌, cond, List, length, get_or, take, drop, ltb}
use Rattle.book.specs.Syntax.{type_of}
use Rattle.book.specs.declared.ValueType.{ValueType}
use Rattle.book.specs.declared.ValueType.TheVariants.{YesNo}
use Rattle.book.specs.declared.Variable.{Variable}

-- of scope i 1 more than the number of its block; 0 where it has none
unfoldable pub place_in : List ℕ → ℕ → ℕ
place_in directory i = cond (ltb i 32) (get_or directory i 0) 0

-- where the instructions of block p begin and end
unfoldable pub begin_in : List ℕ → ℕ → ℕ
begin_in directory p = get_or directory (p * 45 + 32) 0

unfoldable pub end_in : List ℕ → ℕ → ℕ
end_in directory p = get_or directory (p * 45 + 33) 0

-- the bytes between them
unfoldable pub body_in : List ℕ → List ℕ → ℕ → List ℕ
body_in code directory p = take (end_in directory p - begin_in directory p) (drop (begin_in directory p) code)

unfoldable pub block_weight : List ℕ → ℕ → ℕ
block_weight directory p = get_or directory (p * 45 + 34) 0

-- how many variables and sub-scopes it has
unfoldable pub variables_in : List ℕ → ℕ → ℕ
variables_in directory p = get_or directory (p * 45 + 35) 0

unfoldable pub sub_scopes_in : List ℕ → ℕ → ℕ
sub_scopes_in directory p = get_or directory (p * 45 + 36) 0

-- the block of sub-scope k, and how many variables that has
unfoldable pub block_in : List ℕ → ℕ → ℕ → ℕ
block_in directory p k = get_or directory (p * 45 + 37 + k) 0

unfoldable pub size_in : List ℕ → ℕ → ℕ → ℕ
size_in directory p k = variables_in directory (block_in directory p k)

-- the type of variable x
unfoldable pub type_in : List ℕ → ℕ → ℕ → ValueType
type_in directory p x = type_of (get_or directory (p * 45 + 45 + x) 0 % 256)

-- the row of block p is that of a block with these variables
pub record Declares (directory : List ℕ) (p : ℕ) (variables : List Variable) : Type 0 where
  pub number : variables_in directory p ≡ length variables
  pub types : (v : ℕ) → v < length variables → type_in directory p v ≡ (get_or variables v (record { holds = YesNo })).holds
