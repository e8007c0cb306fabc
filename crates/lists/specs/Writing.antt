-- Results written from cells.
use Rattle.std.specs.Prelude.{ℕ, zero, suc, ◌+◌, ◌<◌, ◌≡◌, Bool, true, false, List, [], ◌∷◌, ◌++◌, length, get_or, drop, Option, None, Some}
use Rattle.calculus.specs.declared.Value.{Value}
use Rattle.calculus.specs.declared.Value.TheVariants.{Truth, Number}
use Rattle.cells.specs.Cells.{given_at, held}
use Rattle.slices.specs.Bytes.{overwrite}
use Rattle.book.specs.Syntax.{Scope, same_type}
use Rattle.book.specs.References.{scope_at}
use Rattle.book.specs.declared.ValueType.{ValueType}
use Rattle.book.specs.declared.ValueType.TheVariants.{YesNo, Numeric}
use Rattle.book.specs.declared.Variable.{Variable}
use Rattle.lists.specs.Results.{result_length, results}

-- the length of the results of scope i
unfoldable pub result_length_at : List Scope → ℕ → ℕ
result_length_at book i = result_length (scope_at book i).variables

-- what n cells from v on hold
unfoldable pub values_from : List ℕ → ℕ → ℕ → List Value
values_from cells v zero = []
values_from cells v (suc n) = held (given_at cells v) ∷ values_from cells (suc v) n

-- what the first n cells hold
unfoldable pub values_of : List ℕ → ℕ → List Value
values_of cells n = values_from cells 0 n

abbrev pub value_type : Value → ValueType
value_type (Truth b) = YesNo
value_type (Number z) = Numeric

-- a value of a type is there
abbrev pub is_of : ValueType → Option Value → Bool
is_of t None = false
is_of t (Some v) = same_type t (value_type v)

-- each variable's cell holds a value of its type
pub record Typed (variables : List Variable) (cells : List ℕ) : Type 0 where
  pub typed : (v : ℕ) → v < length variables → is_of (get_or variables v (record { holds = YesNo })).holds (given_at cells v) ≡ true

-- bytes written at a position, and the position after them
pub record Put (before : List ℕ) (at : ℕ) (bytes : List ℕ) (end : ℕ) (after : List ℕ) : Type 0 where
  pub memory : after ≡ overwrite before at bytes
  pub next : end ≡ at + length bytes

-- the records of values, from the memory's first byte
abbrev pub written : List Value → List ℕ → List ℕ
written vs memory = results vs ++ drop (length (results vs)) memory

-- "Lent memory changes only where .. values are written, from its first byte, and nothing after them"
unfoldable pub result_memory : List Scope → ℕ → List ℕ → List ℕ → List ℕ
result_memory book i cells memory = written (values_of cells (length (scope_at book i).variables)) memory
