-- The records of a book by their positions, and what they declare by scope and number.
use Rattle.std.specs.Prelude.{ℕ, ◌+◌, ◌<◌, ◌≡◌, cond, List, length, get_or, drop, eqb}
use Rattle.record.specs.Kinds.{shape_in}
use Rattle.record.specs.declared.Medium.TheVariants.{Book}
use Rattle.book.specs.Syntax.{Scope, no_node, variable_of, node_of, clause_of}
use Rattle.book.specs.References.{scope_at, no_clause}
use Rattle.book.specs.declared.ValueType.TheVariants.{YesNo}
use Rattle.book.specs.declared.Variable.{Variable}
use Rattle.book.specs.declared.Node.{Node}
use Rattle.book.specs.declared.Clause.{Clause}

-- a variable, sub-scope, node or clause of a scope of the book, by its number
unfoldable pub variable_at : List Scope → ℕ → ℕ → Variable
variable_at book i v = get_or (scope_at book i).variables v (record { holds = YesNo })

unfoldable pub sub_scope_at : List Scope → ℕ → ℕ → ℕ
sub_scope_at book i k = get_or (scope_at book i).sub_scopes k 0

unfoldable pub node_at : List Scope → ℕ → ℕ → Node
node_at book i n = get_or (scope_at book i).nodes n no_node

unfoldable pub clause_at : List Scope → ℕ → ℕ → Clause
clause_at book i c = get_or (scope_at book i).clauses c no_clause

-- what the record that begins at a position is; it looks at no byte past its body
unfoldable pub variable_from : List ℕ → ℕ → Variable
variable_from bytes at = variable_of (drop (at + 1) bytes)

unfoldable pub sub_scope_from : List ℕ → ℕ → ℕ
sub_scope_from bytes at = get_or (drop (at + 1) bytes) 0 0

unfoldable pub node_from : List ℕ → ℕ → Node
node_from bytes at = node_of (get_or bytes at 0) (drop (at + 1) bytes)

unfoldable pub clause_from : List ℕ → ℕ → Clause
clause_from bytes at = clause_of (get_or bytes at 0) (drop (at + 1) bytes)

-- how many bytes the body of a node has; a kind that is no node's is read as a default
unfoldable pub node_length : ℕ → ℕ
node_length k = cond (eqb (shape_in Book k).stage 4) (shape_in Book k).length 5

-- what stands at a position is x, and its body, as long as its kind says, is whole
pub record Found {A : Type 0} (from : List ℕ → ℕ → A) (long : ℕ → ℕ) (bytes : List ℕ) (at : ℕ) (x : A) : Type 0 where
  pub is : from bytes at ≡ x
  pub whole : at + long (get_or bytes at 0) < length bytes
