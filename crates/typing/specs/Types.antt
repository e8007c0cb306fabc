-- The types of a scope's nodes as a table of bytes, and what is asked by that table.
use Rattle.std.specs.Prelude.{ℕ, Bool, cond, List, get_or, eqb}
use Rattle.book.specs.Syntax.{Scope}
use Rattle.book.specs.References.{scope_at}
use Rattle.book.specs.Typing.{type_at, called_type_at, exception_fits, clause_fits}
use Rattle.book.specs.declared.ValueType.{ValueType}
use Rattle.book.specs.declared.ValueType.TheVariants.{YesNo, Numeric}
use Rattle.book.specs.declared.Clause.{Clause}

-- the type that a table has for node n; yes/no for a node that it does not have
unfoldable pub type_in : List ℕ → ℕ → ValueType
type_in types n = cond (eqb (get_or types n 0) 0) YesNo Numeric

-- the type of variable v of scope i
unfoldable pub own_type : List Scope → ℕ → ℕ → ValueType
own_type book i v = type_at (scope_at book i) v

-- the type of variable v of sub-scope k of scope i
unfoldable pub called_type : List Scope → ℕ → ℕ → ℕ → ValueType
called_type book i k v = called_type_at book (scope_at book i) k v

-- "255: none", or a node of this type
unfoldable pub named_fits : List ℕ → ValueType → ℕ → Bool
named_fits types t n = exception_fits (type_in types) t n

-- a clause of scope i has a yes/no condition and a consequence of its target's type
unfoldable pub clause_suits : List Scope → ℕ → List ℕ → Clause → Bool
clause_suits book i types c = clause_fits book (scope_at book i) (type_in types) c
