-- The scopes of a book within the limits: "32 scopes; per scope 32 variables, 8 sub-scopes, 250 nodes, 128 clauses".
use Rattle.std.specs.Prelude.{ℕ, ◌≤◌, List, length}
use Rattle.book.specs.declared.Tally.{Tally}
use Rattle.book.specs.Syntax.{Scope}
use Rattle.book.specs.References.{scope_at}

pub record Within (book : List Scope) : Type 0 where
  pub scopes : length book ≤ 32
  pub variables : (i : ℕ) → length (scope_at book i).variables ≤ 32
  pub sub_scopes : (i : ℕ) → length (scope_at book i).sub_scopes ≤ 8
  pub nodes : (i : ℕ) → length (scope_at book i).nodes ≤ 250
  pub clauses : (i : ℕ) → length (scope_at book i).clauses ≤ 128

-- no limit is passed by what was read
pub record InLimits (t : Tally) : Type 0 where
  pub scopes : t.scopes ≤ 32
  pub variables : t.variables ≤ 32
  pub subs : t.subs ≤ 8
  pub nodes : t.nodes ≤ 250
  pub clauses : t.clauses ≤ 128
