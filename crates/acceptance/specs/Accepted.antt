-- What is so in an accepted book.
use Rattle.std.specs.Prelude.{ℕ, ◌<◌, ◌≤◌, ◌≡◌, Bool, true, false, List, length, get_or, take}
use Rattle.order.specs.Order.{among}
use Rattle.book.specs.Syntax.{Scope}
use Rattle.book.specs.Decode.{scopes_of}
use Rattle.book.specs.References.{scope_at, node_names, clause_names}
use Rattle.book.specs.Sharing.{namings, repeats}
use Rattle.book.specs.Typing.{type_of_node, node_fits, clause_fits}
use Rattle.book.specs.Mixing.{mixed_pair}
use Rattle.book.specs.Scopes.{calls, blocks, weight}
use Rattle.book.specs.Steps.{depends_on, step_count, step_order}
use Rattle.book.specs.declared.Node.{Node}
use Rattle.book.specs.declared.Clause.{Clause}

-- "per scope 32 variables, 8 sub-scopes, 250 nodes, 128 clauses"
pub record WithinLimits (s : Scope) : Type 0 where
  pub variables : length s.variables ≤ 32
  pub sub_scopes : length s.sub_scopes ≤ 8
  pub nodes : length s.nodes ≤ 250
  pub clauses : length s.clauses ≤ 128

-- the faults 6 to 9 are in no part of the scope
pub record WellFormed (book : List Scope) (s : Scope) : Type 0 where
  pub sub_scopes_named : (k : ℕ) → k < length s.sub_scopes → get_or s.sub_scopes k 0 < length book
  pub nodes_named : (n : ℕ) → n < length s.nodes → (d : Node) → node_names book s n (get_or s.nodes n d) ≡ true
  pub clauses_named : (n : ℕ) → n < length s.clauses → (d : Clause) → clause_names book s n (get_or s.clauses n d) ≡ true
  pub unshared : repeats (namings s) ≡ false
  pub nodes_fit : (n : ℕ) → n < length s.nodes → (d : Node) → node_fits (type_of_node book s) (get_or s.nodes n d) ≡ true
  pub clauses_fit : (n : ℕ) → n < length s.clauses → (d : Clause)
      → clause_fits book s (type_of_node book s) (get_or s.clauses n d) ≡ true
  pub unmixed : (m n : ℕ) → m < length s.clauses → n < length s.clauses → (d : Clause)
      → mixed_pair (get_or s.clauses m d) (get_or s.clauses n d) ≡ false

-- the numbers below n, each exactly once, and each after all below n that it depends on
pub record CompleteOrder (edge : ℕ → ℕ → Bool) (n : ℕ) (xs : List ℕ) : Type 0 where
  pub count : length xs ≡ n
  pub below : (i : ℕ) → i < length xs → get_or xs i 0 < n
  pub every : (v : ℕ) → v < n → among xs v ≡ true
  pub once : (i j : ℕ) → i < length xs → j < length xs → get_or xs i 0 ≡ get_or xs j 0 → i ≡ j
  pub after : (i : ℕ) → i < length xs → (w : ℕ) → w < n → edge (get_or xs i 0) w ≡ true → among (take i xs) w ≡ true

-- a book of n scopes that is accepted
pub record AcceptedBook (bytes : List ℕ) (n : ℕ) : Type 0 where
  pub count : n ≡ length (scopes_of bytes)
  pub size : length bytes ≤ 32768
  pub scopes : n ≤ 32
  pub within : (i : ℕ) → WithinLimits (scope_at (scopes_of bytes) i)
  pub formed : (i : ℕ) → i < n → WellFormed (scopes_of bytes) (scope_at (scopes_of bytes) i)
  pub weights : (i : ℕ) → i < n → weight (scopes_of bytes) i ≤ 4096
  pub block_order : CompleteOrder (calls (scopes_of bytes)) n (blocks (scopes_of bytes))
  pub step_orders : (i : ℕ) → i < n
      → CompleteOrder (depends_on (scope_at (scopes_of bytes) i)) (step_count (scope_at (scopes_of bytes) i)) (step_order (scope_at (scopes_of bytes) i))
