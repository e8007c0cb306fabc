-- The part of a scope's row that has its nodes and clauses, and what evaluating its trees rests on.
use Rattle.std.specs.Prelude.{ℕ, ◌+◌, ◌*◌, ◌<◌, ◌≤◌, ◌≡◌, true, false, List, length, get_or, take, drop, Result}
use Rattle.calculus.specs.Defaults.{settle}
use Rattle.cells.specs.Codec.{Codes, Gathers, AllKept}
use Rattle.book.specs.Syntax.{Scope, no_node}
use Rattle.book.specs.Decode.{scopes_of}
use Rattle.book.specs.References.{scope_at, no_clause, names_called, dangles_in}
use Rattle.book.specs.Positions.{node_from, node_length, clause_from, Found}
use Rattle.links.specs.Links.{Linked}
use Rattle.links.proofs.Named.{Chained}
use Rattle.terms.specs.Clauses.{rest_in}
use Rattle.trees.specs.Chains.{Ready}
use Rattle.answers.specs.declared.Cause.{Cause}
use Rattle.calculus.specs.declared.Joined.{Joined}

-- the positions of scope i's nodes, and then of its clauses
abbrev pub row_of : List ℕ → ℕ → List ℕ
row_of index i = take 378 (drop (124 + i * 418 + 44) index)

-- where the place of clause c stands in a row
abbrev pub clause_place : ℕ → ℕ
clause_place c = 250 + c

-- the row is that of scope i: each record is whole, and names what is there
pub record RowOf (bytes row : List ℕ) (i : ℕ) : Type 0 where
  pub nodes : (n : ℕ) → n < length (scope_at (scopes_of bytes) i).nodes
      → (n < length row) × Found node_from node_length bytes (get_or row n 0) (get_or (scope_at (scopes_of bytes) i).nodes n no_node)
  pub clauses : (c : ℕ) → c < length (scope_at (scopes_of bytes) i).clauses
      → (clause_place c < length row)
      × Found clause_from (λ k. 5) bytes (get_or row (clause_place c) 0) (get_or (scope_at (scopes_of bytes) i).clauses c no_clause)
  pub named : dangles_in (scopes_of bytes) (scope_at (scopes_of bytes) i) ≡ false

-- a cell for each variable that a node of the scope may name, with nothing or a value
pub record Roomy (book : List Scope) (s : Scope) (own called : List ℕ) : Type 0 where
  pub own_room : length s.variables ≤ length own
  pub called_room : (k x : ℕ) → names_called book s k x ≡ true → k * 32 + x < length called
  pub own_kept : AllKept own
  pub called_kept : AllKept called

-- the row and the links are those of scope i, whose variables have cells, and a chain begins in the cell
pub record Walk (bytes row links own called : List ℕ) (i cell : ℕ) : Type 0 where
  pub rowed : RowOf bytes row i
  pub roomy : Roomy (scopes_of bytes) (scope_at (scopes_of bytes) i) own called
  pub chained : Chained (scope_at (scopes_of bytes) i).clauses
  pub linked : Linked bytes i links
  pub head : cell < 417

-- the clause at a position, its exceptions having come to what the cell x says
abbrev pub Settles : List ℕ → List ℕ → List ℕ → List ℕ → ℕ → ℕ → ℕ → Type 0
Settles bytes row own called at x r = (g : Result Joined Cause) → Gathers x g → Codes r (settle g (rest_in bytes row own called at))

-- the trees of scope i can be evaluated: 32 own cells and 32 for each of its sub-scopes, with nothing or a value in each
pub record Evaluable (bytes index links own called : List ℕ) (i : ℕ) : Type 0 where
  pub ready : Ready bytes index links i
  pub scope : i < length (scopes_of bytes)
  pub own_room : 32 ≤ length own
  pub called_room : length (scope_at (scopes_of bytes) i).sub_scopes * 32 ≤ length called
  pub own_kept : AllKept own
  pub called_kept : AllKept called
