-- The owner of each node of a scope: the row of the step to whose tree it belongs; 255, which is no row, where none is known.
use Rattle.std.specs.Prelude.{ℕ, zero, suc, ◌<◌, ◌≡◌, Bool, true, false, cond, ◌&&◌, ◌||◌, List, length, get_or, eqb}
use Rattle.order.specs.Order.{among}
use Rattle.book.specs.Syntax.{Scope}
use Rattle.book.specs.References.{scope_at}
use Rattle.book.specs.Sharing.{operands}
use Rattle.book.specs.Trees.{term_of}
use Rattle.book.specs.Steps.{reads, depends_on}
use Rattle.book.specs.Positions.{node_at}

-- the nodes of a list are given to a row, and every other node keeps its owner; 255 is no node
pub record Owned (names : List ℕ) (row : ℕ) (from to : List ℕ) : Type 0 where
  pub long : length to ≡ length from
  pub owner : (m : ℕ) → m < 255 → get_or to m 0 ≡ cond (among names m) row (get_or from m 0)

-- some number below n has p
unfoldable pub some_below : (ℕ → Bool) → ℕ → Bool
some_below p zero = false
some_below p (suc n) = p n || some_below p n

-- the term of node n of a scope reads step y
unfoldable pub node_reads : Scope → ℕ → ℕ → Bool
node_reads s y n = reads (length s.variables) y (term_of s n)

-- some node below n has owner x, and its term reads y
unfoldable pub owned_edges : Scope → List ℕ → ℕ → ℕ → ℕ → Bool
owned_edges s owners n x y = some_below (λ m. eqb (get_or owners m 0) x && node_reads s y m) n

-- no node below n names one that has an owner
abbrev pub Unowned : List Scope → ℕ → List ℕ → ℕ → Type 0
Unowned book i owners n = (k m : ℕ) → k < n → among (operands (node_at book i k)) m ≡ true → get_or owners m 0 ≡ 255

-- the nodes that have an owner are those that clauses name, and with what their terms read the steps' dependencies are whole
pub record Roots (book : List Scope) (i : ℕ) (owners : List ℕ) : Type 0 where
  pub long : length owners ≡ 256
  pub free : Unowned book i owners (length (scope_at book i).nodes)
  pub edges : (x y : ℕ) → x < 40 → owned_edges (scope_at book i) owners (length (scope_at book i).nodes) x y ≡ depends_on (scope_at book i) x y
