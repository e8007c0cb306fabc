-- What judging answers, and what the tables lent hold afterwards.
use Rattle.std.specs.Prelude.{ℕ, ◌*◌, ◌<◌, ◌≤◌, cond, ◌≡◌, List, length, get_or, take, drop, Result, Ok, Err}
use Rattle.book.specs.Syntax.{Scope}
use Rattle.book.specs.References.{scope_at}
use Rattle.book.specs.Decode.{scopes_of}
use Rattle.book.specs.Scopes as scopes
use Rattle.book.specs.Steps.{step_count, step_order, dependency_cycle}
use Rattle.index.specs.Index.{Laid}
use Rattle.answers.specs.declared.Fault.TheVariants.{ScopeCycle, WeightExceeded, DependencyCycle}
use Rattle.answers.specs.declared.Fault.{Fault}

-- the tables of an accepted book: its records, the order of its blocks, the weight of each scope, and the order of each scope's steps in a
-- row of 40
pub record Tables (bytes index blocks weights orders : List ℕ) : Type 0 where
  pub laid : Laid bytes index
  pub block_order : take (length (scopes_of bytes)) blocks ≡ scopes.blocks (scopes_of bytes)
  pub weight_of : (i : ℕ) → i < length (scopes_of bytes) → get_or weights i 0 ≡ scopes.weight (scopes_of bytes) i
  pub step_orders : (i : ℕ) → i < length (scopes_of bytes)
      → take (step_count (scope_at (scopes_of bytes) i)) (drop (i * 40) orders) ≡ step_order (scope_at (scopes_of bytes) i)

-- "then 6 to 12, each over the whole book": the last three of these
unfoldable pub order_faults : List Scope → Result ℕ Fault
order_faults book =
    cond (scopes.scope_cycle book) (Err ScopeCycle)
    (cond (scopes.weight_exceeded book) (Err WeightExceeded)
    (cond (dependency_cycle book) (Err DependencyCycle)
    (Ok (length book))))

-- room for the orders and the weights
pub record Room (blocks weights orders : List ℕ) : Type 0 where
  pub block_room : 32 ≤ length blocks
  pub weight_room : 32 ≤ length weights
  pub order_room : 1280 ≤ length orders

-- an answer, and of an accepted book the tables
pub record Loads (bytes index blocks weights orders : List ℕ) (expected r : Result ℕ Fault) : Type 0 where
  pub answer : r ≡ expected
  pub tables : (n : ℕ) → r ≡ Ok n → Tables bytes index blocks weights orders
