-- What the passes answer, and what the memory lent holds afterwards.
use Rattle.std.specs.Prelude.{ℕ, ◌*◌, ◌<◌, ◌≡◌, Bool, false, List, ◌++◌, length, take, drop}
use Rattle.book.specs.Syntax.{Scope}
use Rattle.book.specs.References.{scope_at}
use Rattle.book.specs.Steps.{step_count, step_order, dependency_cycle}

-- the list is written from the first byte on, every later byte is as it was, and its length is answered
pub record Written (xs from : List ℕ) (r : ℕ) (to : List ℕ) : Type 0 where
  pub count : r ≡ length xs
  pub bytes : to ≡ xs ++ drop (length xs) from

-- whether a scope's steps depend on each other in a cycle; where none's do, row i of 40 bytes begins with the order of scope i's steps
pub record StepsFilled (book : List Scope) (r : Bool) (orders : List ℕ) : Type 0 where
  pub cycle : r ≡ dependency_cycle book
  pub rows : r ≡ false → (i : ℕ) → i < length book
      → take (step_count (scope_at book i)) (drop (i * 40) orders) ≡ step_order (scope_at book i)
