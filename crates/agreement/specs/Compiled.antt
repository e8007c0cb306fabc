-- The blocks of a book's code, as the machine finds them.
use Rattle.std.specs.Prelude.{ℕ, List, [], map, reverse}
use Rattle.book.specs.Syntax.{Scope}
use Rattle.book.specs.References.{scope_at}
use Rattle.book.specs.Scopes.{blocks}
use Rattle.book.specs.Steps.{step_order}
use Rattle.translation.specs.Blocks.{steps_code}
use Rattle.machine.specs.Blocks.{Block}

-- the block of scope i
abbrev pub compiled_block : List Scope → ℕ → Block
compiled_block book i =
    record {
      scope = i;
      variables = (scope_at book i).variables;
      sub_scopes = (scope_at book i).sub_scopes;
      body = steps_code book (scope_at book i) (step_order (scope_at book i)) [];
    }

-- the blocks of these scopes
unfoldable pub compiled_in : List Scope → List ℕ → List Block
compiled_in book is = map (compiled_block book) is

-- all of them, last block first
unfoldable pub compiled : List Scope → List Block
compiled book = compiled_in book (reverse (blocks book))
