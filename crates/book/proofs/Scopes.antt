-- A search through the scopes of a book, for a fault of one scope.
--     stopped, next, finished    the scope has the fault; it does not; no scope is left
-- Assumes nothing.
use Prim.Native.Nat.{ℕ, ◌+◌, ◌<◌, ◌≤◌}
use mathlib.Core.Path.{◌≡◌, sym, ◌∙◌}
use mathlib.Core.Bool.{Bool, true, false}
use mathlib.Core.List.{List}
use lib.ListN.{length}
use Rattle.book.specs.Lists.{any}
use Rattle.book.specs.Syntax.{Scope, empty_scope}
use Rattle.book.specs.References.{scope_at}
use Rattle.book.proofs.Searches.{Sought, turn, found, ended, any_from_lem}

-- no scope below i has the fault
abbrev pub Passed : List Scope → (Scope → Bool) → ℕ → Type 0
Passed book p i = Sought (λ k s. p s) book i

module _ (book : List Scope) (p : Scope → Bool) {scopes i : ℕ} (all : scopes ≡ length book) (g : Passed book p i) where
  module _ (r : Bool) (below : i < scopes) (told : r ≡ p (scope_at book i)) where
    pub stopped : r ≡ true → true ≡ any p book
    stopped e = found _ _ _ g empty_scope (rw (← all) below) (sym told ∙ e) ∙ any_from_lem p 0 book

    pub next : r ≡ false → Passed book p (i + 1)
    next e = turn _ _ _ g empty_scope (rw (← all) below) (sym told ∙ e)

  pub finished : scopes ≤ i → false ≡ any p book
  finished h = ended _ _ _ g (rw (← all) h) ∙ any_from_lem p 0 book
