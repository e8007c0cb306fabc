-- The judge's tests for cycles are those of reaching.
--     denied                   a test that holds if and only if P does fails if and only if P does not hold
--     lacks_one                in any graph: the order lacks a vertex if and only if some vertex reaches itself
--     scope_cycle_lem              the test for a scope cycle holds if and only if a scope reaches itself through sub-scopes
--     no_scope_cycle           it does not hold if and only if none does
--     dependency_cycle_lem         the same of steps
--     no_dependency_cycle
--     dependency_cycle_in_lem      the same of the steps of one scope
--     no_dependency_cycle_in
-- Assumes nothing.
use Prim.Native.Nat.{ℕ, ◌<◌}
use mathlib.Core.Path.{◌≡◌, sym, ◌∙◌}
use mathlib.Core.Bool.{Bool, true, false, not, false≢true}
use mathlib.Core.List.{List}
use mathlib.Core.Logic.{⊎_elim, ◌↔◌}
use lib.ListN.{length}
use lib.Dec.{eqb}
use borrow.Author.Tests.{eqb-true, eqb-false, not-true, not-false}
use Rattle.order.specs.Order.{order}
use Rattle.order.specs.Reaching.{Reaches}
use Rattle.laws.proofs.Booleans.{decide}
use Rattle.order.proofs.Order.{order_or_cycle, order_complete}
use Rattle.book.specs.Syntax.{Scope, empty_scope}
use Rattle.book.specs.References.{scope_at}
use Rattle.book.specs.Scopes.{calls, blocks, scope_cycle, HasScopeCycle}
use Rattle.book.specs.Steps.{depends_on, step_count, step_order, dependency_cycle_in, dependency_cycle, HasDependencyCycle}
use Rattle.book.proofs.Searches.{any_true, any_at}

pub denied : {P : Type 0} (b : Bool) → (b ≡ true) ↔ P → (b ≡ false) ↔ (P → ⊥)
denied b e = (
  λ f p. false≢true (sym f ∙ e.1 p),
  λ n. ⊎_elim (λ t. absurd (n (e.0 t))) (λ f. f) (decide b),
)

module _ (edge : ℕ → ℕ → Bool) (n : ℕ) where
  pub lacks_one : (not (eqb (length (order edge n)) n) ≡ true) ↔ ((v : ℕ) × (v < n) × Reaches edge n v v)
  lacks_one = (
    λ t.
        ⊎_elim
        (λ full. absurd (eqb-false (length (order edge n)) n (not-true (eqb (length (order edge n)) n) t) full))
        (λ c. c)
        (order_or_cycle edge n),
    λ c.
        ⊎_elim
        (λ t. t)
        (λ f.
        absurd ((order_complete edge n).0 (eqb-true (length (order edge n)) n (not-false (eqb (length (order edge n)) n) f)) c.0 c.1 c.2))
        (decide (not (eqb (length (order edge n)) n))),
  )

pub scope_cycle_lem : (book : List Scope) → (scope_cycle book ≡ true) ↔ HasScopeCycle book
unfolding scope_cycle blocks
scope_cycle_lem book = lacks_one (calls book) (length book)

pub no_scope_cycle : (book : List Scope) → (scope_cycle book ≡ false) ↔ (HasScopeCycle book → ⊥)
no_scope_cycle book = denied (scope_cycle book) (scope_cycle_lem book)

pub dependency_cycle_in_lem : (s : Scope)
    → (dependency_cycle_in s ≡ true) ↔ ((x : ℕ) × (x < step_count s) × Reaches (depends_on s) (step_count s) x x)
unfolding dependency_cycle_in step_order
dependency_cycle_in_lem s = lacks_one (depends_on s) (step_count s)

pub no_dependency_cycle_in : (s : Scope)
    → (dependency_cycle_in s ≡ false) ↔ (((x : ℕ) × (x < step_count s) × Reaches (depends_on s) (step_count s) x x) → ⊥)
no_dependency_cycle_in s = denied (dependency_cycle_in s) (dependency_cycle_in_lem s)

pub dependency_cycle_lem : (book : List Scope) → (dependency_cycle book ≡ true) ↔ HasDependencyCycle book
unfolding dependency_cycle
dependency_cycle_lem book = (
  λ t.
      let a = any_true dependency_cycle_in book t in
      let c = (dependency_cycle_in_lem (scope_at book a.0)).0 (a.2 empty_scope) in
      (a.0, a.1, c.0, c.1, c.2),
  λ c.
      any_at dependency_cycle_in book c.0 c.1 empty_scope ((dependency_cycle_in_lem (scope_at book c.0)).1 (c.2, c.3, c.4)),
)

pub no_dependency_cycle : (book : List Scope) → (dependency_cycle book ≡ false) ↔ (HasDependencyCycle book → ⊥)
no_dependency_cycle book = denied (dependency_cycle book) (dependency_cycle_lem book)
