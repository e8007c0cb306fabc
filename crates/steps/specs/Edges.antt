-- Edges among 40 vertices, marked in the bytes of a matrix: those of the calls between scopes, and those of a scope's steps.
use Rattle.std.specs.Prelude.{ℕ, ◌+◌, ◌<◌, ◌≤◌, ◌≡◌, Bool, true, cond, ◌&&◌, ◌||◌, List, length, get_or, eqb}
use Rattle.order.specs.Matrix.{linked}
use Rattle.book.specs.Syntax.{Scope}
use Rattle.book.specs.Scopes.{calls}
use Rattle.book.specs.declared.Node.{Node}
use Rattle.book.specs.declared.Node.TheVariants as node
use Rattle.book.specs.declared.Clause.{Clause}

-- the edge from v to w alone
unfoldable pub one_edge : ℕ → ℕ → ℕ → ℕ → Bool
one_edge v w x y = eqb v x && eqb w y

-- the calls of scope i
unfoldable pub call_edges : List Scope → ℕ → ℕ → ℕ → Bool
call_edges book i x y = eqb i x && calls book i y

-- the step that a node itself reads, in a scope with v variables; 40, which is no step, where it reads none
abbrev pub own_step : ℕ → Node → ℕ
own_step v (node.Constant b) = 40
own_step v (node.Number z) = 40
own_step v (node.Own x) = x
own_step v (node.Called k x) = v + k
own_step v (node.Empty t) = 40
own_step v (node.Conflict t) = 40
own_step v (node.Unary op a) = 40
own_step v (node.Binary op a b) = 40
own_step v (node.Choice c a b) = 40
own_step v (node.Default x y z j c) = 40

-- the step whose tree, or one of whose override trees, a clause belongs to, in a scope with v variables
unfoldable pub step_with : ℕ → Clause → ℕ
step_with v c = cond (eqb c.target.sub 255) c.target.variable (v + c.target.sub)

-- each row is read from the lowest vertex on whose byte is 0
pub record Whole (deps : List ℕ) : Type 0 where
  pub read : (x y : ℕ) → x < 40 → y < 40 → linked deps x y ≡ true → get_or deps (1600 + x) 0 ≤ y

-- `to` has the edges that `from` has and those of f, and no others; where all of `from` are read, all of `to` are
pub record Marked (from to : List ℕ) (f : ℕ → ℕ → Bool) : Type 0 where
  pub long : length to ≡ length from
  pub edges : (x y : ℕ) → x < 40 → y < 40 → linked to x y ≡ (linked from x y || f x y)
  pub whole : Whole from → Whole to
