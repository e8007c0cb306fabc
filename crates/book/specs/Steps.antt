-- The steps of a scope, what each depends on, and fault 12.
-- A step's number: an own variable its own, call k that of k after all variables ("variables before calls").
use Rattle.std.specs.Prelude.{ℕ, ◌+◌, ◌<◌, Bool, false, not, cond, ◌&&◌, ◌||◌, List, length, eqb}
use Rattle.order.specs.Order.{order}
use Rattle.order.specs.Reaching.{Reaches}
use Rattle.calculus.specs.Terms.{Term, Terms, literal, own, called, error, unary, binary, choice, default, none, also}
use Rattle.book.specs.Lists.{any}
use Rattle.book.specs.Syntax.{Scope}
use Rattle.book.specs.References.{scope_at}
use Rattle.book.specs.Trees.{condition_term, consequence_term}
use Rattle.book.specs.declared.Clause.{Clause}

unfoldable pub step_count : Scope → ℕ
step_count s = length s.variables + length s.sub_scopes

-- a term reads the variable, or a variable of the call, that is step w of a scope with v variables; "A read counts whether or not it
-- would be reached"
unfoldable mutual
  pub reads : ℕ → ℕ → Term → Bool
  reads v w (literal x) = false
  reads v w (own x) = eqb x w
  reads v w (called k x) = eqb (v + k) w
  reads v w (error c) = false
  reads v w (unary op a) = reads v w a
  reads v w (binary op a b) = reads v w a || reads v w b
  reads v w (choice c a b) = reads v w c || (reads v w a || reads v w b)
  reads v w (default es j c) = reads_any v w es || (reads v w j || reads v w c)

  pub reads_any : ℕ → ℕ → Terms → Bool
  reads_any v w none = false
  reads_any v w (also t ts) = reads v w t || reads_any v w ts

-- the step whose tree, or one of whose override trees, a clause belongs to
unfoldable pub step_of : Scope → Clause → ℕ
step_of s c = cond (eqb c.target.sub 255) c.target.variable (length s.variables + c.target.sub)

-- a clause's condition or consequence reads step w
unfoldable pub clause_reads : Scope → ℕ → Clause → Bool
clause_reads s w c =
    let v = length s.variables in
    reads v w (condition_term s c.condition) || reads v w (consequence_term s c.consequence)

-- "A variable's step depends on the own variables read in its tree and on the calls whose variables it reads; a call's step on what its
-- override trees read"
unfoldable pub depends_on : Scope → ℕ → ℕ → Bool
depends_on s x w = any (λ c. eqb (step_of s c) x && clause_reads s w c) s.clauses

-- 12, the paper's "ring": "a step depends on itself, directly or through others"
abbrev pub HasDependencyCycle : List Scope → Type 0
HasDependencyCycle book =
    (i : ℕ) × (i < length book) × (x : ℕ) × (x < step_count (scope_at book i)) × Reaches (depends_on (scope_at book i)) (step_count (scope_at book i)) x x

-- "Among the steps not yet done, the ready step of lowest number is taken first, variables before calls"
unfoldable pub step_order : Scope → List ℕ
step_order s = order (depends_on s) (step_count s)

-- some step is never ready, which is so exactly where there is a dependency cycle
unfoldable pub dependency_cycle_in : Scope → Bool
dependency_cycle_in s = not (eqb (length (step_order s)) (step_count s))

unfoldable pub dependency_cycle : List Scope → Bool
dependency_cycle book = any dependency_cycle_in book
