-- What a step depends on, in the words of the paper: what is read in its tree or its override trees.
use Rattle.std.specs.Prelude.{ℕ, ◌+◌, ◌<◌, ◌≡◌, true, cond, length, get_or, eqb}
use Rattle.book.specs.Syntax.{Scope}
use Rattle.book.specs.References.{no_clause}
use Rattle.book.specs.Trees.{has_target, tree}
use Rattle.book.specs.Steps.{reads, clause_reads}
use Rattle.book.specs.declared.Target.{Target}

-- some clause with the target reads step w
abbrev pub ReadByClause : Scope → Target → ℕ → Type 0
ReadByClause s t w =
    (j : ℕ) × (j < length s.clauses) × (has_target t (get_or s.clauses j no_clause) ≡ true) × (clause_reads s w (get_or s.clauses j no_clause) ≡ true)

-- the step that a target's tree belongs to: an own variable's, or a call's
unfoldable pub target_step : Scope → Target → ℕ
target_step s t = cond (eqb t.sub 255) t.variable (length s.variables + t.sub)

-- "A variable's step depends on the own variables read in its tree and on the calls whose variables it reads; a call's step on what its
-- override trees read"
abbrev pub ReadInTree : Scope → ℕ → ℕ → Type 0
ReadInTree s x w = (t : Target) × (target_step s t ≡ x) × (reads (length s.variables) w (tree s t) ≡ true)
