-- The clauses of a scope as marks, one for each target that the limits leave room for.
use Rattle.std.specs.Prelude.{ℕ, ◌+◌, ◌*◌, Bool, cond, List, eqb}
use Rattle.book.specs.Syntax.{Scope}
use Rattle.book.specs.References.{scope_at}
use Rattle.book.specs.Mixing.{mixed_in}
use Rattle.book.specs.declared.Consequence.{Consequence}
use Rattle.book.specs.declared.Consequence.TheVariants.{Of, Fixed}
use Rattle.book.specs.declared.Target.{Target}

-- the place of a target's mark: 32 for the own variables, then 32 for each sub-scope
unfoldable pub slot_of : Target → ℕ
slot_of t = cond (eqb t.sub 255) t.variable (t.sub * 32 + t.variable + 32)

-- a definition's mark and a rule's
abbrev pub mark_of : Consequence → ℕ
mark_of (Of n) = 1
mark_of (Fixed b) = 2

-- a rule and a definition with one target in scope i
unfoldable pub mixed_at : List Scope → ℕ → Bool
mixed_at book i = mixed_in (scope_at book i)
