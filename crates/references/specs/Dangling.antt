-- Fault 6 in the parts by which it is looked for.
use Rattle.std.specs.Prelude.{ℕ, Bool, not, cond, ◌&&◌, ◌||◌, List, length, get_or, eqb, ltb}
use Rattle.book.specs.Lists.{any}
use Rattle.book.specs.Syntax.{Scope, same_target}
use Rattle.book.specs.declared.Target.{Target}
use Rattle.book.specs.Positions.{sub_scope_at}
use Rattle.book.specs.References.{scope_at, no_clause, names_exception}

-- both of two nodes are of lower number than n
unfoldable pub both_below : ℕ → ℕ → ℕ → Bool
both_below n a b = ltb a n && ltb b n

-- what default n may name
unfoldable pub default_names : ℕ → ℕ → ℕ → ℕ → ℕ → ℕ → Bool
default_names n x y z j c = names_exception n x && (names_exception n y && (names_exception n z && both_below n j c))

-- the scope to which a target of scope i belongs, by its sub-scope
unfoldable pub target_scope : List Scope → ℕ → ℕ → ℕ
target_scope book i sub = cond (eqb sub 255) i (sub_scope_at book i sub)

-- a parent's number p that clause n of scope i, of target t, may have
unfoldable pub parent_names : List Scope → ℕ → ℕ → ℕ → Target → Bool
parent_names book i n p t = eqb p 255 || (ltb p n && same_target (get_or (scope_at book i).clauses p no_clause).target t)

-- a sub-scope that names no scope
abbrev pub wrong_sub_scope : List Scope → ℕ → Bool
wrong_sub_scope book j = not (ltb j (length book))

-- some sub-scope of scope i
unfoldable pub sub_scope_dangles : List Scope → ℕ → Bool
sub_scope_dangles book i = any (wrong_sub_scope book) (scope_at book i).sub_scopes
