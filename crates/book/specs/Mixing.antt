-- Fault 9, the paper's "mixed reel": "rule and definition on one target".
use Rattle.std.specs.Prelude.{Bool, not, ◌&&◌, List}
use Rattle.book.specs.Lists.{any}
use Rattle.book.specs.Syntax.{Scope, same_target, is_rule}
use Rattle.book.specs.declared.Clause.{Clause}

-- a rule and a definition with one target
abbrev pub mixed_pair : Clause → Clause → Bool
mixed_pair c d = same_target c.target d.target && (is_rule c.consequence && not (is_rule d.consequence))

unfoldable pub mixed_in : Scope → Bool
mixed_in s = any (λ c. any (mixed_pair c) s.clauses) s.clauses

unfoldable pub mixes : List Scope → Bool
mixes book = any mixed_in book
