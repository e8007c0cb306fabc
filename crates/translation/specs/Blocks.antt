-- The code of a step, of a block and of a book: each is followed by the bytes k.
use Rattle.std.specs.Prelude.{ℕ, suc, ◌+◌, ◌-◌, cond, List, [], ◌∷◌, ◌++◌, length, get_or, ltb}
use Rattle.slices.specs.Bytes.{bytes_of}
use Rattle.calculus.specs.Terms.{Term}
use Rattle.book.specs.Syntax.{Scope, type_byte}
use Rattle.book.specs.References.{scope_at}
use Rattle.book.specs.Trees.{tree, has_clause, own_target, called_target}
use Rattle.book.specs.Scopes.{blocks}
use Rattle.book.specs.Steps.{step_order}
use Rattle.book.specs.declared.Variable.{Variable}
use Rattle.translation.specs.Code.{far, size, code}

-- "A variable: 44 past its store, tree, 41"
unfoldable pub variable_code : Scope → ℕ → List ℕ → List ℕ
variable_code s x k =
    let t = tree s (own_target x) in
    44 ∷ x ∷ bytes_of 2 (size t + 2) ++ code t (41 ∷ x ∷ k)

-- "In the fixed translation each override tree has 36 before it and 37, then 42, after it; the try lands past the 42" (paper 02, No. 5)
abbrev pub override_code : Term → ℕ → ℕ → List ℕ → List ℕ
override_code t c v k = far 36 (size t + 4) (code t (37 ∷ 42 ∷ c ∷ v ∷ k))

-- for the variables from v on of the scope that sub-scope c names; a target without clauses has none
unfoldable pub overrides_code : Scope → ℕ → ℕ → List Variable → List ℕ → List ℕ
overrides_code s c v [] k = k
overrides_code s c v (x ∷ xs) k =
    let more = overrides_code s c (suc v) xs k in
    cond (has_clause s (called_target c v)) (override_code (tree s (called_target c v)) c v more) more

-- "A call: each tree with 42, then 43", with the amendment
unfoldable pub call_code : List Scope → Scope → ℕ → List ℕ → List ℕ
call_code book s c k = overrides_code s c 0 (scope_at book (get_or s.sub_scopes c 0)).variables (43 ∷ c ∷ k)

-- a step, by its number: a variable, or after all variables a call
unfoldable pub step_code : List Scope → Scope → ℕ → List ℕ → List ℕ
step_code book s x k =
    cond (ltb x (length s.variables)) (variable_code s x k) (call_code book s (x - length s.variables) k)

-- "The translation is fixed, step by step in their order"
unfoldable pub steps_code : List Scope → Scope → List ℕ → List ℕ → List ℕ
steps_code book s [] k = k
steps_code book s (x ∷ xs) k = step_code book s x (steps_code book s xs k)

unfoldable pub variables_code : List Variable → List ℕ → List ℕ
variables_code [] k = k
variables_code (x ∷ xs) k = 2 ∷ type_byte x.holds ∷ variables_code xs k

unfoldable pub sub_scopes_code : List ℕ → List ℕ → List ℕ
sub_scopes_code [] k = k
sub_scopes_code (i ∷ is) k = 3 ∷ i ∷ sub_scopes_code is k

-- "kind 1 with the scope number, its kinds 2 and 3, instructions"
unfoldable pub block_code : List Scope → ℕ → List ℕ → List ℕ
block_code book i k =
    let s = scope_at book i in
    1 ∷ i ∷ variables_code s.variables (sub_scopes_code s.sub_scopes (steps_code book s (step_order s) k))

unfoldable pub blocks_code : List Scope → List ℕ → List ℕ
blocks_code book [] = []
blocks_code book (i ∷ is) = block_code book i (blocks_code book is)

-- "Per scope a block, sub-scopes' blocks before it, lowest number first among the possible"
unfoldable pub code_of : List Scope → List ℕ
code_of book = blocks_code book (blocks book)
