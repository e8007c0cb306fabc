-- Calls between scopes: faults 10 and 11, the order of blocks, and weights.
use Rattle.std.specs.Prelude.{ℕ, suc, ◌+◌, ◌<◌, Bool, not, cond, List, [], ◌∷◌, reverse, length, eqb, ltb}
use Rattle.order.specs.Order.{order, among}
use Rattle.order.specs.Reaching.{Reaches}
use Rattle.book.specs.Lists.{any_from}
use Rattle.book.specs.Syntax.{Scope}
use Rattle.book.specs.References.{scope_at}

-- scope i has a sub-scope that names scope j
unfoldable pub calls : List Scope → ℕ → ℕ → Bool
calls book i j = among (scope_at book i).sub_scopes j

-- 10, the paper's "loop": "a scope reaches itself through sub-scopes"
abbrev pub HasScopeCycle : List Scope → Type 0
HasScopeCycle book = (i : ℕ) × (i < length book) × Reaches (calls book) (length book) i i

-- "sub-scopes' blocks before it, lowest number first among the possible"
unfoldable pub blocks : List Scope → List ℕ
blocks book = order (calls book) (length book)

-- some scope is never possible, which is so exactly where there is a scope cycle
unfoldable pub scope_cycle : List Scope → Bool
scope_cycle book = not (eqb (length (blocks book)) (length book))

unfoldable pub sum : (ℕ → ℕ) → List ℕ → ℕ
sum f [] = 0
sum f (x ∷ xs) = f x + sum f xs

-- "Weight: 1 plus the weights of the sub-scopes called", each of which stands behind the scope in the list of blocks, last block first
unfoldable pub weight_in : List Scope → List ℕ → ℕ → ℕ
weight_in book [] i = 0
weight_in book (b ∷ earlier) i =
    let called = weight_in book earlier in
    cond (eqb b i) (suc (sum called (scope_at book i).sub_scopes)) (called i)

unfoldable pub weight : List Scope → ℕ → ℕ
weight book i = weight_in book (reverse (blocks book)) i

-- 11, the paper's "overweight": "a weight above 4,096"
unfoldable pub weight_exceeded : List Scope → Bool
weight_exceeded book = any_from (λ i s. ltb 4096 (weight book i)) 0 book
