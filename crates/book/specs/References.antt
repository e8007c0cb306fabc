-- Fault 6, the paper's "dangling": "a number names nothing, or breaks the lower-number or same-target rule".
use Rattle.std.specs.Prelude.{ℕ, Bool, true, false, not, cond, ◌&&◌, ◌||◌, List, length, get_or, eqb, ltb}
use Rattle.book.specs.Lists.{any, any_from}
use Rattle.book.specs.Syntax.{Scope, empty_scope, same_target}
use Rattle.book.specs.declared.Node.{Node}
use Rattle.book.specs.declared.Node.TheVariants.{Constant, Number, Own, Called, Empty, Conflict, Unary, Binary, Choice, Default}
use Rattle.book.specs.declared.Consequence.{Consequence}
use Rattle.book.specs.declared.Consequence.TheVariants.{Of, Fixed}
use Rattle.book.specs.declared.Target.{Target}
use Rattle.book.specs.declared.Clause.{Clause}

abbrev pub scope_at : List Scope → ℕ → Scope
scope_at book i = get_or book i empty_scope

-- a variable of the scope that a sub-scope names
unfoldable pub names_called : List Scope → Scope → ℕ → ℕ → Bool
names_called book s k v = ltb k (length s.sub_scopes) && ltb v (length (scope_at book (get_or s.sub_scopes k 0)).variables)

-- "255: none", or a node of lower number
abbrev pub names_exception : ℕ → ℕ → Bool
names_exception n e = eqb e 255 || ltb e n

-- "A node names nodes of lower number only"
unfoldable pub node_names : List Scope → Scope → ℕ → Node → Bool
node_names book s n (Constant b) = true
node_names book s n (Number z) = true
node_names book s n (Own v) = ltb v (length s.variables)
node_names book s n (Called k v) = names_called book s k v
node_names book s n (Empty t) = true
node_names book s n (Conflict t) = true
node_names book s n (Unary op a) = ltb a n
node_names book s n (Binary op a b) = ltb a n && ltb b n
node_names book s n (Choice c a b) = ltb c n && (ltb a n && ltb b n)
node_names book s n (Default x y z j c) =
    names_exception n x && (names_exception n y && (names_exception n z && (ltb j n && ltb c n)))

-- "sub-scope (255: own), variable"
abbrev pub names_target : List Scope → Scope → Target → Bool
names_target book s t = cond (eqb t.sub 255) (ltb t.variable (length s.variables)) (names_called book s t.sub t.variable)

abbrev pub no_clause : Clause
no_clause = record { target = record { sub = 255; variable = 255 }; parent = 255; condition = 255; consequence = Fixed false }

-- "a clause names a parent of lower number with the same target"
abbrev pub names_parent : Scope → ℕ → Clause → Bool
names_parent s n c =
    eqb c.parent 255 || (ltb c.parent n && same_target (get_or s.clauses c.parent no_clause).target c.target)

-- "condition (255: always)"
abbrev pub names_condition : Scope → ℕ → Bool
names_condition s n = eqb n 255 || ltb n (length s.nodes)

abbrev pub names_consequence : Scope → Consequence → Bool
names_consequence s (Of n) = ltb n (length s.nodes)
names_consequence s (Fixed b) = true

unfoldable pub clause_names : List Scope → Scope → ℕ → Clause → Bool
clause_names book s n c =
    names_target book s c.target && (names_parent s n c && (names_condition s c.condition && names_consequence s c.consequence))

-- in one scope
unfoldable pub dangles_in : List Scope → Scope → Bool
dangles_in book s =
    any (λ i. not (ltb i (length book))) s.sub_scopes
    || (any_from (λ n x. not (node_names book s n x)) 0 s.nodes || any_from (λ n c. not (clause_names book s n c)) 0 s.clauses)

unfoldable pub dangles : List Scope → Bool
dangles book = any (dangles_in book) book
