-- What the nodes of a scope evaluate to, by its row of positions, over the cells of its variables and of its sub-scopes' variables.
use Rattle.std.specs.Prelude.{ℕ, suc, ◌+◌, ◌*◌, ◌<◌, ◌≤◌, ◌≡◌, Bool, true, false, cond, ◌&&◌, List, [], ◌∷◌, length, get_or, eqb, leb, ltb, Result}
use Rattle.calculus.specs.Terms.{Term}
use Rattle.calculus.specs.Evaluation.{Env, eval}
use Rattle.calculus.specs.Defaults.{gather}
use Rattle.book.specs.Positions.{node_from, node_length}
use Rattle.book.specs.Trees.{node_term, term_below}
use Rattle.book.specs.declared.Node.{Node}
use Rattle.book.specs.declared.Node.TheVariants as node
use Rattle.cells.specs.Codec.{Codes, Gathers, AllKept}
use Rattle.cells.specs.Cells.{given_at, held}
use Rattle.calculus.specs.declared.Joined.{Joined}
use Rattle.answers.specs.declared.Cause.{Cause}
use Rattle.calculus.specs.declared.Value.{Value}

-- one cell for each own variable, 32 for each sub-scope
abbrev pub env_of : List ℕ → List ℕ → Env
env_of own called = record { own = λ x. held (given_at own x); called = λ k x. held (given_at called (k * 32 + x)) }

-- the nodes whose records begin at the positions of a row
unfoldable pub nodes_in : List ℕ → List ℕ → List Node
nodes_in bytes [] = []
nodes_in bytes (at ∷ row) = node_from bytes at ∷ nodes_in bytes row

-- node n of a row
unfoldable pub outcome_in : List ℕ → List ℕ → List ℕ → List ℕ → ℕ → Result Value Cause
outcome_in bytes row own called n = eval (env_of own called) (term_below (nodes_in bytes row) (suc n) n)

-- the exceptions so far and one more, a node of a row, "255: none"
unfoldable pub gather_in : List ℕ → List ℕ → List ℕ → List ℕ → Result Joined Cause → ℕ → Result Joined Cause
gather_in bytes row own called g x = cond (eqb x 255) g (gather g (outcome_in bytes row own called x))

-- a default whose record begins at a position
abbrev pub default_from : List ℕ → ℕ → Node
default_from bytes at =
    node.Default (get_or bytes (at + 1) 0) (get_or bytes (at + 2) 0) (get_or bytes (at + 3) 0) (get_or bytes (at + 4) 0) (get_or bytes (at + 5) 0)

abbrev pub NamesException : ℕ → ℕ → Type 0
NamesException n x = (x ≡ 255 → ⊥) → x < n

-- what node n names are nodes of lower number, and variables that have cells
abbrev pub Names : ℕ → ℕ → ℕ → Node → Type 0
Names n own called (node.Constant b) = Unit {0}
Names n own called (node.Number z) = Unit {0}
Names n own called (node.Own x) = x < own
Names n own called (node.Called k x) = k * 32 + x < called
Names n own called (node.Empty t) = Unit {0}
Names n own called (node.Conflict t) = Unit {0}
Names n own called (node.Unary op a) = a < n
Names n own called (node.Binary op a b) = (a < n) × (b < n)
Names n own called (node.Choice c a b) = (c < n) × (a < n) × (b < n)
Names n own called (node.Default x y z j c) = NamesException n x × NamesException n y × NamesException n z × (j < n) × (c < n)

-- at place n of the row stands a node, whole, and what it names is there
pub record Stands (bytes row own called : List ℕ) (n : ℕ) : Type 0 where
  pub inside : n < length row
  pub whole : get_or row n 0 + node_length (get_or bytes (get_or row n 0) 0) < length bytes
  pub names : Names n (length own) (length called) (node_from bytes (get_or row n 0))

-- node n of the row can be evaluated
pub record Readable (bytes row own called : List ℕ) (n : ℕ) : Type 0 where
  pub stands : (m : ℕ) → m ≤ n → Stands bytes row own called m
  pub own_kept : AllKept own
  pub called_kept : AllKept called

-- a node of this kind is a leaf, which names no node: 4 a constant, 5 a number, 6 an own variable, 7 a sub-scope's
unfoldable pub is_leaf : ℕ → Bool
is_leaf k = leb 4 k && ltb k 8

-- the leaf at a position can be read
pub record ReadableLeaf (bytes own called : List ℕ) (at : ℕ) : Type 0 where
  pub leaf : is_leaf (get_or bytes at 0) ≡ true
  pub whole : at + node_length (get_or bytes at 0) < length bytes
  pub own_there : get_or bytes at 0 ≡ 6 → get_or bytes (at + 1) 0 < length own
  pub called_there : get_or bytes at 0 ≡ 7 → get_or bytes (at + 1) 0 * 32 + get_or bytes (at + 2) 0 < length called
  pub own_kept : AllKept own
  pub called_kept : AllKept called

-- the cell is that of its outcome, whatever the terms of lower nodes are
abbrev pub CodesLeaf : List ℕ → List ℕ → List ℕ → ℕ → ℕ → Type 0
CodesLeaf bytes own called at r = (lower : ℕ → Term) → Codes r (eval (env_of own called) (node_term lower (node_from bytes at)))

-- node n can be evaluated, and is no leaf
pub record ReadableInner (bytes row own called : List ℕ) (n : ℕ) : Type 0 where
  pub readable : Readable bytes row own called n
  pub inner : is_leaf (get_or bytes (get_or row n 0) 0) ≡ false

-- node n, a default, can be evaluated
pub record ReadableDefault (bytes row own called : List ℕ) (n : ℕ) : Type 0 where
  pub readable : Readable bytes row own called n
  pub whole : get_or row n 0 + 5 < length bytes
  pub is : node_from bytes (get_or row n 0) ≡ default_from bytes (get_or row n 0)

-- an exception of a default can be
abbrev pub ReadableException : List ℕ → List ℕ → List ℕ → List ℕ → ℕ → Type 0
ReadableException bytes row own called x = (x ≡ 255 → ⊥) → Readable bytes row own called x

abbrev pub GathersIn : List ℕ → List ℕ → List ℕ → List ℕ → ℕ → ℕ → ℕ → Type 0
GathersIn bytes row own called c x r = (g : Result Joined Cause) → Gathers c g → Gathers r (gather_in bytes row own called g x)
