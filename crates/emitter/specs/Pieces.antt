-- The parts of a book's code, with their sizes.
use Rattle.std.specs.Prelude.{ℕ, ◌+◌, ◌-◌, ◌*◌, ◌<◌, ◌≡◌, Bool, true, false, cond, ◌&&◌, List, ◌∷◌, ◌++◌, length, get_or, take, drop, eqb, ltb, Ok}
use Rattle.slices.specs.Bytes.{bytes_of}
use Rattle.calculus.specs.Terms.{Term, Terms, literal, error, default, none}
use Rattle.calculus.specs.declared.Value.TheVariants.{Truth}
use Rattle.answers.specs.declared.Cause.TheVariants.{Empty}
use Rattle.book.specs.Decode.{scopes_of}
use Rattle.book.specs.References.{scope_at}
use Rattle.book.specs.Judge.{judge}
use Rattle.book.specs.Trees.{term_below, exception, condition_term, consequence_term, select, clause_terms, tree, has_clause, called_target}
use Rattle.book.specs.Steps.{step_count, step_order}
use Rattle.book.specs.Scopes.{blocks}
use Rattle.book.specs.Positions.{variable_at, sub_scope_at, clause_at}
use Rattle.index.specs.Index.{Laid}
use Rattle.book.specs.declared.Consequence.{Consequence}
use Rattle.links.specs.Links.{head_of, in_chain, Sound}
use Rattle.translation.specs.Code.{far, if_any, size, sizes, code, codes}
use Rattle.translation.specs.Blocks.{override_code}
use Rattle.book.specs.Syntax.{type_byte}
use Rattle.emitter.specs.Emission.{Emits, each, total}

-- Nodes

-- node n of scope i among the nodes below a limit
unfoldable pub node_below : List ℕ → ℕ → ℕ → ℕ → Term
node_below bytes i limit n = term_below (scope_at (scopes_of bytes) i).nodes limit n

-- condition, 35, then, 34 over an else of d bytes
unfoldable pub branches : Term → Term → ℕ → List ℕ → List ℕ
branches c a d k = code c (far 35 (size a + 3) (code a (far 34 d k)))

abbrev pub branches_size : Term → Term → ℕ
branches_size c a = size c + 3 + (size a + 3)

-- what stands behind an exception's code: 37, 34 over one byte, 38, 39
unfoldable pub caught : List ℕ → List ℕ
caught k = 37 ∷ far 34 1 (38 ∷ 39 ∷ k)

abbrev pub EmittedBranches : List ℕ → ℕ → Term → Term → ℕ → ℕ → List ℕ → Type 0
EmittedBranches before at c a d end after = Emits before at (branches c a d) (branches_size c a) end after

-- exceptions, each with its try
abbrev pub EmittedAll : List ℕ → ℕ → Terms → ℕ → List ℕ → Type 0
EmittedAll before at es end after = Emits before at (codes es) (sizes es) end after

-- an exception, "255: none"
unfoldable pub exception_below : List ℕ → ℕ → ℕ → ℕ → Terms
exception_below bytes i limit x = exception (node_below bytes i limit) x none

abbrev pub no_exception : ℕ → ℕ → ℕ → Bool
no_exception x y z = eqb x 255 && (eqb y 255 && eqb z 255)

unfoldable pub default_below : List ℕ → ℕ → ℕ → ℕ → ℕ → ℕ → ℕ → ℕ → Term
default_below bytes i limit x y z j c =
    let lower = node_below bytes i limit in
    default (exception lower x (exception lower y (exception lower z none))) (lower j) (lower c)

-- Clauses

-- the exceptions of a default in front of its justification and consequence, which have d bytes
unfoldable pub around : Terms → ℕ → List ℕ → List ℕ
around es d k = if_any es (38 ∷ codes es (far 40 d k)) k

abbrev pub around_size : Terms → ℕ
around_size es = if_any es (1 + sizes es + 3) 0

abbrev pub EmittedAround : List ℕ → ℕ → Terms → ℕ → ℕ → List ℕ → Type 0
EmittedAround before at es d end after = Emits before at (around es d) (around_size es) end after

unfoldable pub condition_at : List ℕ → ℕ → ℕ → Term
condition_at bytes i n = condition_term (scope_at (scopes_of bytes) i) n

unfoldable pub consequence_at : List ℕ → ℕ → Consequence → Term
consequence_at bytes i c = consequence_term (scope_at (scopes_of bytes) i) c

-- clause c without its exceptions
unfoldable pub rest_at : List ℕ → ℕ → ℕ → Term
rest_at bytes i c =
    let clause = clause_at (scopes_of bytes) i c in
    default none (condition_at bytes i clause.condition) (consequence_at bytes i clause.consequence)

-- clause c and those behind it in its chain, as exceptions
unfoldable pub siblings : List ℕ → ℕ → ℕ → Terms
siblings bytes i c =
    let s = scope_at (scopes_of bytes) i in
    select (in_chain (head_of (clause_at (scopes_of bytes) i c))) (drop c s.clauses) (clause_terms s c (drop c s.clauses))

-- clause c
unfoldable pub clause_term_at : List ℕ → ℕ → ℕ → Term
clause_term_at bytes i c = get_or (clause_terms (scope_at (scopes_of bytes) i) 0 (scope_at (scopes_of bytes) i).clauses) c (error Empty)

-- where the bases of a target come to nothing: no if it has rules, empty if it has none
unfoldable pub last_outcome : Bool → Term
last_outcome ruled = cond ruled (literal (Truth false)) (error Empty)

unfoldable pub last_resort : Bool → Term
last_resort ruled = default none (literal (Truth true)) (last_outcome ruled)

-- the same with exceptions, the chain that begins with a clause
unfoldable pub bases_at : List ℕ → ℕ → ℕ → Bool → Term
bases_at bytes i first ruled = default (siblings bytes i first) (literal (Truth true)) (last_outcome ruled)

unfoldable pub tree_at : List ℕ → ℕ → ℕ → ℕ → Term
tree_at bytes i k v = tree (scope_at (scopes_of bytes) i) (called_target k v)

-- Steps

-- "A variable: 44 past its store, tree, 41"
unfoldable pub variable_piece : List ℕ → ℕ → ℕ → List ℕ → List ℕ
variable_piece bytes i x k = 44 ∷ x ∷ bytes_of 2 (size (tree_at bytes i 255 x) + 2) ++ code (tree_at bytes i 255 x) (41 ∷ x ∷ k)

unfoldable pub variable_size : List ℕ → ℕ → ℕ → ℕ
variable_size bytes i x = size (tree_at bytes i 255 x) + 6

-- "each override tree has 36 before it and 37, then 42, after it"; a target without clauses has none
unfoldable pub override_piece : List ℕ → ℕ → ℕ → ℕ → List ℕ → List ℕ
override_piece bytes i c v k =
    cond (has_clause (scope_at (scopes_of bytes) i) (called_target c v)) (override_code (tree_at bytes i c v) c v k) k

unfoldable pub override_size : List ℕ → ℕ → ℕ → ℕ → ℕ
override_size bytes i c v = cond (has_clause (scope_at (scopes_of bytes) i) (called_target c v)) (size (tree_at bytes i c v) + 7) 0

-- the number of variables of the scope that sub-scope c names
abbrev pub called_count : List ℕ → ℕ → ℕ → ℕ
called_count bytes i c = length (scope_at (scopes_of bytes) (sub_scope_at (scopes_of bytes) i c)).variables

-- "A call: each tree with 42, then 43"
unfoldable pub call_piece : List ℕ → ℕ → ℕ → List ℕ → List ℕ
call_piece bytes i c k = each (override_piece bytes i c) 0 (called_count bytes i c) (43 ∷ c ∷ k)

unfoldable pub call_size : List ℕ → ℕ → ℕ → ℕ
call_size bytes i c = 2 + total (override_size bytes i c) 0 (called_count bytes i c)

-- a step, by its number: a variable, or after all variables a call
unfoldable pub step_piece : List ℕ → ℕ → ℕ → List ℕ → List ℕ
step_piece bytes i x k =
    let n = length (scope_at (scopes_of bytes) i).variables in
    cond (ltb x n) (variable_piece bytes i x k) (call_piece bytes i (x - n) k)

unfoldable pub step_size : List ℕ → ℕ → ℕ → ℕ
step_size bytes i x =
    let n = length (scope_at (scopes_of bytes) i).variables in
    cond (ltb x n) (variable_size bytes i x) (call_size bytes i (x - n))

-- Blocks

-- step n in the order of steps
unfoldable pub ordered_piece : List ℕ → ℕ → ℕ → List ℕ → List ℕ
ordered_piece bytes i n = step_piece bytes i (get_or (step_order (scope_at (scopes_of bytes) i)) n 0)

unfoldable pub ordered_size : List ℕ → ℕ → ℕ → ℕ
ordered_size bytes i n = step_size bytes i (get_or (step_order (scope_at (scopes_of bytes) i)) n 0)

unfoldable pub steps_piece : List ℕ → ℕ → List ℕ → List ℕ
steps_piece bytes i k = each (ordered_piece bytes i) 0 (step_count (scope_at (scopes_of bytes) i)) k

unfoldable pub steps_size : List ℕ → ℕ → ℕ
steps_size bytes i = total (ordered_size bytes i) 0 (step_count (scope_at (scopes_of bytes) i))

-- the variables of scope i, for kind 2, or its sub-scopes, for kind 3
unfoldable pub head_count : List ℕ → ℕ → ℕ → ℕ
head_count bytes i kind = cond (eqb kind 2) (length (scope_at (scopes_of bytes) i).variables) (length (scope_at (scopes_of bytes) i).sub_scopes)

-- the type of variable n, or the scope of sub-scope n
unfoldable pub head_byte : List ℕ → ℕ → ℕ → ℕ → ℕ
head_byte bytes i kind n = cond (eqb kind 2) (type_byte (variable_at (scopes_of bytes) i n).holds) (sub_scope_at (scopes_of bytes) i n)

unfoldable pub head_piece : List ℕ → ℕ → ℕ → ℕ → List ℕ → List ℕ
head_piece bytes i kind n k = kind ∷ head_byte bytes i kind n ∷ k

-- two bytes
abbrev pub pair : ℕ → ℕ
pair v = 2

unfoldable pub heads_piece : List ℕ → ℕ → ℕ → List ℕ → List ℕ
heads_piece bytes i kind k = each (head_piece bytes i kind) 0 (head_count bytes i kind) k

unfoldable pub heads_size : List ℕ → ℕ → ℕ → ℕ
heads_size bytes i kind = total pair 0 (head_count bytes i kind)

-- "kind 1 with the scope number, its kinds 2 and 3, instructions"
unfoldable pub block_piece : List ℕ → ℕ → List ℕ → List ℕ
block_piece bytes i k = 1 ∷ i ∷ heads_piece bytes i 2 (heads_piece bytes i 3 (steps_piece bytes i k))

unfoldable pub block_size : List ℕ → ℕ → ℕ
block_size bytes i = steps_size bytes i + heads_size bytes i 3 + heads_size bytes i 2 + 2

-- block n in the order of blocks
unfoldable pub ordered_block : List ℕ → ℕ → List ℕ → List ℕ
ordered_block bytes n = block_piece bytes (get_or (blocks (scopes_of bytes)) n 0)

unfoldable pub ordered_block_size : List ℕ → ℕ → ℕ
ordered_block_size bytes n = block_size bytes (get_or (blocks (scopes_of bytes)) n 0)

unfoldable pub book_piece : List ℕ → List ℕ → List ℕ
book_piece bytes k = each (ordered_block bytes) 0 (length (scopes_of bytes)) k

unfoldable pub book_size : List ℕ → ℕ
book_size bytes = total (ordered_block_size bytes) 0 (length (scopes_of bytes))

-- What the functions rest on

-- the order of the steps of scope i stands in its row
pub record Ordered (bytes orders : List ℕ) (i : ℕ) : Type 0 where
  pub few : i < 32
  pub row : take (step_count (scope_at (scopes_of bytes) i)) (drop (i * 40) orders) ≡ step_order (scope_at (scopes_of bytes) i)
  pub count : length (step_order (scope_at (scopes_of bytes) i)) ≡ step_count (scope_at (scopes_of bytes) i)

-- the sub-scopes of scope i name scopes
pub record Called (bytes : List ℕ) (i : ℕ) : Type 0 where
  pub called : (k : ℕ) → k < length (scope_at (scopes_of bytes) i).sub_scopes → sub_scope_at (scopes_of bytes) i k < 32

-- of a scope whose block is written
pub record Block (bytes index orders : List ℕ) (i : ℕ) : Type 0 where
  pub sound : Sound bytes index
  pub ordered : Ordered bytes orders i
  pub called : Called bytes i

-- the tables of an accepted book of n scopes
pub record Tabled (bytes index blocksTable orders : List ℕ) (n : ℕ) : Type 0 where
  pub accepted : judge bytes ≡ Ok n
  pub laid : Laid bytes index
  pub block_order : take (length (scopes_of bytes)) blocksTable ≡ blocks (scopes_of bytes)
  pub step_orders : (i : ℕ) → i < length (scopes_of bytes)
      → take (step_count (scope_at (scopes_of bytes) i)) (drop (i * 40) orders) ≡ step_order (scope_at (scopes_of bytes) i)
