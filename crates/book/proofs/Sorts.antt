-- The four sorts of records that a scope has, so that one law serves them all.
--     staged                 a stage between 1 and 5 begins a scope or has a sort
--     same_sort              two sorts of one number are the same
--     count_new, count_turn  what a record does to the counts
--     items_turn             what a record does to the scope it belongs to
--     bases_apart            the columns of two sorts do not meet
-- Assumes nothing.
use Prim.Native.Nat.{ℕ, zero, suc, ◌+◌, ◌≤◌, ◌<◌}
use mathlib.Core.Path.{◌≡◌, refl, sym, ap, ◌∙◌}
use mathlib.Core.Bool.{cond}
use mathlib.Core.List.{List, [], ◌∷◌}
use native.Mathlib.Omega.{arith}
use lib.ListN.{get_or}
use lib.Dec.{eqb}
use Rattle.book.specs.declared.Tally.{Tally}
use Rattle.book.specs.declared.Variable.{Variable}
use Rattle.book.specs.declared.Node.{Node}
use Rattle.book.specs.declared.Clause.{Clause}
use Rattle.book.specs.Syntax.{Scope, empty_scope, variable_of, node_of, clause_of}
use Rattle.book.specs.Records.{Met, stage_of, body_of, counted}
use Rattle.book.specs.Decode.{Parsed, in_front}
use Rattle.book.specs.Limits.{InLimits}
use Rattle.book.specs.Positions.{variable_from, sub_scope_from, node_from, clause_from, node_length}

pub data Sort : Type 0 where
  variable : Sort
  sub_scope : Sort
  node : Sort
  clause : Sort

-- the column of a sort's count in the index; its stage is two more
abbrev pub number : Sort → ℕ
number variable = 0
number sub_scope = 1
number node = 2
number clause = 3

abbrev pub stage : Sort → ℕ
stage variable = 2
stage sub_scope = 3
stage node = 4
stage clause = 5

-- the column of the index where a sort's positions begin
abbrev pub base : Sort → ℕ
base variable = 4
base sub_scope = 36
base node = 44
base clause = 294

abbrev pub limit : Sort → ℕ
limit variable = 32
limit sub_scope = 8
limit node = 250
limit clause = 128

abbrev pub count : Sort → Tally → ℕ
count variable t = t.variables
count sub_scope t = t.subs
count node t = t.nodes
count clause t = t.clauses

abbrev pub Item : Sort → Type 0
Item variable = Variable
Item sub_scope = ℕ
Item node = Node
Item clause = Clause

abbrev pub items_of : (s : Sort) → Scope → List (Item s)
items_of variable scope = scope.variables
items_of sub_scope scope = scope.sub_scopes
items_of node scope = scope.nodes
items_of clause scope = scope.clauses

abbrev pub item : (s : Sort) → Met → Item s
item variable m = variable_of (body_of m)
item sub_scope m = get_or (body_of m) 0 0
item node m = node_of m.kind (body_of m)
item clause m = clause_of m.kind (body_of m)

abbrev pub from : (s : Sort) → List ℕ → ℕ → Item s
from variable = variable_from
from sub_scope = sub_scope_from
from node = node_from
from clause = clause_from

-- how many bytes the body of a record of a sort has, by its kind
abbrev pub long : Sort → ℕ → ℕ
long variable = λ k. 1
long sub_scope = λ k. 1
long node = node_length
long clause = λ k. 5

pub data Staged (n : ℕ) : Type 0 where
  begins : n ≡ 1 → Staged n
  has : (s : Sort) → n ≡ stage s → Staged n

pub staged : (n : ℕ) → (n ≡ 0 → ⊥) → n ≤ 5 → Staged n
staged zero h l = absurd (h refl)
staged (suc zero) h l = begins refl
staged (suc (suc zero)) h l = has variable refl
staged (suc (suc (suc zero))) h l = has sub_scope refl
staged (suc (suc (suc (suc zero)))) h l = has node refl
staged (suc (suc (suc (suc (suc zero))))) h l = has clause refl
staged (suc (suc (suc (suc (suc (suc n)))))) h l = absurd (omega arith)

-- Sorts by their numbers

sort_of : ℕ → Sort
sort_of n = cond (eqb n 0) variable (cond (eqb n 1) sub_scope (cond (eqb n 2) node clause))

sort_of_number : (s : Sort) → sort_of (number s) ≡ s
unfolding sort_of
sort_of_number variable = refl
sort_of_number sub_scope = refl
sort_of_number node = refl
sort_of_number clause = refl

pub same_sort : (s s' : Sort) → number s ≡ number s' → s ≡ s'
same_sort s s' e = sym (sort_of_number s) ∙ ap sort_of e ∙ sort_of_number s'

pub number_below : (s : Sort) → number s < 4
number_below variable = omega arith
number_below sub_scope = omega arith
number_below node = omega arith
number_below clause = omega arith

pub base_below : (s : Sort) → base s + limit s ≤ 422
base_below variable = omega arith
base_below sub_scope = omega arith
base_below node = omega arith
base_below clause = omega arith

pub base_above : (s : Sort) → 4 ≤ base s
base_above variable = omega arith
base_above sub_scope = omega arith
base_above node = omega arith
base_above clause = omega arith

pub limit_below : (s : Sort) → limit s ≤ 250
limit_below variable = omega arith
limit_below sub_scope = omega arith
limit_below node = omega arith
limit_below clause = omega arith

pub stage_two : (s : Sort) → 2 ≤ stage s
stage_two variable = omega arith
stage_two sub_scope = omega arith
stage_two node = omega arith
stage_two clause = omega arith

pub bases_apart : (s s' : Sort) → (number s ≡ number s' → ⊥) → (n n' : ℕ) → n < limit s → n' < limit s' → base s + n ≡ base s' + n' → ⊥
bases_apart variable variable h n n' a b e = h refl
bases_apart variable sub_scope h n n' a b e = omega arith
bases_apart variable node h n n' a b e = omega arith
bases_apart variable clause h n n' a b e = omega arith
bases_apart sub_scope variable h n n' a b e = omega arith
bases_apart sub_scope sub_scope h n n' a b e = h refl
bases_apart sub_scope node h n n' a b e = omega arith
bases_apart sub_scope clause h n n' a b e = omega arith
bases_apart node variable h n n' a b e = omega arith
bases_apart node sub_scope h n n' a b e = omega arith
bases_apart node node h n n' a b e = h refl
bases_apart node clause h n n' a b e = omega arith
bases_apart clause variable h n n' a b e = omega arith
bases_apart clause sub_scope h n n' a b e = omega arith
bases_apart clause node h n n' a b e = omega arith
bases_apart clause clause h n n' a b e = h refl

-- What a record does to the counts and to its scope

pub count_in_limits : (s : Sort) (t : Tally) → InLimits t → count s t ≤ limit s
count_in_limits variable t l = l.variables
count_in_limits sub_scope t l = l.subs
count_in_limits node t l = l.nodes
count_in_limits clause t l = l.clauses

pub count_new : (s : Sort) (t : Tally) → count s (counted 1 t) ≡ 0
unfolding counted
count_new variable t = refl
count_new sub_scope t = refl
count_new node t = refl
count_new clause t = refl

pub scopes_new : (t : Tally) → (counted 1 t).scopes ≡ t.scopes + 1
unfolding counted
scopes_new t = refl

pub scopes_turn : (s : Sort) (t : Tally) → (counted (stage s) t).scopes ≡ t.scopes
unfolding counted
scopes_turn variable t = refl
scopes_turn sub_scope t = refl
scopes_turn node t = refl
scopes_turn clause t = refl

pub count_turn : (s s' : Sort) (t : Tally) → count s (counted (stage s') t) ≡ cond (eqb (number s) (number s')) (count s t + 1) (count s t)
unfolding counted
count_turn variable variable t = refl
count_turn variable sub_scope t = refl
count_turn variable node t = refl
count_turn variable clause t = refl
count_turn sub_scope variable t = refl
count_turn sub_scope sub_scope t = refl
count_turn sub_scope node t = refl
count_turn sub_scope clause t = refl
count_turn node variable t = refl
count_turn node sub_scope t = refl
count_turn node node t = refl
count_turn node clause t = refl
count_turn clause variable t = refl
count_turn clause sub_scope t = refl
count_turn clause node t = refl
count_turn clause clause t = refl

pub items_none : (s : Sort) → items_of s empty_scope ≡ []
items_none variable = refl
items_none sub_scope = refl
items_none node = refl
items_none clause = refl

pub begun : (m : Met) (p : Parsed) → stage_of m ≡ 1 → in_front m p ≡ record { opened = empty_scope; scopes = p.opened ∷ p.scopes }
unfolding in_front
begun m p e = rw e

pub scopes_behind : (s : Sort) (m : Met) (p : Parsed) → stage_of m ≡ stage s → (in_front m p).scopes ≡ p.scopes
unfolding in_front
scopes_behind variable m p e = rw e
scopes_behind sub_scope m p e = rw e
scopes_behind node m p e = rw e
scopes_behind clause m p e = rw e

pub items_turn : (s s' : Sort) (m : Met) (p : Parsed) → stage_of m ≡ stage s'
    → items_of s (in_front m p).opened ≡ cond (eqb (number s) (number s')) (item s m ∷ items_of s p.opened) (items_of s p.opened)
unfolding in_front
items_turn variable variable m p e = rw e
items_turn variable sub_scope m p e = rw e
items_turn variable node m p e = rw e
items_turn variable clause m p e = rw e
items_turn sub_scope variable m p e = rw e
items_turn sub_scope sub_scope m p e = rw e
items_turn sub_scope node m p e = rw e
items_turn sub_scope clause m p e = rw e
items_turn node variable m p e = rw e
items_turn node sub_scope m p e = rw e
items_turn node node m p e = rw e
items_turn node clause m p e = rw e
items_turn clause variable m p e = rw e
items_turn clause sub_scope m p e = rw e
items_turn clause node m p e = rw e
items_turn clause clause m p e = rw e
