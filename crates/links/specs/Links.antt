-- The links between the clauses of a scope, in 834 cells of a byte:
--       0    the first base of each of 288 targets, and of what is no target
--     289    the first exception of each of 128 clauses
--     417    the next sibling of each clause: the next exception of its parent, or the next base of its target
--     545    the first rule of each target
-- 255 where there is none.
use Rattle.std.specs.Prelude.{ℕ, suc, ◌+◌, ◌*◌, ◌<◌, ◌≤◌, ◌≡◌, Bool, false, cond, ◌&&◌, List, [], ◌∷◌, length, get_or, set, take, drop, eqb, ltb}
use Rattle.book.specs.Syntax.{is_rule}
use Rattle.book.specs.Decode.{scopes_of}
use Rattle.book.specs.References.{scope_at, no_clause, dangles}
use Rattle.index.specs.Index.{Laid}
use Rattle.book.specs.declared.Target.{Target}
use Rattle.book.specs.declared.Clause.{Clause}

-- the number of a target: 32 own variables, then 32 of each of 8 sub-scopes; 288 for any other
unfoldable pub slot_of : Target → ℕ
slot_of t =
    cond (ltb t.variable 32)
    (cond (eqb t.sub 255) t.variable (cond (ltb t.sub 8) (32 + t.sub * 32 + t.variable) 288))
    288

-- the cell in which the chain of a clause begins: its parent's exceptions, or the bases of its target
unfoldable pub head_of : Clause → ℕ
head_of c = cond (eqb c.parent 255) (slot_of c.target) (289 + c.parent)

-- the clauses of the chain that begins in a cell
abbrev pub in_chain : ℕ → Clause → Bool
in_chain k c = eqb (head_of c) k

-- the rules of the target that has a slot
abbrev pub rule_of : ℕ → Clause → Bool
rule_of k c = is_rule c.consequence && eqb (slot_of c.target) k

-- the lowest number of a clause that has p, the first one's being n; 255 where none has
unfoldable pub first_from : (Clause → Bool) → ℕ → List Clause → ℕ
first_from p n [] = 255
first_from p n (c ∷ cs) =
    let later = first_from p (suc n) cs in
    cond (p c) n later

-- the links of the clauses from number n on
pub record LinkedFrom (cs : List Clause) (n : ℕ) (links : List ℕ) : Type 0 where
  pub size : length links ≡ 834
  pub first : (k : ℕ) → k < 417 → get_or links k 0 ≡ first_from (in_chain k) n (drop n cs)
  pub next : (m : ℕ) → n ≤ m → m < length cs
      → get_or links (417 + m) 0 ≡ first_from (in_chain (head_of (get_or cs m no_clause))) (suc m) (drop (suc m) cs)
  pub rule : (k : ℕ) → k < 289 → get_or links (545 + k) 0 ≡ first_from (rule_of k) n (drop n cs)

-- the links of all clauses of scope i
abbrev pub Linked : List ℕ → ℕ → List ℕ → Type 0
Linked bytes i links = LinkedFrom (scope_at (scopes_of bytes) i).clauses 0 links

-- clause n in front of its chain, and in front of its target's rules if it is one
unfoldable pub with_clause : List ℕ → ℕ → Clause → List ℕ
with_clause links n c =
    let chained = set (set links (417 + n) (get_or links (head_of c) 0)) (head_of c) n in
    cond (is_rule c.consequence) (set chained (545 + slot_of c.target) n) chained

-- the cells that a clause is written to are there
pub record Room (links : List ℕ) (n : ℕ) (c : Clause) : Type 0 where
  pub size : length links ≡ 834
  pub number : n < 128
  pub head : head_of c < 417

-- what links rest on: the index is that of the book, its scopes are within the limits, and nothing in it dangles
pub record Sound (bytes index : List ℕ) : Type 0 where
  pub laid : Laid bytes index
  pub variables : (i : ℕ) → length (scope_at (scopes_of bytes) i).variables ≤ 32
  pub sub_scopes : (i : ℕ) → length (scope_at (scopes_of bytes) i).sub_scopes ≤ 8
  pub clauses : (i : ℕ) → length (scope_at (scopes_of bytes) i).clauses ≤ 128
  pub named : dangles (scopes_of bytes) ≡ false

-- no link is set
pub record Blank (bytes index links : List ℕ) : Type 0 where
  pub sound : Sound bytes index
  pub size : length links ≡ 834
  pub blank : (k : ℕ) → k < 834 → get_or links k 0 ≡ 255

-- the links of scope i, among those of all scopes
abbrev pub row : ℕ → List ℕ → List ℕ
row i links = take 834 (drop (i * 834) links)

-- no link of any scope is set
pub record Blanks (bytes index : List ℕ) (scopes : ℕ) (links : List ℕ) : Type 0 where
  pub sound : Sound bytes index
  pub size : scopes * 834 ≤ length links
  pub blank : (k : ℕ) → k < scopes * 834 → get_or links k 0 ≡ 255

pub record AllLinked (bytes : List ℕ) (scopes : ℕ) (links : List ℕ) : Type 0 where
  pub rows : (i : ℕ) → i < scopes → Linked bytes i (row i links)
