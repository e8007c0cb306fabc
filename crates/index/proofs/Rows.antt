-- Laws of the index, and of the records that are found by it.
--     no_row, count, column                a count and a position, and a number that has none
--     Standing, standing, past             a record below the count of its sort, and a number past it, for every sort
--     variable_here .. clause-past         the same for each sort
-- Assumes nothing.
use Prim.Native.Nat.{ℕ, ◌+◌, ◌*◌, ◌<◌, ◌≤◌}
use mathlib.Core.Path.{◌≡◌, refl, sym}
use mathlib.Core.Bool.{true, false}
use mathlib.Core.List.{List, []}
use mathlib.Core.Logic.{⊎_elim}
use native.Mathlib.Omega.{arith}
use lib.ListN.{length, get_or, get_or-eq_default}
use lib.Dec.{ltb}
use borrow.Author.Tests.{lt-ltb, le-ltb, ltb-true, ltb-false}
use Rattle.laws.proofs.Booleans.{decide}
use Rattle.book.specs.Syntax.{Scope, empty_scope, no_node}
use Rattle.book.specs.Decode.{scopes_of}
use Rattle.book.specs.References.{scope_at, no_clause}
use Rattle.book.specs.Positions.{variable_at, sub_scope_at, node_at, clause_at, variable_from, sub_scope_from, node_from, clause_from, node_length, Found}
use Rattle.index.specs.Index.{cell_of, index_at, Placed, Laid}
use Rattle.book.specs.declared.ValueType.TheVariants.{YesNo}

module _ (index : List ℕ) (i k : ℕ) where
  pub no_row : 32 ≤ i → ◌≡◌ {A = ℕ} 0 (index_at index i k)
  unfolding index_at
  no_row h = simp (le-ltb i 32 h)

  pub count : i < 32 → k < 4 → get_or index (i * 4 + k) 0 ≡ index_at index i k
  unfolding index_at cell_of
  count h l = rw (lt-ltb i 32 h, lt-ltb k 422 (omega arith), lt-ltb k 4 l)

  pub column : i < 32 → 4 ≤ k → k < 422 → get_or index (124 + i * 418 + k) 0 ≡ index_at index i k
  unfolding index_at cell_of
  column h b l = rw (lt-ltb i 32 h, lt-ltb k 422 l, le-ltb k 4 b)

-- a scope that has records is there
there : {A : Type 0} (book : List Scope) (i : ℕ) (part : Scope → List A) → part empty_scope ≡ [] → (n : ℕ) → n < length (part (scope_at book i)) → i < length book
there book i part none n l =
    ⊎_elim
    (λ (q : ltb i (length book) ≡ true). ltb-true i (length book) q)
    (λ (q : ltb i (length book) ≡ false).
    let e : scope_at book i ≡ empty_scope = get_or-eq_default book empty_scope (ltb-false i (length book) q) in
    let z : length (part (scope_at book i)) ≡ 0 = rw (e, none) in
    absurd (omega arith))
    (decide (ltb i (length book)))

-- the record at a column of a scope's row is x
pub record Standing {A : Type 0} (from : List ℕ → ℕ → A) (long : ℕ → ℕ) (bytes index : List ℕ) (i k : ℕ) (x : A) : Type 0 where
  pub row : i < 32
  pub low : 4 ≤ k
  pub column : k < 422
  pub inside : 124 + i * 418 + k < length index
  pub found : Found from long bytes (index_at index i k) x

module _ {A : Type 0} (from : List ℕ → ℕ → A) (long : ℕ → ℕ) (bytes index : List ℕ) (laid : Laid bytes index) (i base sort : ℕ) (part : Scope → List A) (none : part empty_scope ≡ []) (d : A) (behind : 4 ≤ base)
    (counted : index_at index i sort ≡ length (part (scope_at (scopes_of bytes) i))) (n count : ℕ) (e : count ≡ index_at index i sort) where
  abbrev xs : List A
  xs = part (scope_at (scopes_of bytes) i)

  standing : Placed from long bytes index i base xs → n < count → Standing from long bytes index i (base + n) (get_or xs n d)
  standing placed l =
      let p = placed n d (omega arith) in
      let t = there (scopes_of bytes) i part none n (omega arith) in
      record {
        row = omega (arith, laid.within.scopes);
        low = omega (arith, behind);
        column = p.0;
        inside = omega (arith, laid.rows, p.0);
        found = p.1;
      }

  past : count ≤ n → d ≡ get_or xs n d
  past l = sym (get_or-eq_default xs d (omega arith))

module _ (bytes index : List ℕ) (laid : Laid bytes index) (i n count : ℕ) where
  pub variable_here : count ≡ index_at index i 0 → n < count → Standing variable_from (λ k. 1) bytes index i (4 + n) (variable_at (scopes_of bytes) i n)
  unfolding variable_at
  variable_here e = standing variable_from (λ k. 1) bytes index laid i 4 0 (λ s. s.variables) refl (record { holds = YesNo }) (omega arith) (laid.variable_count i) n count e (laid.variables i)

  pub variable_past : count ≡ index_at index i 0 → count ≤ n → record { holds = YesNo } ≡ variable_at (scopes_of bytes) i n
  unfolding variable_at
  variable_past e = past variable_from (λ k. 1) bytes index laid i 4 0 (λ s. s.variables) refl (record { holds = YesNo }) (omega arith) (laid.variable_count i) n count e

  pub sub_scope_here : count ≡ index_at index i 1 → n < count → Standing sub_scope_from (λ k. 1) bytes index i (36 + n) (sub_scope_at (scopes_of bytes) i n)
  unfolding sub_scope_at
  sub_scope_here e = standing sub_scope_from (λ k. 1) bytes index laid i 36 1 (λ s. s.sub_scopes) refl 0 (omega arith) (laid.sub_scope_count i) n count e (laid.sub_scopes i)

  pub sub_scope_past : count ≡ index_at index i 1 → count ≤ n → 0 ≡ sub_scope_at (scopes_of bytes) i n
  unfolding sub_scope_at
  sub_scope_past e = past sub_scope_from (λ k. 1) bytes index laid i 36 1 (λ s. s.sub_scopes) refl 0 (omega arith) (laid.sub_scope_count i) n count e

  pub node_here : count ≡ index_at index i 2 → n < count → Standing node_from node_length bytes index i (44 + n) (node_at (scopes_of bytes) i n)
  unfolding node_at
  node_here e = standing node_from node_length bytes index laid i 44 2 (λ s. s.nodes) refl no_node (omega arith) (laid.node_count i) n count e (laid.nodes i)

  pub node_past : count ≡ index_at index i 2 → count ≤ n → no_node ≡ node_at (scopes_of bytes) i n
  unfolding node_at
  node_past e = past node_from node_length bytes index laid i 44 2 (λ s. s.nodes) refl no_node (omega arith) (laid.node_count i) n count e

  pub clause_here : count ≡ index_at index i 3 → n < count → Standing clause_from (λ k. 5) bytes index i (294 + n) (clause_at (scopes_of bytes) i n)
  unfolding clause_at
  clause_here e = standing clause_from (λ k. 5) bytes index laid i 294 3 (λ s. s.clauses) refl no_clause (omega arith) (laid.clause_count i) n count e (laid.clauses i)

  pub clause_past : count ≡ index_at index i 3 → count ≤ n → no_clause ≡ clause_at (scopes_of bytes) i n
  unfolding clause_at
  clause_past e = past clause_from (λ k. 5) bytes index laid i 294 3 (λ s. s.clauses) refl no_clause (omega arith) (laid.clause_count i) n count e
