-- In an accepted book every scope is well formed: nothing in it dangles, no node is named twice, types fit, and no target has both
-- rules and definitions.
--     fitting_nodes, fitting_clauses                  of a scope without mismatch: each node and clause fits
--     unmixed_pairs                                   of a scope that is not mixed: no two clauses are
--     faultless_formed                                each scope of a book without fault is well formed
--     faultless_weight                                each scope's weight is 4,096 at most
-- Assumes nothing.
use Prim.Native.Nat.{ℕ, ◌<◌, ◌≤◌, ◌+◌}
use mathlib.Core.Path.{◌≡◌}
use mathlib.Core.Bool.{true, false, not}
use mathlib.Core.List.{List}
use native.Mathlib.Omega.{arith}
use lib.ListN.{length, get_or}
use lib.Dec.{ltb}
use borrow.Author.Tests.{ltb-false}
use Rattle.laws.proofs.Booleans.{neither}
use Rattle.book.specs.Lists.{any}
use Rattle.book.specs.Syntax.{Scope, empty_scope}
use Rattle.book.specs.Decode.{scopes_of}
use Rattle.book.specs.References.{scope_at, dangles_in, dangles}
use Rattle.book.specs.Sharing.{namings, repeats, shares}
use Rattle.book.specs.Typing.{type_of_node, node_fits, clause_fits, mismatch_in, mismatches}
use Rattle.book.specs.Mixing.{mixed_pair, mixed_in, mixes}
use Rattle.book.specs.Scopes.{weight, weight_exceeded}
use Rattle.book.specs.declared.Node.{Node}
use Rattle.book.specs.declared.Clause.{Clause}
use Rattle.acceptance.specs.Verdicts.{Faultless}
use Rattle.acceptance.specs.Accepted.{WellFormed}
use Rattle.book.proofs.Searches.{any_false, any_from_false, each}
use Rattle.book.proofs.Naming.{named_sub_scopes, named_nodes, named_clauses}

module _ (book : List Scope) (s : Scope) (e : mismatch_in book s ≡ false) where
  pub fitting_nodes : (n : ℕ) → n < length s.nodes → (d : Node) → node_fits (type_of_node book s) (get_or s.nodes n d) ≡ true
  unfolding mismatch_in
  fitting_nodes = each (node_fits (type_of_node book s)) s.nodes (neither _ _ e).0

  pub fitting_clauses : (n : ℕ) → n < length s.clauses → (d : Clause)
      → clause_fits book s (type_of_node book s) (get_or s.clauses n d) ≡ true
  unfolding mismatch_in
  fitting_clauses = each (clause_fits book s (type_of_node book s)) s.clauses
      (neither (any (λ x. not (node_fits (type_of_node book s) x)) s.nodes) _ e).1

pub unmixed_pairs : (s : Scope) → mixed_in s ≡ false → (m n : ℕ) → m < length s.clauses → n < length s.clauses → (d : Clause)
    → mixed_pair (get_or s.clauses m d) (get_or s.clauses n d) ≡ false
unfolding mixed_in
unmixed_pairs s e m n l h d =
    any_false (mixed_pair (get_or s.clauses m d)) s.clauses
    (any_false (λ c. any (mixed_pair c) s.clauses) s.clauses e m l d)
    n h d

module _ (bytes : List ℕ) (f : Faultless bytes) (i : ℕ) (l : i < length (scopes_of bytes)) where
  pub faultless_formed : WellFormed (scopes_of bytes) (scope_at (scopes_of bytes) i)
  unfolding dangles shares mismatches mixes
  faultless_formed =
      let book = scopes_of bytes in
      let s = scope_at book i in
      let named = any_false (dangles_in book) book f.named i l empty_scope in
      let typed = any_false (mismatch_in book) book f.typed i l empty_scope in
      record {
        sub_scopes_named = named_sub_scopes book s named;
        nodes_named = named_nodes book s named;
        clauses_named = named_clauses book s named;
        unshared = any_false (λ s. repeats (namings s)) book f.unshared i l empty_scope;
        nodes_fit = fitting_nodes book s typed;
        clauses_fit = fitting_clauses book s typed;
        unmixed = unmixed_pairs s (any_false mixed_in book f.unmixed i l empty_scope);
      }

  pub faultless_weight : weight (scopes_of bytes) i ≤ 4096
  unfolding weight_exceeded
  faultless_weight =
      let book = scopes_of bytes in
      let z : 0 + i ≡ i = omega arith in
      ltb-false 4096 (weight book i) (rw z at (any_from_false (λ j s. ltb 4096 (weight book j)) 0 book f.light i l empty_scope))
