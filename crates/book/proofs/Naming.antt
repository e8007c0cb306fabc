-- Of a scope in which nothing dangles: each sub-scope, node and clause names what is there.
--     scope_sound    where nothing dangles in a book, nothing does in the scope of any number
-- Assumes nothing.
use Prim.Native.Nat.{ℕ, ◌<◌}
use mathlib.Core.Path.{◌≡◌, refl}
use mathlib.Core.Bool.{true, false, not}
use mathlib.Core.List.{List}
use lib.ListN.{length, get_or}
use lib.Dec.{ltb}
use borrow.Author.Tests.{ltb-true}
use Rattle.laws.proofs.Booleans.{neither}
use Rattle.book.specs.Lists.{any, any_from}
use Rattle.book.specs.Syntax.{Scope, empty_scope}
use Rattle.book.specs.References.{scope_at, node_names, clause_names, dangles_in, dangles}
use Rattle.book.specs.declared.Node.{Node}
use Rattle.book.specs.declared.Clause.{Clause}
use Rattle.book.proofs.Searches.{any_default, each, each_from}

module _ (book : List Scope) (s : Scope) (e : dangles_in book s ≡ false) where
  parts : (any (λ i. not (ltb i (length book))) s.sub_scopes ≡ false)
      × (any_from (λ n x. not (node_names book s n x)) 0 s.nodes ≡ false)
      × (any_from (λ n c. not (clause_names book s n c)) 0 s.clauses ≡ false)
  unfolding dangles_in
  parts =
      let a = neither (any (λ i. not (ltb i (length book))) s.sub_scopes) _ e in
      let b = neither (any_from (λ n x. not (node_names book s n x)) 0 s.nodes) _ a.1 in
      (a.0, b.0, b.1)

  pub named_sub_scopes : (k : ℕ) → k < length s.sub_scopes → get_or s.sub_scopes k 0 < length book
  named_sub_scopes k h =
      ltb-true (get_or s.sub_scopes k 0) (length book) (each (λ i. ltb i (length book)) s.sub_scopes parts.0 k h 0)

  pub named_nodes : (n : ℕ) → n < length s.nodes → (d : Node) → node_names book s n (get_or s.nodes n d) ≡ true
  named_nodes = each_from (node_names book s) s.nodes parts.1

  pub named_clauses : (n : ℕ) → n < length s.clauses → (d : Clause) → clause_names book s n (get_or s.clauses n d) ≡ true
  named_clauses = each_from (clause_names book s) s.clauses parts.2

no_scope : (book : List Scope) → dangles_in book empty_scope ≡ false
unfolding dangles_in any any_from
no_scope book = refl

pub scope_sound : (book : List Scope) → dangles book ≡ false → (i : ℕ) → dangles_in book (scope_at book i) ≡ false
unfolding dangles
scope_sound book e = any_default (dangles_in book) book empty_scope e (no_scope book)
