-- What a clause may name and what it fits, by its target's scope and by the count of the scope's nodes.
--     target_named, target-typed    a target, by its scope
--     clause_named, clause-fits     a clause, by its parts
-- Assumes nothing.
use Prim.Native.Nat.{ℕ}
use mathlib.Core.Path.{◌≡◌, refl}
use mathlib.Core.Bool.{Bool, ◌&&◌, ◌||◌}
use mathlib.Core.List.{List}
use mathlib.Core.Logic.{⊎_elim}
use lib.ListN.{length}
use lib.Dec.{eqb, ltb}
use Rattle.laws.proofs.Booleans.{decide}
use Rattle.book.specs.Syntax.{Scope, same_type}
use Rattle.book.specs.Positions.{sub_scope_at}
use Rattle.book.specs.References.{scope_at, names_called, names_exception, names_target, names_consequence, clause_names}
use Rattle.book.specs.Typing.{target_type, consequence_type}
use Rattle.book.specs.declared.ValueType.{ValueType}
use Rattle.book.specs.declared.ValueType.TheVariants.{YesNo}
use Rattle.book.specs.declared.Target.{Target}
use Rattle.book.specs.declared.Clause.{Clause}
use Rattle.book.specs.declared.Consequence.{Consequence}
use Rattle.book.specs.declared.Consequence.TheVariants.{Of, Fixed}
use Rattle.references.specs.Dangling.{target_scope, parent_names}
use Rattle.typing.specs.Types.{type_in, own_type, clause_suits}
use Rattle.checks.specs.Findings.{consequence_names}

module _ (book : List Scope) (i : ℕ) (t : Target) where
  pub target_named :
      (names_exception (length (scope_at book i).sub_scopes) t.sub
      && ltb t.variable (length (scope_at book (target_scope book i t.sub)).variables))
      ≡ names_target book (scope_at book i) t
  unfolding target_scope names_called sub_scope_at
  target_named = ⊎_elim (λ q. rw q refl) (λ q. rw q refl) (decide (eqb t.sub 255))

  pub target_typed : own_type book (target_scope book i t.sub) t.variable ≡ target_type book (scope_at book i) t
  unfolding target_scope own_type sub_scope_at
  target_typed = ⊎_elim (λ q. rw q refl) (λ q. rw q refl) (decide (eqb t.sub 255))

same_consequence : (s : Scope) (q : Consequence) → consequence_names (length s.nodes) q ≡ names_consequence s q
unfolding consequence_names
same_consequence s (Of n) = refl
same_consequence s (Fixed b) = refl

module _ (book : List Scope) (i n : ℕ) (c : Clause) {owner : ℕ} (scope : owner ≡ target_scope book i c.target.sub) where
  pub clause_named :
      {subs variables nodes : ℕ} {there within follows first second : Bool}
      → subs ≡ length (scope_at book i).sub_scopes → there ≡ names_exception subs c.target.sub
      → variables ≡ length (scope_at book owner).variables → within ≡ ltb c.target.variable variables
      → follows ≡ parent_names book i n c.parent c.target → nodes ≡ length (scope_at book i).nodes
      → first ≡ names_exception nodes c.condition → second ≡ consequence_names nodes c.consequence
      → ((there && within) && (follows && (first && second))) ≡ clause_names book (scope_at book i) n c
  unfolding clause_names parent_names
  clause_named es et ev ew ef en ea eb =
      rw (et, ew, es, ev, scope, ef, ea, eb, en, target_named book i c.target, same_consequence (scope_at book i) c.consequence) refl

module _ (book : List Scope) (i : ℕ) (types : List ℕ) (c : Clause) {owner : ℕ} (scope : owner ≡ target_scope book i c.target.sub) where
  pub clause_fits_lem :
      {wanted : ValueType} {first second : Bool} → wanted ≡ own_type book owner c.target.variable
      → first ≡ (eqb c.condition 255 || same_type (type_in types c.condition) YesNo)
      → second ≡ same_type (consequence_type (type_in types) c.consequence) wanted → (first && second) ≡ clause_suits book i types c
  unfolding clause_suits
  clause_fits_lem ew ea eb = rw (ea, eb, ew, scope, target_typed book i c.target) refl
