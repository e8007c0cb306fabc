-- The default tree of a target, by the cell that its bases came to: one law for each way through the code.
-- Assumes nothing.
use Prim.Native.Nat.{ℕ, ◌+◌}
use mathlib.Core.Path.{◌≡◌, refl}
use mathlib.Core.Bool.{true, false}
use mathlib.Core.List.{List}
use mathlib.Core.Logic.{⊎_elim}
use native.Mathlib.Omega.{arith}
use lib.ListN.{get_or}
use lib.Dec.{eqb}
use borrow.Author.Tests.{eqb-true, eqb-false}
use Rattle.std.specs.Prelude.{Result, Ok, Err}
use Rattle.laws.proofs.Booleans.{decide}
use Rattle.calculus.specs.Defaults.{settle}
use Rattle.calculus.proofs.Numbers.{zero_fits}
use Rattle.calculus.specs.declared.Value.TheVariants.{Truth}
use Rattle.answers.specs.declared.Cause.TheVariants.{Empty}
use Rattle.cells.specs.Codec.{no_cell, many_cell, empty_cell, conflict_cell, value_cell, cell_of, Codes, Gathers}
use Rattle.book.specs.Trees.{called_target}
use Rattle.links.specs.Links.{slot_of}
use Rattle.links.proofs.Named.{sound_chained}
use Rattle.terms.proofs.Defaults.{settled_many, settled, unsettled}
use Rattle.trees.specs.Chains.{chain_outcome, tree_outcome}
use Rattle.trees.specs.Rows.{row_of, Walk, Evaluable}
use Rattle.trees.proofs.Rows.{sound_row, sound_roomy}
use Rattle.trees.proofs.Targets.{slot_few, tree_unruled, tree_ruled}
use Rattle.calculus.specs.declared.Joined.{Joined}
use Rattle.answers.specs.declared.Cause.{Cause}
use Rattle.calculus.specs.declared.Value.{Value}

module _ (bytes index links own called : List ℕ) (i : ℕ) (e : Evaluable bytes index links own called i) (k v slot : ℕ)
    (at : slot ≡ slot_of (called_target k v)) where
  abbrev bases : Result Joined Cause
  bases = chain_outcome bytes own called i slot

  abbrev outcome : Result Value Cause
  outcome = tree_outcome bytes own called i k v

  abbrev rule : ℕ
  rule = get_or links (545 + slot) 0

  pub tree_walk : Walk bytes (row_of index i) links own called i slot
  tree_walk =
      let few = slot_few bytes index links i e.ready k v slot at in
      record {
        rowed = sound_row bytes index links own called i e;
        roomy = sound_roomy bytes index links own called i e;
        chained = sound_chained bytes index e.ready.sound i;
        linked = e.ready.linked;
        head = omega arith;
      }

  without : rule ≡ 255 → outcome ≡ settle bases (Err Empty)
  without = tree_unruled bytes index links i e.ready k v slot at own called

  among : (rule ≡ 255 → ⊥) → outcome ≡ settle bases (Ok (Truth false))
  among = tree_ruled bytes index links i e.ready k v slot at own called

  -- what is so of both
  either : (F : Result Value Cause → Type 0) → ((rest : Result Value Cause) → F (settle bases rest)) → F outcome
  either F h =
      ⊎_elim
      (λ (q : eqb rule 255 ≡ true). rw (without (eqb-true rule 255 q)) (h (Err Empty)))
      (λ (q : eqb rule 255 ≡ false). rw (among (eqb-false rule 255 q)) (h (Ok (Truth false))))
      (decide (eqb rule 255))

  module _ (g : ℕ) (h : Gathers g bases) where
    pub tree_many : g ≡ many_cell → Codes conflict_cell outcome
    tree_many z = either (Codes conflict_cell) (λ rest. settled_many bases rest (rw z at h))

    pub tree_one : (g ≡ many_cell → ⊥) → (g ≡ 0 → ⊥) → Codes g outcome
    tree_one m z = either (Codes g) (λ rest. settled g bases rest m z h)

    pub tree_empty : g ≡ 0 → rule ≡ 255 → Codes empty_cell outcome
    unfolding cell_of
    tree_empty z q = rw (without q, unsettled bases (Err Empty) (rw z at h)) (record { is = refl; fits = zero_fits })

    pub tree_no : g ≡ 0 → (rule ≡ 255 → ⊥) → Codes no_cell outcome
    unfolding cell_of value_cell
    tree_no z q = rw (among q, unsettled bases (Ok (Truth false)) (rw z at h)) (record { is = refl; fits = zero_fits })
