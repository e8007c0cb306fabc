-- A leaf, by its position: one law for each way through the code.
--     leaf_kinds, inner-kinds   the kinds of leaves, and of the other nodes; leaf_last, the last kind of leaves
--     own_node, called-node     the variable that it is
--     called_byte               the byte that a sub-scope's variable has
--     constant .. called-read   its cell, whatever the terms of lower nodes are
-- Assumes nothing.
use Prim.Native.Nat.{ℕ, ◌+◌, ◌*◌, ◌<◌, ◌≤◌}
use mathlib.Core.Path.{◌≡◌, refl}
use mathlib.Core.Bool.{true, false}
use mathlib.Core.List.{List, [], ◌∷◌}
use mathlib.Core.Logic.{◌⊎◌, inl, inr, ⊎_elim}
use native.Mathlib.Omega.{arith}
use lib.ListN.{length, get_or}
use lib.Dec.{eqb, leb, ltb}
use lib.IntN.{ℤ}
use mir.Syntax.{w32}
use mir.Val.{SFits}
use borrow.Author.Tests.{ltb-true, ltb-false, leb-true, leb-false}
use Rattle.slices.specs.Bytes.{number_at}
use Rattle.record.specs.Kinds.{kinds, shapes_of, shape_in}
use Rattle.record.proofs.Decision.{NoneOf}
use Rattle.laws.proofs.Booleans.{decide, both}
use Rattle.calculus.specs.Evaluation.{eval}
use Rattle.calculus.specs.declared.Value.TheVariants as value
use Rattle.book.specs.Syntax.{node_of}
use Rattle.book.specs.Positions.{node_from, node_length}
use Rattle.book.specs.declared.Node.TheVariants.{Constant, Number, Own, Called}
use Rattle.index.proofs.Bodies.{after, number_after, kind_inside}
use Rattle.cells.specs.Codec.{truth_cell, value_cell, held_cell}
use Rattle.cells.specs.Cells.{given_at}
use Rattle.cells.proofs.Variables.{held_is}
use Rattle.terms.specs.Outcomes.{is_leaf, ReadableLeaf, CodesLeaf}
use Rattle.terms.proofs.Operators.{truth_codes, number_codes}

module _ (k : ℕ) where
  leaf_kinds : is_leaf k ≡ true → (4 ≤ k) × (k < 8)
  unfolding is_leaf
  leaf_kinds h = let b = both (leb 4 k) (ltb k 8) h in (leb-true 4 k b.0, ltb-true k 8 b.1)

  pub inner_kinds : is_leaf k ≡ false → (k < 4) ⊎ (8 ≤ k)
  unfolding is_leaf
  inner_kinds h =
      ⊎_elim
      (λ (q : leb 4 k ≡ true). inr (ltb-false k 8 (rw q at h)))
      (λ (q : leb 4 k ≡ false). inl (leb-false 4 k q))
      (decide (leb 4 k))

  pub leaf_last : is_leaf k ≡ true → NoneOf ((6 ∷ []) ∷ (5 ∷ []) ∷ (4 ∷ []) ∷ []) k → k ≡ 7
  leaf_last h n = let b = leaf_kinds h in omega (arith, n.0.0.1, n.0.1, n.1)

module _ (bytes : List ℕ) (at : ℕ) where
  abbrev kind : ℕ
  kind = get_or bytes at 0

  -- byte k after the kind
  abbrev byte : ℕ → ℕ
  byte k = get_or bytes (at + k) 0

  constant_node : kind ≡ 4 → node_from bytes at ≡ Constant (eqb (byte 1) 1)
  unfolding node_from node_of
  constant_node e = rw (e, after bytes at 0)

  number_node : kind ≡ 5 → node_from bytes at ≡ Number (number_at bytes (at + 1))
  unfolding node_from node_of
  number_node e = rw (e, number_after bytes at)

  pub own_node : kind ≡ 6 → node_from bytes at ≡ Own (byte 1)
  unfolding node_from node_of
  own_node e = rw (e, after bytes at 0)

  pub called_node : kind ≡ 7 → node_from bytes at ≡ Called (byte 1) (byte 2)
  unfolding node_from node_of
  called_node e = rw (e, after bytes at 0, after bytes at 1)

  module _ (own called : List ℕ) (s : ReadableLeaf bytes own called at) where
    pub called_byte : kind ≡ 7 → at + 2 < length bytes
    unfolding node_length shape_in shapes_of kinds
    called_byte e = kind_inside bytes at s.whole 7 2 e tt

    pub constant : kind ≡ 4 → (r : ℕ) → r ≡ truth_cell (eqb (byte 1) 1) → CodesLeaf bytes own called at r
    unfolding eval
    constant e r h lower = rw (constant_node e) (truth_codes r _ _ h refl)

    pub number : kind ≡ 5 → (r : ℕ) (z : ℤ) → SFits w32 z → z ≡ number_at bytes (at + 1) → r ≡ value_cell (value.Number z) → CodesLeaf bytes own called at r
    unfolding eval
    number e r z f q h lower = rw (number_node e, ← q) (number_codes r z f h)

    pub own_read : kind ≡ 6 → (r : ℕ) → r ≡ held_cell (get_or own (byte 1) 0) → CodesLeaf bytes own called at r
    unfolding eval given_at
    own_read e r h lower = rw (own_node e, h, held_is (get_or own (byte 1) 0)) (s.own_kept (byte 1))

    pub called_read : kind ≡ 7 → (r : ℕ) → r ≡ held_cell (get_or called (byte 1 * 32 + byte 2) 0) → CodesLeaf bytes own called at r
    unfolding eval given_at
    called_read e r h lower = rw (called_node e, h, held_is (get_or called (byte 1 * 32 + byte 2) 0)) (s.called_kept (byte 1 * 32 + byte 2))
