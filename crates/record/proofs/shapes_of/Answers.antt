-- `record::shapes_of` meets its contract: of a number that is in no arm, by one law, whose test antt computes.
use mathlib.Core.List.{List, [], ◌∷◌}
use Prim.Native.Nat.{ℕ}
use native.Mathlib.Omega.{arith}
use Rattle.record.specs.Kinds.{shapes_of, kinds}
use Rattle.record.proofs.Decision.{by_range, over, is_any}
use Rattle.record.proofs.Same.{same, same_is}
use Rattle.record.proofs.shapes_of.Goals as goal

-- the arms' single numbers, the last arm's first
abbrev keys : List (List ℕ)
keys = (44 ∷ []) ∷ (43 ∷ []) ∷ (42 ∷ []) ∷ (41 ∷ []) ∷ (35 ∷ []) ∷ (34 ∷ 36 ∷ 40 ∷ []) ∷ (33 ∷ 38 ∷ []) ∷ (32 ∷ 37 ∷ 39 ∷ []) ∷ (18 ∷ []) ∷ (17 ∷ []) ∷ (7 ∷ []) ∷ (6 ∷ []) ∷ (5 ∷ []) ∷ (4 ∷ []) ∷ (3 ∷ []) ∷ (2 ∷ []) ∷ (1 ∷ []) ∷ []

pub returns-in_default-2 : goal.returns-in_default-2
unfolding over is_any shapes_of kinds
returns-in_default-2 c = by_range shapes_of same same_is keys _ 21 235 tt _ c.in_default.in_default-own.rest (omega arith) (omega arith)
