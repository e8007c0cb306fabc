-- Operators on cells: one law for each way through the code.
--     end_passes, left-passes, right-passes     an end is the result; on_value_lem, on_values, what is left to show of values
--     not_cell .. less-cells                    each operator on the cells of values
-- Assumes nothing.
use Prim.Native.Nat.{ℕ, ◌%◌, ◌<◌, ◌≤◌}
use mathlib.Core.Path.{◌≡◌, refl, ap, sym, ◌∙◌}
use mathlib.Core.Bool.{Bool, not, ◌&&◌}
use native.Mathlib.Omega.{arith}
use lib.Dec.{eqb}
use lib.IntN.{ℤ, neg_ℤ, ◌+ℤ◌, ◌-ℤ◌}
use lib.Signed.{lt_z}
use mir.Syntax.{w32}
use mir.Val.{SFits}
use mir.ValLaws.{to_z-Fits}
use Rattle.std.specs.Prelude.{Ok, Err}
use Rattle.calculus.specs.Values.{ranged}
use Rattle.calculus.specs.Operators.{unary_of, binary_of}
use Rattle.calculus.proofs.Numbers.{zero_fits}
use Rattle.calculus.specs.declared.Value.{Value}
use Rattle.calculus.specs.declared.Value.TheVariants.{Truth, Number}
use Rattle.answers.specs.declared.Side.{Side}
use Rattle.answers.specs.declared.Cause.TheVariants.{OutOfRange}
use Rattle.calculus.specs.declared.Unary.{Unary}
use Rattle.calculus.specs.declared.Unary.TheVariants.{Not, Negate}
use Rattle.calculus.specs.declared.Binary.{Binary}
use Rattle.calculus.specs.declared.Binary.TheVariants.{And, Add, Subtract, Equal, Less}
use Rattle.cells.specs.Codec.{empty_cell, side_cell, yes_cell, truth_cell, value_cell, cell_of, payload, Codes}
use Rattle.cells.proofs.Codec.{no_end, no_value_lem, is_yes, is_number, are_same}
use Rattle.terms.specs.Operators.{OnOne, OnTwo}

pub end_passes : (op : Unary) (x : ℕ) → empty_cell ≤ x → OnOne op x x
end_passes op x l (Ok v) h = no_end v x h l
end_passes op x l (Err k) h = h

pub on_value_lem : (op : Unary) (x r : ℕ) → x < empty_cell → ((v : Value) → Codes x (Ok v) → Codes r (unary_of op v)) → OnOne op x r
on_value_lem op x r l f (Ok v) h = f v h
on_value_lem op x r l f (Err k) h = no_value_lem k x h l

pub left_passes : (op : Binary) (x y : ℕ) → empty_cell ≤ x → OnTwo op x y x
left_passes op x y l (Ok v) b h k = no_end v x h l
left_passes op x y l (Err c) b h k = h

pub right_passes : (op : Binary) (x y : ℕ) → x < empty_cell → empty_cell ≤ y → OnTwo op x y y
right_passes op x y l m (Ok v) (Ok w) h k = no_end w y k m
right_passes op x y l m (Ok v) (Err c) h k = k
right_passes op x y l m (Err c) b h k = no_value_lem c x h l

pub on_values : (op : Binary) (x y r : ℕ) → x < empty_cell → y < empty_cell
    → ((v w : Value) → Codes x (Ok v) → Codes y (Ok w) → Codes r (binary_of op v w)) → OnTwo op x y r
on_values op x y r l m f (Ok v) (Ok w) h k = f v w h k
on_values op x y r l m f (Ok v) (Err c) h k = no_value_lem c y k m
on_values op x y r l m f (Err c) b h k = no_value_lem c x h l

pub truth_codes : (r : ℕ) (b d : Bool) → r ≡ truth_cell b → b ≡ d → Codes r (Ok (Truth d))
unfolding cell_of value_cell
truth_codes r b d e f = record { is = e ∙ ap truth_cell f; fits = zero_fits }

pub number_codes : (r : ℕ) (z : ℤ) → SFits w32 z → r ≡ value_cell (Number z) → Codes r (Ok (Number z))
unfolding cell_of
number_codes r z f e = record { is = e; fits = f }

pub side_codes : (s : Side) → Codes (side_cell s) (Err (OutOfRange s))
unfolding cell_of
side_codes s = record { is = refl; fits = zero_fits }

pub payload_fits : (x : ℕ) → SFits w32 (payload x)
payload_fits x = to_z-Fits w32 (x % 4294967296) (record { fits = omega arith })

pub not_cell : (x r : ℕ) (b : Bool) → x < empty_cell → eqb x yes_cell ≡ b → r ≡ truth_cell (not b) → OnOne Not x r
not_cell x r b l q e = on_value_lem Not x r l (λ v h. truth_codes r _ _ e (ap not (sym q ∙ is_yes v x h)))

pub negate_cell : (x r : ℕ) → x < empty_cell → Codes r (ranged (neg_ℤ (payload x))) → OnOne Negate x r
negate_cell x r l e = on_value_lem Negate x r l (λ v h. rw (is_number v x h) at e)

module _ (x y r : ℕ) (l : x < empty_cell) (m : y < empty_cell) where
  pub and_cells : r ≡ truth_cell (eqb x yes_cell && eqb y yes_cell) → OnTwo And x y r
  and_cells e = on_values And x y r l m (λ v w h k. rw (← is_yes v x h, ← is_yes w y k) (truth_codes r _ _ e refl))

  pub add_cells : Codes r (ranged (payload x +ℤ payload y)) → OnTwo Add x y r
  add_cells e = on_values Add x y r l m (λ v w h k. rw (← is_number v x h, ← is_number w y k) e)

  pub subtract_cells : Codes r (ranged (payload x -ℤ payload y)) → OnTwo Subtract x y r
  subtract_cells e = on_values Subtract x y r l m (λ v w h k. rw (← is_number v x h, ← is_number w y k) e)

  pub equal_cells : r ≡ truth_cell (eqb x y) → OnTwo Equal x y r
  equal_cells e = on_values Equal x y r l m (λ v w h k. truth_codes r _ _ e (are_same v w x y h k))

  pub less_cells : r ≡ truth_cell (lt_z (payload x) (payload y)) → OnTwo Less x y r
  less_cells e = on_values Less x y r l m (λ v w h k. rw (← is_number v x h, ← is_number w y k) (truth_codes r _ _ e refl))
