-- `terms::binary` meets its contract.
use mathlib.Core.Path.{◌≡◌}
use mir.Syntax.{w64}
use mir.Val.{to_z, of_z}
use mir.Facts.{to_z-of_z}
use borrow.Author.Tests.{ne_eqb}
use Prim.Native.Nat.{ℕ}
use lib.IntN.{ℤ}
use Rattle.calculus.proofs.Numbers.{kept, sum_fits, difference_fits}
use Rattle.operators.specs.Kinds.{operator}
use Rattle.cells.specs.Codec.{payload}
use Rattle.terms.proofs.Operators.{left_passes, right_passes, payload_fits, and_cells, add_cells, subtract_cells, equal_cells, less_cells}
use Rattle.terms.proofs.binary.Goals as goal

is : (x : ℕ) {r : ℤ} → r ≡ payload x → to_z w64 (of_z w64 r) ≡ payload x
is x e = kept e (payload_fits x)

pub returns-then-x-ge-EMPTY : goal.returns-then-x-ge-EMPTY
returns-then-x-ge-EMPTY c = left_passes (operator c.args.kind) _ _ c.if-x-ge-EMPTY.true

pub returns-then-y-ge-EMPTY : goal.returns-then-y-ge-EMPTY
returns-then-y-ge-EMPTY c = right_passes (operator c.args.kind) _ _ c.if-x-ge-EMPTY.false c.if-y-ge-EMPTY.true

pub overflow_add-signed : goal.overflow_add-signed
overflow_add-signed c = let s = c.args in rw (is s.x c.signed.ensures, is s.y c.signed-in-13.ensures) (sum_fits (payload_fits s.x) (payload_fits s.y))

pub overflow_sub-signed : goal.overflow_sub-signed
overflow_sub-signed c = let s = c.args in rw (is s.x c.signed-in-14.ensures, is s.y c.signed-in-14-2.ensures) (difference_fits (payload_fits s.x) (payload_fits s.y))

pub returns-in-12 : goal.returns-in-12
unfolding operator
returns-in-12 c = rw c.in-12.is (and_cells _ _ _ c.if-x-ge-EMPTY.false c.if-y-ge-EMPTY.false c.truth.ensures)

pub returns-in-13 : goal.returns-in-13
unfolding operator
returns-in-13 c =
    let s = c.args in
    rw c.in-13.is
    (add_cells s.x s.y _ c.if-x-ge-EMPTY.false c.if-y-ge-EMPTY.false
    (rw (is s.x c.signed.ensures, is s.y c.signed-in-13.ensures, to_z-of_z (sum_fits (payload_fits s.x) (payload_fits s.y))) at c.ranged.ensures))

pub returns-in-14 : goal.returns-in-14
unfolding operator
returns-in-14 c =
    let s = c.args in
    rw c.in-14.is
    (subtract_cells s.x s.y _ c.if-x-ge-EMPTY.false c.if-y-ge-EMPTY.false
    (rw (is s.x c.signed-in-14.ensures, is s.y c.signed-in-14-2.ensures, to_z-of_z (difference_fits (payload_fits s.x) (payload_fits s.y))) at c.ranged-in-14.ensures))

pub returns-in-15 : goal.returns-in-15
unfolding operator
returns-in-15 c = rw c.in-15.is (equal_cells _ _ _ c.if-x-ge-EMPTY.false c.if-y-ge-EMPTY.false c.truth-in-15.ensures)

pub returns-in_default : goal.returns-in_default
unfolding operator
returns-in_default c =
    let s = c.args in
    let out = c.in_default.in_default-own.rest in
    rw (ne_eqb s.kind 12 out.0.0.0.1, ne_eqb s.kind 13 out.0.0.1, ne_eqb s.kind 14 out.0.1, ne_eqb s.kind 15 out.1)
    (less_cells s.x s.y _ c.if-x-ge-EMPTY.false c.if-y-ge-EMPTY.false
    (rw (is s.x c.signed-in_default.ensures, is s.y c.signed-in_default-2.ensures) at c.truth-in_default.ensures))
