-- `terms::leaf` meets its contract.
use Prim.Native.Nat.{◌+◌}
use native.Mathlib.Omega.{arith}
use mir.Syntax.{w32}
use mir.Val.{SFits}
use mir.Facts.{to_z-of_z}
use Rattle.index.proofs.Bodies.{body_byte}
use Rattle.terms.proofs.Leaves as leaves
use Rattle.terms.proofs.leaf.Goals as goal

pub bounds-book-at-2 : goal.bounds-book-at-2
bounds-book-at-2 c = body_byte c.args.book.now c.args.at c.requires.whole (let h = c.type_inv.book c.args.at in omega arith)

pub overflow_cast-a : goal.overflow_cast-a
overflow_cast-a c = omega (arith, c.type_inv.book (c.args.at + 1))

pub offset_bounds-own-a : goal.offset_bounds-own-a
offset_bounds-own-a c = omega (arith, c.type_inv.book (c.args.at + 1))

pub bounds-own-a : goal.bounds-own-a
bounds-own-a c = c.requires.own_there c.in-6.is

pub bounds-book-at-in_default : goal.bounds-book-at-in_default
bounds-book-at-in_default c = leaves.called_byte _ _ _ _ c.requires (leaves.leaf_last _ c.requires.leaf c.in_default.in_default-own.rest)

pub overflow_cast-a-in_default : goal.overflow_cast-a-in_default
overflow_cast-a-in_default c = omega (arith, c.type_inv.book (c.args.at + 1))

pub overflow_mul-a : goal.overflow_mul-a
overflow_mul-a c = omega (arith, c.type_inv.book (c.args.at + 1))

pub overflow_cast-x : goal.overflow_cast-x
overflow_cast-x c = omega (arith, c.type_inv.book (c.args.at + 2))

pub overflow_add-a-in_default : goal.overflow_add-a-in_default
overflow_add-a-in_default c = omega (arith, c.type_inv.book (c.args.at + 1), c.type_inv.book (c.args.at + 2))

pub offset_bounds-called-a : goal.offset_bounds-called-a
offset_bounds-called-a c = omega (arith, c.type_inv.book (c.args.at + 1), c.type_inv.book (c.args.at + 2))

pub bounds-called-a : goal.bounds-called-a
bounds-called-a c = c.requires.called_there (leaves.leaf_last _ c.requires.leaf c.in_default.in_default-own.rest)

pub returns-in-4 : goal.returns-in-4
returns-in-4 c = leaves.constant _ _ _ _ c.requires c.in-4.is _ c.truth.ensures

pub returns-in-5 : goal.returns-in-5
returns-in-5 c = let f : SFits w32 c.number_at.result = record { sfits = c.number_at.type_inv } in leaves.number _ _ _ _ c.requires c.in-5.is _ _ f c.number_at.ensures (rw (to_z-of_z f) at c.number.ensures)

pub returns-in-6 : goal.returns-in-6
returns-in-6 c = leaves.own_read _ _ _ _ c.requires c.in-6.is _ c.held_cell.ensures

pub returns-in_default : goal.returns-in_default
returns-in_default c = leaves.called_read _ _ _ _ c.requires (leaves.leaf_last _ c.requires.leaf c.in_default.in_default-own.rest) _ c.held_cell-in_default.ensures
