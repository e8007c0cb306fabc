-- `index::node_of` meets its contract.
use native.Mathlib.Omega.{arith}
use mir.Facts.{to_z-of_z}
use mir.Val.{SFits}
use mir.Syntax.{w32}
use Rattle.record.specs.Kinds.{kinds, shapes_of, shape_in}
use Rattle.book.specs.Syntax.{node_of}
use Rattle.book.specs.Positions.{node_from, node_length}
use Rattle.index.proofs.Bodies.{number_after, body_byte, kind_inside, default_inside}
use Rattle.index.proofs.node_of.Goals as goal

pub bounds-book-at : goal.bounds-book-at
bounds-book-at c = body_byte c.args.book.now c.args.at c.requires (let h = c.type_inv.book c.args.at in omega arith)

pub bounds-book-at-in-7 : goal.bounds-book-at-in-7
unfolding node_length shape_in shapes_of kinds
bounds-book-at-in-7 c = kind_inside c.args.book.now c.args.at c.requires 7 2 c.in-7.is tt

pub bounds-book-at-in-12 : goal.bounds-book-at-in-12
unfolding node_length shape_in shapes_of kinds
bounds-book-at-in-12 c = kind_inside c.args.book.now c.args.at c.requires 12 2 c.in-12.is tt

pub bounds-book-at-in-13 : goal.bounds-book-at-in-13
unfolding node_length shape_in shapes_of kinds
bounds-book-at-in-13 c = kind_inside c.args.book.now c.args.at c.requires 13 2 c.in-13.is tt

pub bounds-book-at-in-14 : goal.bounds-book-at-in-14
unfolding node_length shape_in shapes_of kinds
bounds-book-at-in-14 c = kind_inside c.args.book.now c.args.at c.requires 14 2 c.in-14.is tt

pub bounds-book-at-in-15 : goal.bounds-book-at-in-15
unfolding node_length shape_in shapes_of kinds
bounds-book-at-in-15 c = kind_inside c.args.book.now c.args.at c.requires 15 2 c.in-15.is tt

pub bounds-book-at-in-16 : goal.bounds-book-at-in-16
unfolding node_length shape_in shapes_of kinds
bounds-book-at-in-16 c = kind_inside c.args.book.now c.args.at c.requires 16 2 c.in-16.is tt

pub bounds-book-at-in-17 : goal.bounds-book-at-in-17
unfolding node_length shape_in shapes_of kinds
bounds-book-at-in-17 c = kind_inside c.args.book.now c.args.at c.requires 17 2 c.in-17.is tt

pub bounds-book-at-in-17-2 : goal.bounds-book-at-in-17-2
unfolding node_length shape_in shapes_of kinds
bounds-book-at-in-17-2 c = kind_inside c.args.book.now c.args.at c.requires 17 3 c.in-17.is tt

pub bounds-book-at-in_default : goal.bounds-book-at-in_default
bounds-book-at-in_default c = default_inside c.args.book.now c.args.at c.requires c.in_default.in_default-own.rest (let h = c.type_inv.book c.args.at in omega arith) 2 (omega arith)

pub bounds-book-at-in_default-2 : goal.bounds-book-at-in_default-2
bounds-book-at-in_default-2 c = default_inside c.args.book.now c.args.at c.requires c.in_default.in_default-own.rest (let h = c.type_inv.book c.args.at in omega arith) 3 (omega arith)

pub bounds-book-at-in_default-3 : goal.bounds-book-at-in_default-3
bounds-book-at-in_default-3 c = default_inside c.args.book.now c.args.at c.requires c.in_default.in_default-own.rest (let h = c.type_inv.book c.args.at in omega arith) 4 (omega arith)

pub bounds-book-at-in_default-4 : goal.bounds-book-at-in_default-4
bounds-book-at-in_default-4 c = default_inside c.args.book.now c.args.at c.requires c.in_default.in_default-own.rest (let h = c.type_inv.book c.args.at in omega arith) 5 (omega arith)

pub returns-in-5 : goal.returns-in-5
unfolding node_from node_of
returns-in-5 c = let f : SFits w32 c.number_at.result = record { sfits = c.number_at.type_inv } in rw (c.in-5.is, to_z-of_z f, c.number_at.ensures, number_after c.args.book.now c.args.at)
