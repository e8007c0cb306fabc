-- `tabulator::tabulate_loaded` meets its contract.
use mathlib.Core.Path.{refl, sym}
use Rattle.acceptance.proofs.Limits.{accepted_within}
use Rattle.tabulator.proofs.Service.{refused_scope, refused_input, refused_choice, ordered_so, tabulated}
use Rattle.tabulator.proofs.tabulate_loaded.Goals as goal

pub returns-then-book-i : goal.returns-then-book-i
returns-then-book-i c = refused_scope c.args.book.now.bytes.now c.args.i c.args.chosen.now c.args.inputs.now c.args.book.now.scopes (sym c.requires.answer) c.if-book-i.true

pub returns-then-not-read_inputs : goal.returns-then-not-read_inputs
returns-then-not-read_inputs c = refused_input c.args.book.now.bytes.now c.args.i c.args.chosen.now c.args.inputs.now c.args.book.now.scopes (sym c.requires.answer) c.if-book-i.false (c.read_inputs.ensures.refused c.if-not-read_inputs.true)

pub returns-then-not-choose : goal.returns-then-not-choose
returns-then-not-choose c = refused_choice c.args.book.now.bytes.now c.args.i c.args.chosen.now c.args.inputs.now c.args.book.now.scopes (sym c.requires.answer) c.if-book-i.false (c.read_inputs.ensures.taken c.if-not-read_inputs.false) (c.choose.ensures.refused c.if-not-choose.true)

pub write_table-requires : goal.write_table-requires
write_table-requires c = ordered_so c.args.book.now.bytes.now c.args.i c.args.chosen.now c.args.inputs.now c.args.book.now.scopes (sym c.requires.answer) c.if-book-i.false (c.read_inputs.ensures.taken c.if-not-read_inputs.false) (c.choose.ensures.taken c.if-not-choose.false) c.read_inputs.ensures.size (accepted_within _ _ (sym c.requires.answer) c.args.i).variables (c.requires.world _ refl) (c.choose.ensures.written c.if-not-choose.false)

pub returns : goal.returns
returns c = tabulated c.args.book.now.bytes.now c.args.i c.args.chosen.now c.args.inputs.now c.args.book.now.scopes (sym c.requires.answer) c.if-book-i.false (c.read_inputs.ensures.taken c.if-not-read_inputs.false) (c.choose.ensures.taken c.if-not-choose.false) c.read_inputs.ensures.size (accepted_within _ _ (sym c.requires.answer) c.args.i).variables c.write_table.ensures
