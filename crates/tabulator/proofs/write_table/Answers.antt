-- `tabulator::write_table` meets its contract.
use mathlib.Core.Path.{sym, ◌∙◌}
use native.Mathlib.Omega.{arith}
use lib.Seq.{length-take-le}
use Rattle.loaded.proofs.Preparing.{few_scopes, blank_memo}
use Rattle.tabulator.proofs.Service.{few_chosen, results_few, sized, fills, short_so, written_so}
use Rattle.tabulator.proofs.write_table.Goals as goal

pub table_length-length-requires : goal.table_length-length-requires
table_length-length-requires c = (omega (arith, few_chosen c.requires), rw c.result_length.ensures (results_few _ _ (c.requires.enterable.world.sound.variables c.args.i)))

pub returns-then-table-length : goal.returns-then-table-length
returns-then-table-length c = short_so c.requires (sized _ c.table_length-length.ensures c.result_length.ensures) c.if-table-length.true

pub slice_bounds-fill_rows-end-3 : goal.slice_bounds-fill_rows-end-3
slice_bounds-fill_rows-end-3 c = sym (length-take-le _ _ c.if-table-length.false)

pub fill_rows-requires : goal.fill_rows-requires
fill_rows-requires c = fills c.requires (blank_memo c.requires.enterable.world.accepted c.requires.enterable.world.sound.laid 1056 (omega (arith, few_scopes c.requires.enterable.world.accepted c.requires.enterable.world.sound.laid))) c.part_of-order.ensures (length-take-le _ _ c.if-table-length.false ∙ sized _ c.table_length-length.ensures c.result_length.ensures)

pub returns : goal.returns
returns c = written_so c.requires c.part_of-order.ensures c.fill_rows.ensures.table_after (sized _ c.table_length-length.ensures c.result_length.ensures) c.if-table-length.false
