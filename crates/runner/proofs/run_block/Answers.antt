-- `runner::run_block` meets its contract.
use Rattle.runner.proofs.Service.{entry, types_short, has_room, values_so, ends_so, stuck_so, never_short}
use mathlib.Core.Path.{ap, ◌∙◌}
use Rattle.std.specs.Prelude.{Err}
use borrow.Author.Rules.{rules}
use Rattle.runner.proofs.run_block.Goals as goal

pub run_cells-requires : goal.run_cells-requires
run_cells-requires c = (entry c.requires (search rules), c.requires.size)

pub write_by-requires : goal.write_by-requires
write_by-requires c = record { n_bound = types_short c.requires; n_in_bounds = has_room c.requires c.run_cells.ensures c.in-Ok.is }

pub length_by-requires : goal.length_by-requires
length_by-requires c = types_short c.requires

pub returns-in-Ok : goal.returns-in-Ok
returns-in-Ok c = values_so c.requires c.run_cells.ensures c.in-Ok.is c.length_by.ensures c.write_by.ensures

pub returns-in-Err-Ended : goal.returns-in-Err-Ended
returns-in-Err-Ended c = rw (c.in-Err-Ended.c-is, c.in-Err-Ended.count-is) (ends_so c.requires c.run_cells.ensures (c.in-Err-Ended.is ∙ ap Err c.in-Err-Ended.field-0-is))

pub returns-in-Err-Stuck : goal.returns-in-Err-Stuck
returns-in-Err-Stuck c = stuck_so c.requires c.run_cells.ensures (c.in-Err-Stuck.is ∙ ap Err c.in-Err-Stuck.field-0-is)

pub returns-in-Err-NoRoom : goal.returns-in-Err-NoRoom
returns-in-Err-NoRoom c = absurd (never_short c.requires c.run_cells.ensures (c.in-Err-NoRoom.is ∙ ap Err c.in-Err-NoRoom.field-0-is))
