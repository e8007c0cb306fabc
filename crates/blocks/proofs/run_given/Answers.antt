-- `blocks::run_given` meets its contract.
use mathlib.Core.Path.{◌∙◌}
use Rattle.blocks.proofs.Known.{entry_sized, nothing_known, came_from}
use Rattle.blocks.proofs.Large.{copied_own}
use Rattle.blocks.proofs.Entering.{fresh_all}
use Rattle.blocks.proofs.run_given.Goals as goal

pub run_frame-requires : goal.run_frame-requires
run_frame-requires c = (entry_sized c.requires.0 (c.copy_cells.ensures.size ∙ c.requires.0.room), nothing_known _, fresh_all c.requires.0)

pub returns : goal.returns
returns c = came_from (copied_own c.requires.1 c.requires.0.room c.copy_cells.ensures) c.run_frame.ensures.0
