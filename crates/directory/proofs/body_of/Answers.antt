use Rattle.directory.specs.Layout.{begin_in, end_in, body_in}
use Rattle.directory.proofs.body_of.Goals as goal

pub overflow_sub-end : goal.overflow_sub-end
unfolding begin_in end_in
overflow_sub-end c = rw (← c.entry_at-begin.ensures, ← c.entry_at-end.ensures) at c.requires.1

pub returns : goal.returns
unfolding body_in begin_in end_in
returns c = rw (← c.entry_at-begin.ensures, ← c.entry_at-end.ensures) c.part_of.ensures
