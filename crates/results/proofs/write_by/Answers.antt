-- `results::write_by` meets its contract. The invariant: the records below v are written, and what is left makes the whole.
use Rattle.lists.proofs.Writing.{start, stop, room, turn}
use Rattle.results.proofs.write_by.Goals as goal

pub loop-v-init : goal.loop-v-init
loop-v-init c = start _ _ _ c.requires.n_in_bounds

pub put_result-at-requires : goal.put_result-at-requires
put_result-at-requires c = rw (c.value_of.ensures, c.given_at.ensures) (room c.loop-v.invariant c.loop-v-test.true)

pub loop-v-preserved : goal.loop-v-preserved
loop-v-preserved c = turn c.loop-v.invariant c.loop-v-test.true (rw (← c.given_at.ensures, ← c.value_of.ensures) c.put_result-at.ensures)

pub returns : goal.returns
returns c = stop c.loop-v.invariant c.loop-v-test.false
