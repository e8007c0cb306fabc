-- `steps::fill_calls` meets its contract. The loop's invariant: with the calls of the scopes from i on, all calls are marked.
use Rattle.steps.proofs.Calls.{rows_start, rows_turn, rows_done}
use Rattle.steps.proofs.fill_calls.Goals as goal

pub loop-i-init : goal.loop-i-init
loop-i-init c = rows_start _ _

pub loop-i-preserved : goal.loop-i-preserved
loop-i-preserved c = rows_turn _ _ _ _ c.loop-i.invariant _ c.mark_calls.ensures

pub returns : goal.returns
returns c = rows_done _ _ _ _ c.loop-i.invariant (rw (← c.requires.counted) c.loop-i-test.false)
