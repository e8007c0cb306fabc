-- `steps::mark_calls` meets its contract. The loop's invariant: with the calls of the sub-scopes from the k-th on, all of the scope's calls are marked.
use Rattle.steps.proofs.Calls.{calls_start, calls_turn, calls_done}
use Rattle.steps.proofs.mark_calls.Goals as goal

pub loop-k-init : goal.loop-k-init
loop-k-init c = calls_start _ _ _

pub loop-k-preserved : goal.loop-k-preserved
loop-k-preserved c =
    calls_turn _ _ _ _ _ c.loop-k.invariant _ _ c.sub_scope_at-called.ensures (rw (← c.sub_scope_count-k-end.ensures) c.loop-k-test.true) c.mark.ensures

pub returns : goal.returns
returns c = calls_done _ _ _ _ _ c.loop-k.invariant (rw (← c.sub_scope_count-k-end.ensures) c.loop-k-test.false)
