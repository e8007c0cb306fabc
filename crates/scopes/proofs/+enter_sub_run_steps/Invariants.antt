-- `scopes::enter_sub` and `scopes::run_steps` meet their contracts. The invariant: the cells hold what the steps so far have set, and the rest of the
use Rattle.scopes.proofs.Entering.{rank, Between}
use Prim.Native.Nat.{suc, ◌*◌}
use Rattle.scopes.proofs.+enter_sub_run_steps.Given as goal

abbrev pub decreases-enter_sub : goal.decreases-enter_sub
decreases-enter_sub l = suc (rank l.book.now.bytes.now l.i * 2)

abbrev pub decreases-run_steps : goal.decreases-run_steps
decreases-run_steps l = rank l.book.now.bytes.now l.i * 2

abbrev pub invariant-run_steps-loop-n : goal.invariant-run_steps-loop-n
invariant-run_steps-loop-n l =
    Between l.book.bytes.now l.i l.given l.initial.called l.initial.memo l.own l.called l.memo l.handed l.count l.n
