-- `steps::mark_nodes` meets its contract. The loop's invariant is `Descent`.
use Rattle.book.specs.Decode.{scopes_of}
use Rattle.steps.proofs.Descent.{Descent}
use Rattle.steps.proofs.mark_nodes.Given as goal

abbrev pub invariant-loop-n : goal.invariant-loop-n
invariant-loop-n l = Descent (scopes_of l.book.bytes.now) l.i l.initial.deps l.deps l.owners l.n
