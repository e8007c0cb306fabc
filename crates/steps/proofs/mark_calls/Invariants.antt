-- `steps::mark_calls` meets its contract. The loop's invariant: with the calls of the sub-scopes from the k-th on, all of the scope's calls are marked.
use Rattle.book.specs.Decode.{scopes_of}
use Rattle.steps.specs.Edges.{call_edges}
use Rattle.steps.proofs.Marking.{Marking}
use Rattle.steps.proofs.Calls.{calls_left}
use Rattle.steps.proofs.mark_calls.Given as goal

abbrev pub invariant-loop-k : goal.invariant-loop-k
invariant-loop-k l = Marking l.initial.deps l.deps (calls_left (scopes_of l.book.bytes.now) l.i l.k) (call_edges (scopes_of l.book.bytes.now) l.i)
