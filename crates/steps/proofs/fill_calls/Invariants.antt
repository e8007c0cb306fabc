-- `steps::fill_calls` meets its contract. The loop's invariant: with the calls of the scopes from i on, all calls are marked.
use Rattle.book.specs.Decode.{scopes_of}
use Rattle.book.specs.Scopes.{calls}
use Rattle.steps.proofs.Marking.{Marking}
use Rattle.steps.proofs.Calls.{rows_left}
use Rattle.steps.proofs.fill_calls.Given as goal

abbrev pub invariant-loop-i : goal.invariant-loop-i
invariant-loop-i l = Marking l.initial.deps l.deps (rows_left (scopes_of l.book.bytes.now) l.i) (calls (scopes_of l.book.bytes.now))
