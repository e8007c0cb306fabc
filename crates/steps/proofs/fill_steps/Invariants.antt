-- `steps::fill_steps` meets its contract. The loop's invariant is `Filling`.
use Rattle.book.specs.Decode.{scopes_of}
use Rattle.steps.proofs.Rows.{Filling}
use Rattle.steps.proofs.fill_steps.Given as goal

abbrev pub invariant-loop-i : goal.invariant-loop-i
invariant-loop-i l = Filling (scopes_of l.book.bytes.now) l.initial.orders l.orders l.i
