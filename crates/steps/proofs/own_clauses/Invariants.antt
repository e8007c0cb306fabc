-- `steps::own_clauses` meets its contract. The loop's invariant is `Rooting`.
use Rattle.book.specs.Decode.{scopes_of}
use Rattle.steps.proofs.Roots.{Rooting}
use Rattle.steps.proofs.own_clauses.Given as goal

abbrev pub invariant-loop-c : goal.invariant-loop-c
invariant-loop-c l = Rooting (scopes_of l.book.bytes.now) l.i l.owners l.c
