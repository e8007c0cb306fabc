-- `trees::eval_chain` meets its contract. The loop's invariant is `Walks`. The measure: the cells of exceptions rise along the calls.
use lib.ListN.{length}
use Rattle.book.specs.Decode.{scopes_of}
use Rattle.book.specs.References.{scope_at}
use Rattle.trees.proofs.Walks.{Walks}
use Prim.Native.Nat.{◌-◌}
use Rattle.trees.proofs.+eval_chain.Given as goal

abbrev pub decreases-eval_chain : goal.decreases-eval_chain
decreases-eval_chain l = 834 - l.cell

abbrev pub invariant-loop-c : goal.invariant-loop-c
invariant-loop-c l = Walks l.book l.own l.called l.i l.cell l.g l.c

abbrev pub decreases-loop-c : goal.decreases-loop-c
decreases-loop-c l = length (scope_at (scopes_of l.book) l.i).clauses - l.c
