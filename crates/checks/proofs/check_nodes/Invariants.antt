-- `checks::check_nodes` meets its contract. The invariant of its loop is `Nodes`.
use Rattle.book.specs.Decode.{scopes_of}
use Rattle.checks.proofs.Passes.{Nodes}
use Rattle.checks.proofs.check_nodes.Given as goal

abbrev pub invariant-loop-n : goal.invariant-loop-n
invariant-loop-n l =
    Nodes (scopes_of l.book.bytes.now) l.i l.initial.marks l.marks l.types l.shares l.mismatches l.n
