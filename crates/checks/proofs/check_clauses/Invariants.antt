-- `checks::check_clauses` meets its contract. The invariant of its loop is `Clauses`.
use Rattle.book.specs.Decode.{scopes_of}
use Rattle.checks.proofs.Passes.{Clauses}
use Rattle.checks.proofs.check_clauses.Given as goal

abbrev pub invariant-loop-n : goal.invariant-loop-n
invariant-loop-n l =
    Clauses (scopes_of l.book.bytes.now) l.i l.initial.marks l.initial.shares l.initial.mismatches l.marks l.shares l.mismatches l.n
