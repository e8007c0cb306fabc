-- `checks::find_faults` meets its contract. The invariant: nothing dangles in the scopes below i, and whether one of them shares, or has a
-- type that does not fit, is known.
use mathlib.Core.Bool.{false}
use Rattle.book.specs.Decode.{scopes_of}
use Rattle.book.specs.References.{dangles_in}
use Rattle.book.specs.Typing.{mismatch_in}
use Rattle.book.proofs.Scopes.{Passed}
use Rattle.checks.specs.Findings.{shares_in}
use Rattle.checks.proofs.Gathered.{Gathered}
use Rattle.checks.proofs.find_faults.Given as goal

abbrev pub invariant-loop-i : goal.invariant-loop-i
invariant-loop-i l =
    Passed (scopes_of l.book.bytes.now) (dangles_in (scopes_of l.book.bytes.now)) l.i
    × Gathered shares_in (scopes_of l.book.bytes.now) false l.i l.shares
    × Gathered (mismatch_in (scopes_of l.book.bytes.now)) (scopes_of l.book.bytes.now) false l.i l.mismatches
