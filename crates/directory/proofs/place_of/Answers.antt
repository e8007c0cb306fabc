use borrow.Author.Tests.{lt-ltb, le-ltb}
use native.Mathlib.Omega.{arith}
use Rattle.directory.specs.Layout.{place_in}
use Rattle.directory.proofs.place_of.Goals as goal

pub returns-then-scope-lt-PLACES : goal.returns-then-scope-lt-PLACES
unfolding place_in
returns-then-scope-lt-PLACES c = rw (lt-ltb _ 32 c.if-scope-lt-PLACES.true, ← c.entry_at.ensures) c.checked_sub.ensures

pub returns : goal.returns
unfolding place_in
returns c = rw (le-ltb _ 32 c.if-scope-lt-PLACES.false) (λ l. omega arith)
