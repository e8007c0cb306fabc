-- `verifier::one_name` meets its contract.
use Rattle.verifier.proofs.Landings.{stops, lands_at, nameless}
use borrow.Author.Tests.{lt-ltb, le-ltb}
use mathlib.Core.Path.{refl}
use native.Mathlib.Omega.{arith}
use Rattle.verifier.proofs.one_name.Goals as goal

pub returns-then-not-body_passes : goal.returns-then-not-body_passes
returns-then-not-body_passes c = stops _ _ _ _ _ c.body_passes.ensures _ _ c.if-not-body_passes.true

pub bounds-code-at : goal.bounds-code-at
bounds-code-at c = let w = c.body_passes.ensures.whole c.if-not-body_passes.false in omega arith

pub returns-then-from-count : goal.returns-then-from-count
returns-then-from-count c = let w = c.body_passes.ensures.whole c.if-not-body_passes.false in lands_at _ _ _ _ _ c.body_passes.ensures _ 0 c.if-not-body_passes.false (lt-ltb _ _ (rw c.from.ensures at c.if-from-count.true)) _ refl (omega arith) (omega arith)

pub returns : goal.returns
returns c = nameless _ _ _ _ _ _ (le-ltb _ _ (rw c.from.ensures at c.if-from-count.false))
