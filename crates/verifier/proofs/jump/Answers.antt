-- `verifier::jump` meets its contract.
use Rattle.verifier.proofs.Landings.{stops, lands_at, nameless, far}
use Rattle.verifier.specs.Instructions.{distance_at}
use native.Mathlib.Omega.{arith}
use Rattle.verifier.proofs.jump.Goals as goal

pub returns-then-not-there : goal.returns-then-not-there
returns-then-not-there c = nameless _ _ _ _ _ _ c.if-not-there.true

pub returns-then-not-body_passes : goal.returns-then-not-body_passes
returns-then-not-body_passes c = stops _ _ _ _ _ c.body_passes.ensures _ _ c.if-not-body_passes.true

pub bounds-code-end : goal.bounds-code-end
bounds-code-end c = let w = c.body_passes.ensures.whole c.if-not-body_passes.false in omega arith

pub bounds-code-end-2 : goal.bounds-code-end-2
bounds-code-end-2 c = let w = c.body_passes.ensures.whole c.if-not-body_passes.false in omega arith

pub overflow_sub-code : goal.overflow_sub-code
overflow_sub-code c = let w = c.body_passes.ensures.whole c.if-not-body_passes.false in omega arith

pub overflow_sub-code-2 : goal.overflow_sub-code-2
overflow_sub-code-2 c = let w = c.body_passes.ensures.whole c.if-not-body_passes.false in omega arith

pub returns-then-code-end : goal.returns-then-code-end
unfolding distance_at
returns-then-code-end c = far _ _ _ _ _ _ (let w = c.body_passes.ensures.whole c.if-not-body_passes.false in let j = c.joined-d.ensures.0 in let h = c.if-code-end.true in omega arith)

pub returns : goal.returns
unfolding distance_at
returns c = let w = c.body_passes.ensures.whole c.if-not-body_passes.false in let j = c.joined-d.ensures.0 in let t = c.joined-d.ensures.1 in let h = c.if-code-end.false in lands_at _ _ _ _ _ c.body_passes.ensures _ _ c.if-not-body_passes.false c.if-not-there.false _ j (omega arith) (omega arith)
