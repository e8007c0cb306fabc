-- `verifier::body_passes` meets its contract.
use Rattle.verifier.proofs.Landings.{body_short, body_looked}
use native.Mathlib.Omega.{arith}
use Rattle.verifier.proofs.body_passes.Goals as goal

pub returns-then-code-at : goal.returns-then-code-at
returns-then-code-at c = body_short _ _ _ _ c.if-code-at.true

pub unmarked-requires : goal.unmarked-requires
unmarked-requires c = let l = c.if-code-at.false in let s = c.requires.short in (λ d h. c.requires.ring_room d (omega arith), omega arith, omega arith)

pub returns : goal.returns
returns c = body_looked _ _ _ _ c.if-code-at.false _ c.unmarked.ensures
