-- `verifier::judge_code` meets its contract.
use Prim.Native.Nat.{◌-◌}
use mathlib.Core.Path.{◌≡◌}
use lib.ListN.{length}
use Rattle.verifier.specs.Pass.{Reading}
use Rattle.verifier.proofs.judge_code.Given as goal

abbrev pub invariant-loop-at : goal.invariant-loop-at
invariant-loop-at l = Reading l.code l.at l.u l.directory l.ring × (length l.directory ≡ length l.initial.directory) × (length l.ring ≡ length l.initial.ring)

abbrev pub decreases-loop-at : goal.decreases-loop-at
decreases-loop-at l = length l.code - l.at
