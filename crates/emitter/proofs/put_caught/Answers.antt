-- `emitter::put_caught` meets its contract.
use mathlib.Core.Path.{refl}
use Rattle.emitter.specs.Emission.{jump}
use Rattle.emitter.specs.Pieces.{caught}
use Rattle.emitter.proofs.Emission.{then, alike}
use Rattle.emitter.proofs.put_caught.Goals as goal

pub returns : goal.returns
unfolding jump caught
returns c =
    alike (then (then c.put_two-p.ensures c.put_far-q.ensures) c.put_one.ensures) (λ k. refl) refl
