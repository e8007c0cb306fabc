-- `blocks::follow` meets its contract.
use mathlib.Core.Path.{refl}
use Rattle.blocks.proofs.Entering.{followed_on}
use Rattle.blocks.proofs.follow.Goals as goal

pub returns-in-Ok : goal.returns-in-Ok
returns-in-Ok c = followed_on _ c.in-Ok.is refl refl refl c.advance.ensures
