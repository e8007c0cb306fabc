-- `blocks::run_within` meets its contract.
use mathlib.Core.Path.{◌∙◌}
use mathlib.Core.Bool.{false≢true}
use Rattle.blocks.proofs.Large.{came_unless_short}
use Rattle.blocks.proofs.run_within.Goals as goal

pub returns : goal.returns
returns c = came_unless_short _ (λ e. false≢true (c.if-eq.ensures ∙ rw e)) c.run_given-ran.ensures
