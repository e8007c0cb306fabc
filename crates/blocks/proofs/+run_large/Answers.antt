-- `blocks::run_large` meets its contract. The measure is how often it calls itself.
use mathlib.Core.Path.{refl}
use native.Mathlib.Omega.{arith}
use Rattle.blocks.proofs.Entering.{world}
use Rattle.blocks.proofs.Large.{large, enough, came_to}
use Rattle.blocks.proofs.Tables.{small}
use borrow.Author.Rules.{rules}
use Rattle.blocks.proofs.+run_large.Goals as goal

pub run_large-requires : goal.run_large-requires
run_large-requires t c = (omega (arith, c.decreases), search rules)

pub returns : goal.returns
returns t c =
    let entry = c.requires.0 in
    let came = c.run_given in
    came_to _ refl came.ensures (enough came.result (large _ (small (world entry) _ entry.block)))
