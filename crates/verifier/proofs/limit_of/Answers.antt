-- `verifier::limit_of` meets its contract.
use lib.Dec.{eqb}
use mathlib.Core.Bool.{false}
use mathlib.Core.Path.{◌≡◌}
use native.Mathlib.Omega.{arith}
use borrow.Author.Tests.{ne_eqb}
use Rattle.verifier.specs.Instructions.{limit_by}
use Rattle.verifier.proofs.limit_of.Goals as goal

pub returns-in-4 : goal.returns-in-4
unfolding limit_by
returns-in-4 c = rw c.in-4.is

pub returns-in-43 : goal.returns-in-43
unfolding limit_by
returns-in-43 c = rw c.in-43.is

pub returns-in_default : goal.returns-in_default
unfolding limit_by
returns-in_default c = let four : eqb c.args.kind 4 ≡ false = ne_eqb _ _ (omega arith) in let enter : eqb c.args.kind 43 ≡ false = ne_eqb _ _ (omega arith) in rw (four, enter)
