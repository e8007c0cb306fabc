-- `terms::not` meets its contract.
use mathlib.Core.Path.{refl}
use borrow.Author.Tests.{eq-eqb, ne_eqb}
use Rattle.terms.proofs.Operators.{end_passes, not_cell}
use Rattle.calculus.specs.declared.Unary.TheVariants.{Not}
use Rattle.terms.proofs.not.Goals as goal

pub returns-then-x-ge-EMPTY : goal.returns-then-x-ge-EMPTY
returns-then-x-ge-EMPTY c = end_passes Not _ c.if-x-ge-EMPTY.true

pub returns-then-x-eq-YES : goal.returns-then-x-eq-YES
returns-then-x-eq-YES c = not_cell _ _ _ c.if-x-ge-EMPTY.false (eq-eqb _ _ c.if-x-eq-YES.true) refl

pub returns-else-x-eq-YES : goal.returns-else-x-eq-YES
returns-else-x-eq-YES c = not_cell _ _ _ c.if-x-ge-EMPTY.false (ne_eqb _ _ c.if-x-eq-YES.false) refl
