-- `terms::negate` meets its contract.
use mathlib.Core.Path.{◌≡◌}
use lib.IntN.{+ℤ_idl}
use mir.Syntax.{w64}
use mir.Val.{to_z, of_z}
use mir.Facts.{to_z-of_z}
use Rattle.calculus.proofs.Numbers.{zero_fits, kept, difference_fits}
use Rattle.calculus.specs.declared.Unary.TheVariants.{Negate}
use Rattle.cells.specs.Codec.{payload}
use Rattle.terms.proofs.Operators.{end_passes, payload_fits, negate_cell}
use Rattle.terms.proofs.negate.Goals as goal
use Rattle.terms.proofs.negate.Goals.{After-signed}

is : (c : After-signed) → to_z w64 (of_z w64 c.signed.result) ≡ payload c.args.x
is c = kept c.signed.ensures (payload_fits c.args.x)

pub returns-then-x-ge-EMPTY : goal.returns-then-x-ge-EMPTY
returns-then-x-ge-EMPTY c = end_passes Negate _ c.if-x-ge-EMPTY.true

pub overflow_sub-signed : goal.overflow_sub-signed
overflow_sub-signed c = rw (is (goal.at.overflow_sub-signed c).After-signed) (difference_fits zero_fits (payload_fits c.args.x))

pub returns : goal.returns
returns c = let x = c.args.x in negate_cell x _ c.if-x-ge-EMPTY.false (rw (is (goal.at.returns c).After-signed, to_z-of_z (difference_fits zero_fits (payload_fits x)), +ℤ_idl) at c.ranged.ensures)
