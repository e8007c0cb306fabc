-- `rows::table_length` meets its contract. The invariant: the length of the table of the first j.
use native.Mathlib.Omega.{arith}
use Rattle.rows.proofs.Power.{start, few, turn, stop}
use Rattle.rows.proofs.table_length.Goals as goal

pub loop-j-init : goal.loop-j-init
loop-j-init c = start

pub overflow_mul-length : goal.overflow_mul-length
overflow_mul-length c = omega (arith, few c.loop-j.invariant c.requires.0 c.requires.1)

pub loop-j-preserved : goal.loop-j-preserved
loop-j-preserved c = turn c.loop-j.invariant c.loop-j-test.true

pub returns : goal.returns
returns c = stop c.loop-j.invariant c.loop-j-test.false
