-- `sharing::mark` meets its contract.
use native.Mathlib.Omega.{arith}
use Rattle.sharing.proofs.Marks.{marked_past, marked_new, marked_again}
use Rattle.sharing.proofs.mark.Goals as goal

pub returns-then-marks-at : goal.returns-then-marks-at
returns-then-marks-at c = marked_past _ _ _ (omega (arith, c.ranges.w)) (omega arith)

pub returns-then-before-eq0 : goal.returns-then-before-eq0
returns-then-before-eq0 c = marked_new _ _ _ (omega (arith, c.ranges.w)) c.if-before-eq0.true

pub returns-else-before-eq0 : goal.returns-else-before-eq0
returns-else-before-eq0 c = marked_again _ _ _ (omega (arith, c.ranges.w)) c.if-before-eq0.false
