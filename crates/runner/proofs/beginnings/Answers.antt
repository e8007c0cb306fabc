-- `runner::beginnings` meets its contract.
use mathlib.Core.Path.{sym, ◌∙◌}
use Rattle.runner.proofs.beginnings.Goals.{then-may_begin, else-may_begin}
use native.Mathlib.Omega.{arith}
use Rattle.runner.proofs.Rows.{count_one, count_none, count_end}
use Rattle.runner.proofs.beginnings.Goals as goal

pub loop-at-init : goal.loop-at-init
loop-at-init c = (omega arith, omega arith)

pub may_begin-requires : goal.may_begin-requires
may_begin-requires c = omega (arith, c.loop-at-test.true)

pub loop-at-preserved : goal.loop-at-preserved
loop-at-preserved c = elim c.if-may_begin.branch [
  | then-may_begin w ↦ (rw w.count-is (count_one _ _ _ c.loop-at.invariant.0 c.loop-at-test.true (sym c.may_begin.ensures ∙ w.if-may_begin.true)), omega arith)
  | else-may_begin w ↦ (rw w.count-is (count_none _ _ _ c.loop-at.invariant.0 c.loop-at-test.true (sym c.may_begin.ensures ∙ w.if-may_begin.false)), omega arith)
]

pub returns : goal.returns
returns c = count_end _ _ _ c.loop-at.invariant.0 c.loop-at-test.false
