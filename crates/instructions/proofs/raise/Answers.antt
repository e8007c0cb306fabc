-- `instructions::raise` meets its contract.
use Rattle.instructions.proofs.Tries.{pass, pass_end, pass_stuck, pass_lands}
use native.Mathlib.Omega.{arith}
use mathlib.Core.Path.{refl}
use Rattle.instructions.proofs.raise.Goals as goal

pub loop-i-init : goal.loop-i-init
loop-i-init c = record { below = omega arith; rest = λ es m. refl }

pub returns-then-keep-h : goal.returns-then-keep-h
returns-then-keep-h c = λ m. pass_lands c.loop-i.invariant _ _ m c.loop-i-test.true c.if-land-left.true c.if-keep-h.true c.requires

pub returns-then-land-left : goal.returns-then-land-left
returns-then-land-left c = λ m. pass_stuck c.loop-i.invariant _ _ m c.loop-i-test.true c.if-land-left.true c.if-keep-h.false

pub loop-i-preserved : goal.loop-i-preserved
loop-i-preserved c = pass c.loop-i.invariant c.loop-i-test.true c.if-land-left.false

pub returns : goal.returns
returns c = λ m. pass_end c.loop-i.invariant _ _ m c.loop-i-test.false
