-- `steps::fill_steps` meets its contract. The loop's invariant is `Filling`.
use Rattle.steps.proofs.Rows.{begin, stopped, filled, fill}
use Rattle.steps.proofs.fill_steps.Goals as goal

pub loop-i-init : goal.loop-i-init
loop-i-init c = begin _ _

pub returns-then-taken-steps : goal.returns-then-taken-steps
returns-then-taken-steps c =
    stopped _ _ _ _ c.loop-i.invariant (rw (← c.requires.counted) c.loop-i-test.true) _ _ c.step_order-taken.ensures.count
    c.step_count-steps.ensures c.if-taken-steps.true _

pub loop-i-preserved : goal.loop-i-preserved
loop-i-preserved c =
    fill _ _ _ _ c.loop-i.invariant c.args.book.now.laid.within c.args.book.now.laid.within.scopes c.requires.room
    (rw (← c.requires.counted) c.loop-i-test.true) _ _ _ c.step_order-taken.ensures c.step_order-taken.auto.out
    c.step_count-steps.ensures c.if-taken-steps.false

pub returns : goal.returns
returns c = filled _ _ _ _ c.loop-i.invariant (rw (← c.requires.counted) c.loop-i-test.false)
