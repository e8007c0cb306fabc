-- `mixing::has_mixed` meets its contract. The invariant of its loop is `Passed`, and its laws give the rest.
use Rattle.book.specs.Mixing.{mixes}
use Rattle.mixing.specs.Marks.{mixed_at}
use Rattle.book.proofs.Scopes.{stopped, next, finished}
use Rattle.mixing.proofs.has_mixed.Goals as goal

pub returns-then-mixed_at : goal.returns-then-mixed_at
unfolding mixes mixed_at
returns-then-mixed_at c =
    stopped _ _ c.requires.counted c.loop-i.invariant _ c.loop-i-test.true c.mixed_at.ensures c.if-mixed_at.true

pub loop-i-preserved : goal.loop-i-preserved
unfolding mixed_at
loop-i-preserved c = next _ _ c.requires.counted c.loop-i.invariant _ c.loop-i-test.true c.mixed_at.ensures c.if-mixed_at.false

pub returns : goal.returns
unfolding mixes
returns c = finished _ _ c.requires.counted c.loop-i.invariant c.loop-i-test.false
