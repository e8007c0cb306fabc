-- `weights::fill_weights` meets its contract. The loop's invariant is `Weighing`.
use mathlib.Core.Path.{refl}
use native.Mathlib.Omega.{arith}
use Rattle.weights.proofs.Weighing.{first, in_book, all_weighed, heavy, weighed}
use Rattle.weights.proofs.fill_weights.Goals as goal

pub loop-block-init : goal.loop-block-init
loop-block-init c = first _ _

pub returns-then-w-gt-WEIGHT_LIMIT : goal.returns-then-w-gt-WEIGHT_LIMIT
returns-then-w-gt-WEIGHT_LIMIT c =
    heavy _ _ c.args.weights.now _ c.requires.counted c.requires.order _ _ c.loop-block.invariant c.loop-block-test.true _ refl _ c.weigh-w.ensures c.if-w-gt-WEIGHT_LIMIT.true

pub bounds-weights-i : goal.bounds-weights-i
bounds-weights-i c =
    let few = c.args.book.now.laid.within.scopes in
    omega
    (arith, in_book _ _ c.args.weights.now _ c.requires.counted c.requires.order _ _ c.loop-block.invariant c.loop-block-test.true _ refl)

pub loop-block-preserved : goal.loop-block-preserved
loop-block-preserved c =
    weighed _ _ _ _ c.requires.counted c.requires.order _ _ c.loop-block.invariant c.loop-block-test.true _ refl _ c.weigh-w.ensures
    c.if-w-gt-WEIGHT_LIMIT.false c.args.book.now.laid.within.scopes c.requires.room

pub returns : goal.returns
returns c = all_weighed _ _ c.args.weights.now _ c.requires.counted c.requires.order _ _ c.loop-block.invariant c.loop-block-test.false
