-- `verifier::judge_code` meets its contract.
use borrow.Author.Rules.{rules}
use mathlib.Core.Path.{refl}
use native.Mathlib.Omega.{arith}
use Rattle.verifier.proofs.Opens.{empty_start, end_leaves, end_judged, all_zero}
use Rattle.verifier.proofs.judge_code.Goals as goal

pub loop-at-init : goal.loop-at-init
loop-at-init c = (empty_start _ _ _ _ c.requires (all_zero c.default-u.ensures), refl, refl)

pub step_at-requires : goal.step_at-requires
step_at-requires c = (c.loop-at-test.true, c.loop-at.invariant.0)

pub loop-at-smaller : goal.loop-at-smaller
loop-at-smaller c = let h = c.in_ok-at.ensures in let l = h.0 in let i = h.1.inside in omega arith

pub loop-at-preserved : goal.loop-at-preserved
loop-at-preserved c = (c.in_ok-at.ensures.1, search rules, search rules)

pub leave-requires : goal.leave-requires
leave-requires c = end_leaves _ _ _ _ _ c.loop-at.invariant.0 c.loop-at-test.false

pub returns : goal.returns
returns c = end_judged _ _ _ _ _ c.loop-at.invariant.0 c.loop-at-test.false _ _ _ c.leave.ensures
