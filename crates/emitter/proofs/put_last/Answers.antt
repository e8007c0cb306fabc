-- `emitter::put_last` meets its contract.
use native.Mathlib.Omega.{arith}
use Rattle.emitter.proofs.Terms.{resort_size, emits_resort, emits_rest, emits_branches}
use mathlib.Core.Path.{refl, ◌∙◌}
use Rattle.emitter.proofs.put_last.Goals as goal

pub put_one-p-requires : goal.put_one-p-requires
put_one-p-requires c =
    omega (arith, resort_size c.args.ruled, c.requires)

pub put_far-q-requires : goal.put_far-q-requires
put_far-q-requires c =
    omega (arith, resort_size c.args.ruled, c.requires, c.put_one-p.ensures.next)

pub put_outcome-r-requires : goal.put_outcome-r-requires
put_outcome-r-requires c =
    omega (arith, resort_size c.args.ruled, c.requires, c.put_one-p.ensures.next, c.put_far-q.ensures.next)

pub overflow_sub-r : goal.overflow_sub-r
overflow_sub-r c =
    omega (arith, c.put_outcome-r.ensures.next)

pub overflow_add-r : goal.overflow_add-r
overflow_add-r c =
    omega (arith, resort_size c.args.ruled, c.requires, c.put_one-p.ensures.next, c.put_far-q.ensures.next, c.put_outcome-r.ensures.next)

pub put_far-s-requires : goal.put_far-s-requires
put_far-s-requires c =
    omega (arith, resort_size c.args.ruled, c.requires, c.put_one-p.ensures.next, c.put_far-q.ensures.next, c.put_outcome-r.ensures.next)

pub put_truth-requires : goal.put_truth-requires
put_truth-requires c =
    omega (arith, resort_size c.args.ruled, c.requires, c.put_one-p.ensures.next, c.put_far-q.ensures.next, c.put_outcome-r.ensures.next, c.put_far-s.ensures.next)

pub shape_of-out : goal.shape_of-out
shape_of-out c =
    c.put_truth.ensures.same ∙ c.put_far-s.ensures.same ∙ c.put_outcome-r.ensures.same ∙ c.put_far-q.ensures.same ∙ c.put_one-p.ensures.same

pub returns : goal.returns
returns c =
    emits_resort _ (emits_rest _ _ c.put_one-p.ensures (emits_branches _ _ _ _ c.put_far-q.ensures c.put_outcome-r.ensures refl c.put_far-s.ensures c.put_truth.ensures))
