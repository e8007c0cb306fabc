-- `emitter::emit_condition` meets its contract.
use native.Mathlib.Omega.{arith}
use Rattle.emitter.proofs.Terms.{told, size_truth, condition_always, condition_node}
use Rattle.emitter.proofs.emit_condition.Goals as goal

pub put_truth-requires : goal.put_truth-requires
put_truth-requires c =
    omega (arith, size_truth (condition_always c.args.book.now.bytes.now c.args.i c.args.n c.if-n-eq255.true), c.requires)

pub shape_of-out-then-n-eq255 : goal.shape_of-out-then-n-eq255
shape_of-out-then-n-eq255 c =
    c.put_truth.ensures.same

pub returns-then-n-eq255 : goal.returns-then-n-eq255
returns-then-n-eq255 c =
    told (condition_always _ _ _ c.if-n-eq255.true) c.put_truth.ensures

pub emit_below-requires : goal.emit_below-requires
emit_below-requires c =
    rw (← condition_node _ _ _ c.node_count-limit.ensures _ c.if-n-eq255.false) c.requires

pub shape_of-out : goal.shape_of-out
shape_of-out c =
    c.emit_below.ensures.same

pub returns : goal.returns
returns c =
    told (condition_node _ _ _ c.node_count-limit.ensures _ c.if-n-eq255.false) c.emit_below.ensures
