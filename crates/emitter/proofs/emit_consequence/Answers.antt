-- `emitter::emit_consequence` meets its contract.
use native.Mathlib.Omega.{arith}
use Rattle.emitter.proofs.Terms.{told, size_truth, consequence_fixed, consequence_node_lem}
use Rattle.emitter.proofs.emit_consequence.Goals as goal

pub emit_below-requires : goal.emit_below-requires
emit_below-requires c =
    rw (← consequence_node_lem _ _ _ c.node_count-limit.ensures _ _ c.in-Of.is) c.requires

pub put_truth-requires : goal.put_truth-requires
put_truth-requires c =
    omega (arith, size_truth (consequence_fixed c.args.book.now.bytes.now c.args.i c.args.c _ c.in-Fixed.is), c.requires)

pub shape_of-out-in-Of : goal.shape_of-out-in-Of
shape_of-out-in-Of c =
    c.emit_below.ensures.same

pub returns-in-Of : goal.returns-in-Of
returns-in-Of c =
    told (consequence_node_lem _ _ _ c.node_count-limit.ensures _ _ c.in-Of.is) c.emit_below.ensures

pub shape_of-out-in-Fixed : goal.shape_of-out-in-Fixed
shape_of-out-in-Fixed c =
    c.put_truth.ensures.same

pub returns-in-Fixed : goal.returns-in-Fixed
returns-in-Fixed c =
    told (consequence_fixed _ _ _ _ c.in-Fixed.is) c.put_truth.ensures
