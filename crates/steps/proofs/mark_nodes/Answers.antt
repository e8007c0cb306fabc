-- `steps::mark_nodes` meets its contract. The loop's invariant is `Descent`.
use mathlib.Core.Path.{refl}
use Rattle.steps.proofs.Descent.{descent_start, descent_down, descent_owned, descent_free, descent_done}
use Rattle.steps.proofs.mark_nodes.Goals as goal

pub loop-n-init : goal.loop-n-init
loop-n-init c = descent_start _ _ _ _ _ c.requires.1 c.node_count-n.ensures

pub loop-n-preserved-then-row : goal.loop-n-preserved-then-row
loop-n-preserved-then-row c =
    descent_owned _ _ _ _ _ _ (descent_down c.loop-n.invariant c.loop-n-test.true) (c.args.book.now.laid.within.nodes c.args.i)
    c.requires.0.sound c.requires.0.single _ refl _
    (rw c.node_at-node.ensures at c.mark_node.ensures.1) _
    (rw (c.node_at-node.ensures, c.variable_count-variables.ensures) at c.mark_node.ensures.0)

pub loop-n-preserved : goal.loop-n-preserved
loop-n-preserved c = descent_free _ _ _ _ _ _ (descent_down c.loop-n.invariant c.loop-n-test.true) c.if-row.false

pub returns : goal.returns
returns c = descent_done _ _ _ _ _ _ c.loop-n.invariant c.loop-n-test.false
