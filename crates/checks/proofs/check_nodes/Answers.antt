-- `checks::check_nodes` meets its contract. The invariant of its loop is `Nodes`.
use Rattle.checks.proofs.Passes.{nodes_start, node_dangles_lem, node_turn, nodes_end}
use Rattle.checks.proofs.check_nodes.Goals as goal

pub loop-n-init : goal.loop-n-init
loop-n-init c = nodes_start _ _ _ _ c.requires

pub returns-then-not-of_node : goal.returns-then-not-of_node
returns-then-not-of_node c =
    node_dangles_lem c.loop-n.invariant (rw (← c.node_count-n-end.ensures) c.loop-n-test.true) c.node_at-node.ensures c.check_node-of_node.ensures
    c.if-not-of_node.true

pub loop-n-preserved : goal.loop-n-preserved
loop-n-preserved c =
    node_turn c.loop-n.invariant (rw (← c.node_count-n-end.ensures) c.loop-n-test.true) c.node_at-node.ensures c.check_node-of_node.ensures
    c.if-not-of_node.false c.args.book.now.laid.within

pub returns : goal.returns
returns c = nodes_end c.loop-n.invariant (rw (← c.node_count-n-end.ensures) c.loop-n-test.false)
