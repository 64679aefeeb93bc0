use Rattle.ooo_plain.proofs.Telling.{nodes_push}
use Rattle.ooo_plain.proofs.touching.told_of.Goals as goal

pub loop-node-preserved : goal.loop-node-preserved
loop-node-preserved c = λ events.
    nodes_push c.args.count events c.args.nodes.now c.loop-node.node-index c.node-item.result c.loop-node.told.items c.tell_node.new.told.items c.loop-node-test.true c.node-item.is (c.loop-node.invariant events) (c.in-Ok.ensures events)
