use Rattle.mls_types.specs.declared.update_path.UpdatePathNode.{UpdatePathNode}
use Rattle.mls_commit.proofs.Keys.{mapped_next}
use Rattle.mls_commit.proofs.path.node_keys.Goals as goal

pub loop-node-preserved : goal.loop-node-preserved
loop-node-preserved c =
    mapped_next (λ (n : UpdatePathNode). n.encryption_key) c.args.path.now.nodes c.loop-node.node-index c.node-item.result c.loop-node.keys.items c.push.new.self.items c.in_ok-node_key.field-0
    (rw (← c.as_slice-nodes.ensures) c.loop-node-test.true) (rw (← c.as_slice-nodes.ensures) c.node-item.is) c.in_ok-push.ensures.items c.in_ok-node_key.ensures c.loop-node.invariant
