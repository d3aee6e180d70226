use Rattle.std.proofs.Common.{◌≡◌, ◌++◌, map, drop}
use Rattle.mls_types.specs.declared.update_path.UpdatePathNode.{UpdatePathNode}
use Rattle.mls_commit.proofs.path.node_keys.Given as goal

abbrev pub invariant-loop-node : goal.invariant-loop-node
invariant-loop-node l = l.keys.items ++ map (λ (n : UpdatePathNode). n.encryption_key) (drop l.node-index l.path.nodes) ≡ map (λ (n : UpdatePathNode). n.encryption_key) l.path.nodes
