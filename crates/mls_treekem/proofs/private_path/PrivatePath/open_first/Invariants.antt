use Rattle.std.proofs.Common.{◌≤◌, drop}
use Rattle.mls_treekem.proofs.Opening.{SameFirst}
use Rattle.mls_treekem.proofs.private_path.PrivatePath.open_first.Given as goal

abbrev pub invariant-loop-node : goal.invariant-loop-node
invariant-loop-node g l = record {
  same : SameFirst g.S.Suite.crypto l.context l.height l.first l.self l.added l.nodes l.ciphertexts l.node-index (drop l.number l.ciphertexts);
  few : l.number ≤ l.node-index;
}
