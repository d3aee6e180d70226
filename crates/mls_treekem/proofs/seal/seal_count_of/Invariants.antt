use Rattle.std.proofs.Common.{◌≡◌, ◌+◌, ◌%◌, ◌^◌, drop}
use Rattle.mls_treekem_model.specs.Seeds.{seal_count_of}
use Rattle.mls_treekem.proofs.seal.seal_count_of.Given as goal

abbrev pub invariant-loop-node : goal.invariant-loop-node
invariant-loop-node l = (l.count + seal_count_of (drop l.node-index l.nodes)) % 2 ^ 32 ≡ seal_count_of l.nodes % 2 ^ 32
