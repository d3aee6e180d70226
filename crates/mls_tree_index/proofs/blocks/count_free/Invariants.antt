use Rattle.std.proofs.Common.{◌≡◌, ◌≤◌, drop, min}
use Rattle.mls_tree_index.specs.Blocks.{blocks_of, least_free}
use Rattle.mls_tree_index.proofs.blocks.count_free.Given as goal

abbrev pub invariant-loop-block : goal.invariant-loop-block
invariant-loop-block l = record {
  few : l.free ≤ 512;
  free : min l.free (least_free (drop l.block-index (blocks_of l.list))) ≡ least_free (blocks_of l.list);
}
