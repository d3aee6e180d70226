use Rattle.std.proofs.Common.{◌≡◌}
use Rattle.std.specs.Vec.{vec_len, vec_capacity}
use Rattle.mls_tree_index.specs.Blocks.{blocks_of}
use Rattle.mls_tree_index.proofs.blocks.share_all.Given as goal

abbrev pub invariant-loop-b : goal.invariant-loop-b
invariant-loop-b l = record {
  blocks : blocks_of l.list.items ≡ blocks_of l.fn.list.items;
  len : vec_len l.list ≡ vec_len l.fn.list;
  capacity : vec_capacity l.list ≡ vec_capacity l.fn.list;
  end : vec_len l.list ≡ l.b-end;
}
