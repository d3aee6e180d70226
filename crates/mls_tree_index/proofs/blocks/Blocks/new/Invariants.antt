use Rattle.std.proofs.Common.{◌≡◌, ◌++◌, false, length}
use Rattle.mls_tree_index.specs.Blocks.{AreBlocks, are_shared, blocks_of, joined}
use Rattle.mls_tree_index.proofs.blocks.Blocks.new.Given as goal

abbrev pub invariant-loop-rest : goal.invariant-loop-rest
invariant-loop-rest l = record {
  blocks : AreBlocks (blocks_of l.list.items);
  entries : joined (blocks_of l.list.items) ++ l.rest ≡ l.entries;
  own : are_shared l.list.items ≡ false;
}

abbrev pub decreases-loop-rest : goal.decreases-loop-rest
decreases-loop-rest l = length l.rest
