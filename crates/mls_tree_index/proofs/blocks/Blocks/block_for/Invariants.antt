use Rattle.std.proofs.Common.{◌<◌, ◌≤◌, ◌-◌, length}
use Rattle.mls_tree_index.specs.Blocks.{AreBlocks}
use Rattle.mls_tree_index.specs.Searches.{BeginsLow, EndsHigh}
use Rattle.mls_tree_index.proofs.blocks.Blocks.block_for.Given as goal

abbrev pub invariant-loop-start : goal.invariant-loop-start
invariant-loop-start l = record {
  order : l.start ≤ l.end;
  blocks : AreBlocks l.self.blocks;
  block : l.end < length l.self.blocks;
  low : BeginsLow l.kind l.cells.nodes l.key l.entry l.self.blocks l.start;
  high : EndsHigh l.kind l.cells.nodes l.key l.entry l.self.blocks l.end;
}

abbrev pub decreases-loop-start : goal.decreases-loop-start
decreases-loop-start l = l.end - l.start
