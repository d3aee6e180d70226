use Rattle.std.proofs.Common.{◌≤◌, ◌-◌, length}
use Rattle.mls_tree_index.specs.Searches.{IsHighAt, IsLowBefore}
use Rattle.mls_tree_index.proofs.search.count_before.Given as goal

abbrev pub invariant-loop-start : goal.invariant-loop-start
invariant-loop-start l = record {
  known : l.known ≤ l.start;
  order : l.start ≤ l.end;
  within : l.end ≤ length l.entries;
  low : IsLowBefore l.kind l.cells.nodes l.key l.entry l.entries l.known l.start;
  high : IsHighAt l.kind l.cells.nodes l.key l.entry l.entries l.end;
}

abbrev pub decreases-loop-start : goal.decreases-loop-start
decreases-loop-start l = l.end - l.start
