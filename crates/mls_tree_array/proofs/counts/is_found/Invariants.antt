use Rattle.std.proofs.Common.{◌-◌, ◌*◌, ◌<◌, ◌≤◌, length, get_or}
use Rattle.mls_tree_array.proofs.counts.is_found.Given as goal

abbrev pub invariant-loop-start : goal.invariant-loop-start
invariant-loop-start l = record {
  order : l.start ≤ l.end;
  within : l.end ≤ length l.leaves;
  low : 0 < l.start → 2 * get_or l.leaves (l.start - 1) 0 < l.node;
  high : l.end < length l.leaves → l.node < 2 * get_or l.leaves l.end 0;
}

abbrev pub decreases-loop-start : goal.decreases-loop-start
decreases-loop-start l = l.end - l.start
