use Rattle.std.proofs.Common.{◌≡◌, ◌≤◌, length, take}
use Rattle.mls_tree_model.specs.Sets.{less}
use Rattle.mls_tree_hash.proofs.pieces.count_remaining.Given as goal

abbrev pub invariant-loop-entry : goal.invariant-loop-entry
invariant-loop-entry l = record {
  counted : l.count ≡ length (less l.leaves (take l.entry-index l.entries));
  few : l.count ≤ l.entry-index;
}
