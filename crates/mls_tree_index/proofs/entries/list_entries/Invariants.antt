use Rattle.std.proofs.Common.{◌≤◌, length}
use Rattle.std.specs.Vec.{vec_len, vec_capacity}
use Rattle.mls_tree_index.specs.Keys.{key_in}
use Rattle.mls_tree_index.proofs.SortLaws.{AreBelow}
use Rattle.mls_tree_index.proofs.entries.list_entries.Given as goal

abbrev pub invariant-loop-x : goal.invariant-loop-x
invariant-loop-x l = record {
  few : vec_len l.entries ≤ l.x;
  room : length l.cells.nodes ≤ vec_capacity l.entries;
  below : AreBelow (key_in l.fn.kind l.cells.nodes) l.x l.entries.items;
}
