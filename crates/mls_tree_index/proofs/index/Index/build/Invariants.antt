use Rattle.std.proofs.Common.{◌≤◌, false, take, drop}
use Rattle.mls_tree_index.specs.Entries.{numbers_of}
use Rattle.mls_tree_index.specs.Indexes.{Indexes}
use Rattle.mls_tree_index.specs.BlankedCells.{cells_without}
use Rattle.mls_tree_index.proofs.index.Index.build.Given as goal

abbrev pub invariant-loop-place : goal.invariant-loop-place
invariant-loop-place l = record {
  built : Indexes (cells_without 0 (drop l.place (numbers_of l.entries.items)) l.cells.nodes) (record { kind = l.fn.kind; entries = take l.place l.entries.items; repeats = l.repeats; room = 0; shared = false });
  low : l.repeats ≤ l.place;
}
