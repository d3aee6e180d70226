use Rattle.std.proofs.Common.{◌≡◌, ◌<◌, length}
use Rattle.std.specs.List.{All}
use Rattle.std.specs.Vec.Iter.{into_iter_items}
use Rattle.mls_tree_cells.specs.Cells.{put_nodes, drop_hashes_at}
use Rattle.mls_tree_cells.specs.Parts.{IsOpen}
use Rattle.mls_tree_cells.specs.declared.changes.Change.{Change}
use Rattle.mls_tree_cells.proofs.parts.Parts.put_all.Given as goal

abbrev pub invariant-loop-change : goal.invariant-loop-change
invariant-loop-change l = record {
  nodes : put_nodes (into_iter_items l.change-iterator) l.self.cells.nodes ≡ put_nodes l.fn.changes.items l.fn.self.cells.nodes;
  hashes : drop_hashes_at (into_iter_items l.change-iterator) l.self.cells.hashes ≡ drop_hashes_at l.fn.changes.items l.fn.self.cells.hashes;
  within : All (λ (c : Change). c.place < length l.self.cells.nodes) (into_iter_items l.change-iterator);
  own : All (λ (c : Change). IsOpen l.self.shares c.place) (into_iter_items l.change-iterator);
}
