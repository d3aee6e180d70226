use Rattle.std.proofs.Common.{◌≡◌, ◌++◌, length, replicate, None}
use Rattle.std.specs.Vec.Iter.{into_iter_items}
use Rattle.mls_tree_cells.proofs.cells.Cells.from_slots.Given as goal

abbrev pub invariant-loop-slot : goal.invariant-loop-slot
invariant-loop-slot l = record {
  nodes : l.parts.cells.nodes ++ into_iter_items l.slot-iterator ≡ l.fn.slots.items;
  hashes : l.parts.cells.hashes ≡ replicate (length l.parts.cells.nodes) None;
}
