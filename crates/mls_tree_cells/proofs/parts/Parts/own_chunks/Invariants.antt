use Rattle.std.proofs.Common.{◌≡◌, take}
use Rattle.std.specs.List.{All}
use Rattle.mls_tree_cells.specs.Parts.{IsOpen}
use Rattle.mls_tree_cells.specs.declared.changes.Change.{Change}
use Rattle.mls_tree_cells.proofs.parts.Parts.own_chunks.Given as goal

abbrev pub invariant-loop-change : goal.invariant-loop-change
invariant-loop-change l = record {
  cells : l.self.cells ≡ l.fn.self.cells;
  own : All (λ (c : Change). IsOpen l.self.shares c.place) (take l.change-index l.changes);
}
