use Rattle.std.proofs.Common.{◌≡◌, ℕ, ◌<◌, ◌≤◌, false, length}
use Rattle.mls_tree_index.specs.Indexes.{Indexes}
use Rattle.mls_tree_index.proofs.FrontLaws.{front}
use Rattle.mls_tree_index.proofs.index.Index.leave_from.Given as goal

abbrev pub invariant-loop-end : goal.invariant-loop-end
invariant-loop-end l = record {
  kind : l.self.kind ≡ l.fn.self.kind;
  room : l.fn.self.room ≤ l.self.room;
  own : l.self.shared ≡ false;
  within : l.end ≤ length l.cells.nodes;
  past : (y : ℕ) → y < l.count → l.end ≤ y → length l.cells.nodes ≤ y;
  left : Indexes l.cells.nodes l.fn.self → Indexes (front l.end l.cells.nodes) l.self;
}

abbrev pub decreases-loop-end : goal.decreases-loop-end
decreases-loop-end l = l.end
