use Rattle.std.proofs.Common.{◌≡◌, ◌+◌, ◌-◌, ◌≤◌}
use Rattle.std.specs.Vec.{vec_len, vec_capacity}
use Rattle.mls_tree_index.specs.Blocks.{AreKept}
use Rattle.mls_tree_index.proofs.blocks.add_spares.Given as goal

abbrev pub invariant-loop-list : goal.invariant-loop-list
invariant-loop-list l = record {
  kept : AreKept l.list l.spares;
  more : vec_len l.fn.spares ≤ vec_len l.spares;
  items : l.list.items ≡ l.fn.list.items;
  room : vec_len l.list + l.count ≤ vec_capacity l.list;
}

abbrev pub decreases-loop-list : goal.decreases-loop-list
decreases-loop-list l = l.count - vec_len l.spares
