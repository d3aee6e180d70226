use Rattle.std.proofs.Common.{◌≡◌, ◌≤◌, ◌+◌, ◌-◌, take, vec_len}
use Rattle.std.specs.Vec.{vec_capacity}
use Rattle.mls_tree_array.proofs.order.to_nodes.Given as goal

abbrev pub invariant-loop-x : goal.invariant-loop-x
invariant-loop-x l = (l.nodes.items ≡ take l.x l.cells.nodes) × (vec_len l.nodes + (l.count - l.x) ≤ vec_capacity l.nodes) × (l.x ≤ l.count)
