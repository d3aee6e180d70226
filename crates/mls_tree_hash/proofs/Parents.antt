-- How a parent is spelled.
use Rattle.std.proofs.Common.{◌≡◌, ◌++◌}
use Rattle.std.specs.Int.{w32}
use Rattle.std.specs.List.{flat_map}
use Rattle.mls_wire.specs.Reading.{opaque, uint}
use Rattle.mls_leaf.specs.Parent.{Parent}
use Rattle.mls_leaf.proofs.ParentLaws.{run_spelling-rising}
use Rattle.mls_leaf.specs.ParentNode.{parent_node}

pub parent_spelled : (p : Parent) → opaque p.encryption_key ++ (opaque p.parent_hash ++ opaque (flat_map (uint w32) p.unmerged_leaves)) ≡ parent_node.spell p
unfolding parent_node
parent_spelled p = rw (run_spelling-rising 0 p.unmerged_leaves)
