-- The walks over ratchet trees find the faults that reading answers.
use Rattle.std.specs.Int.{w8}
use Rattle.std.specs.Prelude.{◌^◌}
use Rattle.mls_wire.specs.Combine.{byte_string, optional}
use Rattle.mls_wire.specs.Laws.{wide8}
use Rattle.mls_wire.specs.Stateful.{vector_from}
use Rattle.mls_leaf.specs.Leaf.{leaf_node}
use Rattle.mls_leaf.specs.Node.{node}
use Rattle.mls_leaf.specs.Nonempty.{optional_nonempty}
use Rattle.mls_leaf.specs.ParentNode.{parent_node, rising_rule}
use Rattle.mls_types.specs.GroupInfo.{ratchet_tree}
use Rattle.mls_cli_place.specs.Finding.{Finds, chooses_case, chooses_none, finds_field, finds_one, finds_optional, finds_tagged, finds_then, finds_vector, places_in}
use Rattle.mls_cli_place.specs.LeafFinding.{leaf_node_finds}
use Rattle.mls_cli_place.specs.Tree.{node_walk, parent_node_walk, ratchet_tree_walk}

pub parent_node_finds : Finds parent_node_walk parent_node.pass
unfolding parent_node_walk parent_node
parent_node_finds =
    finds_then (finds_field _ (finds_one byte_string)) (finds_then (finds_field _ (finds_one byte_string)) (finds_field _ (finds_one (vector_from rising_rule 0))))

pub node_finds : Finds node_walk node.pass
unfolding node_walk node
node_finds = finds_tagged w8 (2 ^ 8) wide8 (places_in _) (chooses_case 1 leaf_node (finds_field _ leaf_node_finds) (chooses_case 2 parent_node (finds_field _ parent_node_finds) (chooses_none 7)))

pub ratchet_tree_finds : Finds ratchet_tree_walk ratchet_tree.pass
ratchet_tree_finds = finds_vector (optional node) (optional_nonempty node) (finds_optional node node_finds)
