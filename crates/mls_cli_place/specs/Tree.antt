-- The fields of a ratchet tree, in their order (RFC 9420, 7.1 and 12.4.3.3).
use Rattle.std.specs.Prelude.{ℕ, zero, suc, Option, None, Some}
use Rattle.std.specs.Int.{w8}
use Rattle.mls_wire.specs.Reading.{uint_at}
use Rattle.mls_wire.specs.Stateful.{vector_from}
use Rattle.mls_leaf.specs.ParentNode.{rising_rule}
use Rattle.mls_cli_place.specs.declared.place.Found.{Found}
use Rattle.mls_cli_place.specs.declared.step.GroupField.TheVariants as group
use Rattle.mls_cli_place.specs.declared.step.LeafField.TheVariants as leaf
use Rattle.mls_cli_place.specs.declared.step.Step.TheVariants.{Group, Leaf}
use Rattle.mls_cli_place.specs.Leaf.{leaf_node_walk}
use Rattle.mls_cli_place.specs.Walk.{◌▷◌, Walk, by_tag, case_of, enclosed_by, field, no_case, no_field, single, string_field, vector_of}

-- (RFC 9420, 7.1) the unmerged leaves rise, else `NotRising` (13)
unfoldable pub parent_node_walk : Walk
parent_node_walk =
    string_field (Leaf leaf.EncryptionKey) ▷ string_field (Leaf leaf.ParentHash)
    ▷ single (Group group.UnmergedLeaves) (vector_from rising_rule 0).pass

-- (RFC 9420, 12.4.3.3) node_type: 1 leaf, 2 parent, else `BadTag` (7)
abbrev pub nodes : ℕ → Option Walk
nodes t =
    case_of 1 (field (Leaf leaf.LeafNode) leaf_node_walk)
    (case_of 2 (field (Group group.ParentNode) parent_node_walk) no_case) t

unfoldable pub node_walk : Walk
node_walk bytes = by_tag (enclosed_by (Group group.NodeType)) 7 nodes bytes (uint_at w8 bytes)

-- (RFC 9420, 2.1.1) no value, or one: the first byte is 0 or 1, else `BadTag` (7)
abbrev pub in_no_field : Found → Found
in_no_field f = f

abbrev pub presences : Walk → ℕ → Option Walk
presences walk zero = Some no_field
presences walk (suc zero) = Some walk
presences walk (suc (suc t)) = None

abbrev pub optional_of : Walk → Walk
optional_of walk bytes = by_tag in_no_field 7 (presences walk) bytes (uint_at w8 bytes)

-- (RFC 9420, 12.4.3.3) optional<Node> in node order
abbrev pub ratchet_tree_walk : Walk
ratchet_tree_walk = vector_of (optional_of node_walk)
