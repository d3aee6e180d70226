-- The formats of group infos (RFC 9420, 12.4.3) and of the ratchet tree in them (12.4.3.3).
use Rattle.std.specs.Prelude.{ℕ, ◌<◌, ◌^◌, List, ◌++◌, length, Option, refl}
use Rattle.std.specs.Int.{w32}
use Rattle.std.proofs.Common.{lit<}
use Rattle.mls_wire.specs.Format.{Format}
use Rattle.mls_wire.specs.Reading.{uint, opaque}
use Rattle.mls_wire.specs.Combine.{◌⨾◌, image, behind, mark, vector, optional, byte_string, uint32}
use Rattle.mls_wire.specs.CombineReads.{IsNonempty}
use Rattle.mls_leaf.specs.Nonempty.{optional_nonempty, behind_nonempty, mark_nonempty, first_nonempty}
use Rattle.mls_leaf.specs.Node.{node}
use Rattle.mls_leaf.specs.declared.node.Node.{Node}
use Rattle.mls_types.specs.Enclosed.{entire, at_most_one, in_vector}
use Rattle.mls_types.specs.GroupContext.{group_context, group_context_nonempty}
use Rattle.mls_types.specs.declared.group_info.GroupInfo.{GroupInfo}

-- ratchet_tree (RFC 9420, 12.4.3.3): optional<Node><V> in node order
abbrev pub ratchet_tree : Format (List (Option Node))
ratchet_tree = vector (optional node) (optional_nonempty node)

-- Extension (RFC 9420, 7.2 and 17.3): uint16 type (2, else `ExtensionNotAllowed` (14)), and data<V>, all of which is
-- the tree
abbrev pub tree_extension : Format (List (Option Node))
tree_extension = behind (mark 2 14 (lit< tt)) (in_vector (entire ratchet_tree))

pub tree_extension_nonempty : IsNonempty tree_extension
tree_extension_nonempty = behind_nonempty (mark 2 14 (lit< tt)) (in_vector (entire ratchet_tree)) (mark_nonempty 2 14 (lit< tt))

-- Extension<V> of a GroupInfo (RFC 9420, 12.4.3): no extension, or the ratchet tree's; a second one is
-- `ExtensionNotAllowed` (14)
unfoldable pub group_info_extensions : Format (Option (List (Option Node)))
group_info_extensions = in_vector (at_most_one tree_extension tree_extension_nonempty 14)

-- GroupInfo (RFC 9420, 12.4.3): GroupContext, Extension<V>, confirmation_tag<V>, uint32 signer, signature<V>
unfoldable pub group_info : Format GroupInfo
group_info = image (group_context ⨾ group_info_extensions ⨾ byte_string ⨾ uint32 ⨾ byte_string)
    (λ x. record { group_context = x.0; ratchet_tree = x.1.0; confirmation_tag = x.1.1.0; signer = x.1.1.1.0; signature = x.1.1.1.1 })
    (λ v. (v.group_context, (v.ratchet_tree, (v.confirmation_tag, (v.signer, v.signature)))))
    (λ v. refl) (λ x _. refl)

pub group_info_nonempty : IsNonempty group_info
unfolding group_info
group_info_nonempty v fits = first_nonempty group_context (group_info_extensions ⨾ byte_string ⨾ uint32 ⨾ byte_string) group_context_nonempty (v.group_context, (v.ratchet_tree, (v.confirmation_tag, (v.signer, v.signature)))) fits

-- GroupInfoTBS (RFC 9420, 12.4.3): GroupContext, Extension<V>, confirmation_tag<V>, uint32 signer
abbrev pub group_info_tbs : GroupInfo → List ℕ
group_info_tbs v = group_context.spell v.group_context ++ group_info_extensions.spell v.ratchet_tree ++ opaque v.confirmation_tag ++ uint w32 v.signer

-- no vector in the GroupInfoTBS is too long
abbrev pub GroupInfoTbsFits : GroupInfo → Type 0
GroupInfoTbsFits v = group_context.Fits v.group_context × (group_info_extensions.Fits v.ratchet_tree × ((length v.confirmation_tag < 2 ^ 30) × (v.signer < 2 ^ 32)))
