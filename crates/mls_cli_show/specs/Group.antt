-- The lines of Welcomes and GroupInfos.
use Rattle.std.specs.Prelude.{ℕ, List, [], ◌∷◌, ◌++◌, codes, length, map, option_map, Option, Some, None}
use Rattle.mls_leaf.specs.declared.node.Node.{Node}
use Rattle.mls_leaf.specs.declared.parent_node.ParentNode.{ParentNode}
use Rattle.mls_leaf.specs.declared.node.Node.TheVariants as node
use Rattle.mls_types.specs.declared.group_info.GroupInfo.{GroupInfo}
use Rattle.mls_types.specs.declared.welcome.EncryptedGroupSecrets.{EncryptedGroupSecrets}
use Rattle.mls_types.specs.declared.welcome.Welcome.{Welcome}
use Rattle.mls_cli_text.specs.Text.{Entry, entry, bytes, digits, indexes, item_text, number, word}
use Rattle.mls_cli_show.specs.Extensions.{extension_entries}
use Rattle.mls_cli_show.specs.declared.numbered.Detail.{Detail}
use Rattle.mls_cli_show.specs.Commit.{shown_count}
use Rattle.mls_cli_show.specs.Numbered.{in_full, numbered}
use Rattle.mls_cli_show.specs.Package.{leaf_entries}

-- RFC 9420, section 12.4.3.1: the reference of a new member's KeyPackage
abbrev pub member_entry : EncryptedGroupSecrets → Entry
member_entry s = entry [] (codes "new_member") (bytes s.new_member)

-- RFC 9420, sections 7.6 and 12.4.3.1: what is sealed to a new member
abbrev pub secrets_entries : List ℕ → EncryptedGroupSecrets → List Entry
secrets_entries prefix s =
    entry prefix (codes "kem_output") (bytes s.encrypted_group_secrets.kem_output)
    ∷ entry prefix (codes "ciphertext") (bytes s.encrypted_group_secrets.ciphertext) ∷ []

abbrev pub listed_secrets : ℕ → EncryptedGroupSecrets → List Entry
listed_secrets n s = secrets_entries (item_text (codes "new_member.") n) s

-- RFC 9420, section 12.4.3.1: a Welcome
unfoldable pub welcome_entries : Detail → Welcome → List Entry
welcome_entries detail w =
    entry [] (codes "cipher_suite") (digits w.cipher_suite)
    ∷ entry [] (codes "new_members") (number (length w.secrets))
    ∷ (map member_entry w.secrets
    ++ (in_full detail (numbered listed_secrets w.secrets)
    ++ entry [] (codes "group_info_bytes") (number (length w.encrypted_group_info)) ∷ []))

-- RFC 9420, section 12.4.3.3: how many nodes the tree has, if it is there
abbrev pub tree_nodes : Option (List (Option Node)) → Option ℕ
tree_nodes tree = option_map length tree

-- RFC 9420, section 7.1: a parent
abbrev pub parent_entries : List ℕ → ParentNode → List Entry
parent_entries prefix v =
    entry prefix (codes "encryption_key") (bytes v.encryption_key)
    ∷ entry prefix (codes "parent_hash") (bytes v.parent_hash)
    ∷ entry prefix (codes "unmerged_leaves") (indexes v.unmerged_leaves) ∷ []

-- RFC 9420, sections 7.1, 7.2 and 12.4.3.3: a node of a tree
unfoldable pub node_entries : List ℕ → Option Node → List Entry
node_entries prefix None = entry prefix (codes "kind") (word (codes "blank")) ∷ []
node_entries prefix (Some (node.Leaf v)) =
    entry prefix (codes "kind") (word (codes "leaf")) ∷ leaf_entries prefix v
node_entries prefix (Some (node.Parent v)) =
    entry prefix (codes "kind") (word (codes "parent")) ∷ parent_entries prefix v

abbrev pub listed_node : ℕ → Option Node → List Entry
listed_node n v = node_entries (item_text (codes "node.") n) v

-- RFC 9420, section 12.4.3.3: the nodes of a tree in their order, if it is there
abbrev pub nodes_entries : Option (List (Option Node)) → List Entry
nodes_entries None = []
nodes_entries (Some nodes) = numbered listed_node nodes

-- RFC 9420, sections 8.1 and 12.4.3: a GroupInfo
unfoldable pub group_info_entries : Detail → GroupInfo → List Entry
group_info_entries detail v =
    entry [] (codes "cipher_suite") (digits v.group_context.cipher_suite)
    ∷ entry [] (codes "group_id") (bytes v.group_context.group_id)
    ∷ entry [] (codes "epoch") (number v.group_context.epoch)
    ∷ entry [] (codes "tree_hash") (bytes v.group_context.tree_hash)
    ∷ entry [] (codes "confirmed_transcript_hash") (bytes v.group_context.confirmed_transcript_hash)
    ∷ (extension_entries [] v.group_context.extensions
    ++ entry [] (codes "tree_nodes") (shown_count (tree_nodes v.ratchet_tree))
    ∷ (in_full detail (nodes_entries v.ratchet_tree)
    ++ entry [] (codes "confirmation_tag") (bytes v.confirmation_tag)
    ∷ entry [] (codes "signer") (number v.signer)
    ∷ entry [] (codes "signature") (bytes v.signature) ∷ []))
