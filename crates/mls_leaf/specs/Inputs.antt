-- The inputs that are only written, to be hashed or signed (RFC 9420, 7.2, 7.8, 7.9 and 10): each is its parts in
-- order.
use Rattle.std.specs.Prelude.{ℕ, ◌<◌, ◌^◌, List, [], ◌++◌, Option}
use Rattle.std.specs.Int.{w8, w16, w32}
use Rattle.mls_wire.specs.Reading.{uint, opaque}
use Rattle.mls_wire.specs.Combine.{optional, byte_string}
use Rattle.mls_leaf.specs.Leaf.{credential, capabilities, leaf_source, leaf_node}
use Rattle.mls_leaf.specs.Parent.{Parent}
use Rattle.mls_leaf.specs.ParentNode.{parent_node}
use Rattle.mls_leaf.specs.declared.leaf.LeafNode.{LeafNode}
use Rattle.mls_leaf.specs.declared.leaf.LeafSource.{LeafSource}
use Rattle.mls_leaf.specs.declared.leaf.LeafSource.TheVariants.{KeyPackage as by_key_package, Update as by_update, Commit as by_commit}
use Rattle.mls_leaf.specs.declared.key_package.KeyPackage.{KeyPackage}

-- ---- tree hashes (RFC 9420, section 7.8)

-- TreeHashInput of a leaf (RFC 9420, 7.8): 01, uint32 leaf_index, optional<LeafNode>
unfoldable pub tree_hash_input_of_leaf : ℕ → Option LeafNode → List ℕ
tree_hash_input_of_leaf index leaf = uint w8 1 ++ uint w32 index ++ (optional leaf_node).spell leaf

-- TreeHashInput of a parent (RFC 9420, 7.8): 02, optional<ParentNode>, left_hash<V>, right_hash<V>
unfoldable pub tree_hash_input_of_parent : Option Parent → List ℕ → List ℕ → List ℕ
tree_hash_input_of_parent parent left right = uint w8 2 ++ (optional parent_node).spell parent ++ opaque left ++ opaque right

-- each vector in it has a header
abbrev pub TreeHashInputOfParentFits : Option Parent → List ℕ → List ℕ → Type 0
TreeHashInputOfParentFits parent left right = (optional parent_node).Fits parent × (byte_string.Fits left × byte_string.Fits right)

-- ---- parent hashes (RFC 9420, section 7.9)

-- ParentHashInput (RFC 9420, 7.9): encryption_key<V>, parent_hash<V>, original_sibling_tree_hash<V>
unfoldable pub parent_hash_input : List ℕ → List ℕ → List ℕ → List ℕ
parent_hash_input encryption_key parent_hash sibling = opaque encryption_key ++ opaque parent_hash ++ opaque sibling

-- each vector in it has a header
abbrev pub ParentHashInputFits : List ℕ → List ℕ → List ℕ → Type 0
ParentHashInputFits encryption_key parent_hash sibling = byte_string.Fits encryption_key × (byte_string.Fits parent_hash × byte_string.Fits sibling)

-- ---- signed leaves (RFC 9420, section 7.2)

-- the leaf's fields before its signature, with its empty extensions (RFC 9420, 7.2)
unfoldable pub leaf_content : LeafNode → List ℕ
leaf_content v =
    opaque v.encryption_key ++ opaque v.signature_key ++ credential.spell v.credential
    ++ capabilities.spell v.capabilities ++ leaf_source.spell v.source ++ opaque []

-- each vector in it has a header
abbrev pub LeafContentFits : LeafNode → Type 0
LeafContentFits v = byte_string.Fits v.encryption_key × (byte_string.Fits v.signature_key × (credential.Fits v.credential × (capabilities.Fits v.capabilities × leaf_source.Fits v.source)))

-- where the leaf stands, for the sources update and commit (RFC 9420, 7.2): group_id<V>, uint32 leaf_index
abbrev pub leaf_place : LeafSource → List ℕ → ℕ → List ℕ
leaf_place (by_key_package before after) group index = []
leaf_place by_update group index = opaque group ++ uint w32 index
leaf_place (by_commit hash) group index = opaque group ++ uint w32 index

-- each vector in it has a header
abbrev pub LeafPlaceFits : LeafSource → List ℕ → Type 0
LeafPlaceFits (by_key_package before after) group = Unit {0}
LeafPlaceFits by_update group = byte_string.Fits group
LeafPlaceFits (by_commit hash) group = byte_string.Fits group

-- LeafNodeTBS (RFC 9420, 7.2): the leaf without its signature, and for the sources update and commit where it stands
unfoldable pub leaf_node_tbs : LeafNode → List ℕ → ℕ → List ℕ
leaf_node_tbs v group index = leaf_content v ++ leaf_place v.source group index

-- each vector in it has a header
abbrev pub LeafNodeTbsFits : LeafNode → List ℕ → Type 0
LeafNodeTbsFits v group = LeafContentFits v × LeafPlaceFits v.source group

-- ---- signed key packages (RFC 9420, section 10)

-- KeyPackageTBS (RFC 9420, 10): the key package without its signature
unfoldable pub key_package_tbs : KeyPackage → List ℕ
key_package_tbs v = uint w16 1 ++ uint w16 v.cipher_suite ++ opaque v.init_key ++ leaf_node.spell v.leaf_node ++ opaque []

-- each vector in it has a header
abbrev pub KeyPackageTbsFits : KeyPackage → Type 0
KeyPackageTbsFits v = (v.cipher_suite < 2 ^ 16) × (byte_string.Fits v.init_key × leaf_node.Fits v.leaf_node)
