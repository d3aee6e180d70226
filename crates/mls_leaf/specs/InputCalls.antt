-- What the calls answer that write inputs, or add them to a writer.
use Rattle.std.specs.Prelude.{ℕ, List, Option, Result}
use Rattle.std.specs.Global.{Vec}
use Rattle.mls_wire.specs.Combine.{optional}
use Rattle.mls_leaf.specs.Faults.{AddsInput, Writes}
use Rattle.mls_leaf.specs.Leaf.{leaf_node}
use Rattle.mls_leaf.specs.Parent.{Parent}
use Rattle.mls_leaf.specs.Inputs.{tree_hash_input_of_leaf, tree_hash_input_of_parent, TreeHashInputOfParentFits, parent_hash_input, ParentHashInputFits, leaf_content, LeafContentFits, leaf_place, LeafPlaceFits, leaf_node_tbs, LeafNodeTbsFits, key_package_tbs, KeyPackageTbsFits}
use Rattle.mls_leaf.specs.declared.error.LeafError.{LeafError}
use Rattle.mls_leaf.specs.declared.leaf.LeafNode.{LeafNode}
use Rattle.mls_leaf.specs.declared.leaf.LeafSource.{LeafSource}
use Rattle.mls_leaf.specs.declared.key_package.KeyPackage.{KeyPackage}

-- ---- tree hashes (RFC 9420, section 7.8)

-- the TreeHashInput of a leaf: leaf index, leaf
abbrev pub WritesHashedLeaf : ℕ → Option LeafNode → Result (Vec ℕ) LeafError → Type 0
WritesHashedLeaf index leaf result = Writes ((optional leaf_node).Fits leaf) (tree_hash_input_of_leaf index leaf) result

-- the TreeHashInput of a parent: parent, left hash, right hash
abbrev pub WritesHashedParent : Option Parent → List ℕ → List ℕ → Result (Vec ℕ) LeafError → Type 0
WritesHashedParent parent left right result = Writes (TreeHashInputOfParentFits parent left right) (tree_hash_input_of_parent parent left right) result

-- ---- parent hashes (RFC 9420, section 7.9)

-- the ParentHashInput: encryption key, parent hash, the sibling's tree hash
abbrev pub WritesParentHashInput : List ℕ → List ℕ → List ℕ → Result (Vec ℕ) LeafError → Type 0
WritesParentHashInput encryption_key parent_hash sibling result = Writes (ParentHashInputFits encryption_key parent_hash sibling) (parent_hash_input encryption_key parent_hash sibling) result

-- ---- signed leaves (RFC 9420, section 7.2)

-- the leaf without its signature
abbrev pub AddsLeafContent : LeafNode → List ℕ → Result (Unit {0}) LeafError → List ℕ → Type 0
AddsLeafContent v old result new = AddsInput (LeafContentFits v) (leaf_content v) old result new

-- where the leaf stands: source, group, leaf index
abbrev pub AddsLeafPlace : LeafSource → List ℕ → ℕ → List ℕ → Result (Unit {0}) LeafError → List ℕ → Type 0
AddsLeafPlace source group index old result new = AddsInput (LeafPlaceFits source group) (leaf_place source group index) old result new

-- the LeafNodeTBS: leaf, group, leaf index
abbrev pub WritesLeafNodeTbs : LeafNode → List ℕ → ℕ → Result (Vec ℕ) LeafError → Type 0
WritesLeafNodeTbs v group index result = Writes (LeafNodeTbsFits v group) (leaf_node_tbs v group index) result

-- ---- signed key packages (RFC 9420, section 10)

-- the KeyPackageTBS
abbrev pub WritesKeyPackageTbs : KeyPackage → Result (Vec ℕ) LeafError → Type 0
WritesKeyPackageTbs v result = Writes (KeyPackageTbsFits v) (key_package_tbs v) result
