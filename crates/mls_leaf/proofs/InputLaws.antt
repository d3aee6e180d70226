-- What is signed is all of a spelling in front of the signature.
use Rattle.std.proofs.Common.{◌≡◌, ◌++◌, append_assoc}
use Rattle.mls_wire.specs.Reading.{opaque}
use Rattle.mls_leaf.specs.Leaf.{leaf_node}
use Rattle.mls_leaf.specs.KeyPackage.{key_package}
use Rattle.mls_leaf.specs.Inputs.{leaf_content, key_package_tbs}
use Rattle.mls_leaf.specs.declared.leaf.LeafNode.{LeafNode}
use Rattle.mls_leaf.specs.declared.key_package.KeyPackage.{KeyPackage}

pub leaf_node-spelled : (v : LeafNode) → leaf_node.spell v ≡ leaf_content v ++ opaque v.signature
unfolding leaf_node leaf_content
leaf_node-spelled v = simp append_assoc

pub key_package-spelled : (v : KeyPackage) → key_package.spell v ≡ key_package_tbs v ++ opaque v.signature
unfolding key_package key_package_tbs
key_package-spelled v = simp append_assoc
