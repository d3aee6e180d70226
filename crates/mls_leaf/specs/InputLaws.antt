-- What is signed is all of a spelling in front of the signature.
use Rattle.std.specs.Prelude.{◌≡◌, ◌++◌}
use Rattle.mls_wire.specs.Reading.{opaque}
use Rattle.mls_leaf.specs.Leaf.{leaf_node}
use Rattle.mls_leaf.specs.KeyPackage.{key_package}
use Rattle.mls_leaf.specs.Inputs.{leaf_content, key_package_tbs}
use Rattle.mls_leaf.specs.declared.leaf.LeafNode.{LeafNode}
use Rattle.mls_leaf.specs.declared.key_package.KeyPackage.{KeyPackage}

-- a leaf is spelled as its content that is signed, and then its signature (RFC 9420, section 7.2)
abbrev pub LeafIsSpelled : Type 0
LeafIsSpelled = (v : LeafNode) → leaf_node.spell v ≡ leaf_content v ++ opaque v.signature

-- a key package is spelled as its KeyPackageTBS, and then its signature (RFC 9420, section 10)
abbrev pub KeyPackageIsSpelled : Type 0
KeyPackageIsSpelled = (v : KeyPackage) → key_package.spell v ≡ key_package_tbs v ++ opaque v.signature
