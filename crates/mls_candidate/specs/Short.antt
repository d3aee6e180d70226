-- How long leaves, their sources and KeyPackages are.
use Rattle.std.specs.Prelude.{◌+◌, ◌<◌, ◌≤◌, ◌^◌, length}
use Rattle.mls_leaf.specs.Leaf.{capabilities, leaf_source, leaf_node}
use Rattle.mls_leaf.specs.declared.leaf.LeafNode.{LeafNode}
use Rattle.mls_leaf.specs.declared.leaf.LeafSource.{LeafSource}
use Rattle.mls_leaf.specs.declared.leaf.LeafSource.TheVariants as leaf_node_source
use Rattle.mls_leaf.specs.declared.key_package.KeyPackage.{KeyPackage}
use Rattle.mls_public_group.specs.Short.{IsBelow}

-- a parent hash has at most 32 bytes
abbrev pub IsShortSource : LeafSource → Type 0
IsShortSource (leaf_node_source.Commit hash) = length hash ≤ 32
IsShortSource other = Unit {0}

-- a leaf whose parts are short: that it is signed makes it no longer than 2^28 bytes
pub record IsShortLeaf (v : LeafNode) : Type 0 where
  pub key : length v.encryption_key < 2 ^ 16
  pub owner : length v.signature_key + length v.credential.identity < 2 ^ 27
  pub able : capabilities.Fits v.capabilities
  pub able_short : length (capabilities.spell v.capabilities) < 2 ^ 16
  pub source : leaf_source.Fits v.source
  pub source_short : length (leaf_source.spell v.source) < 2 ^ 16

-- a KeyPackage whose parts are short
pub record IsShortPackage (k : KeyPackage) : Type 0 where
  pub suite : k.cipher_suite < 2 ^ 16
  pub key : length k.init_key < 2 ^ 16
  pub leaf : IsBelow (2 ^ 28) leaf_node k.leaf_node
