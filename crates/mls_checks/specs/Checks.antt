-- The checks in order: of a key package, and of a leaf that replaces another.
use Rattle.std.specs.Prelude.{ℕ, ◌==◌, Bool, ◌&&◌, not, List, [], Result, codes}
use Rattle.std.specs.Str.{bytes_eq}
use Rattle.mls_wire.specs.Checks.{Passed, require, ◌>>◌}
use Rattle.mls_leaf.specs.declared.leaf.LeafNode.{LeafNode}
use Rattle.mls_leaf.specs.declared.key_package.KeyPackage.{KeyPackage}
use Rattle.mls_leaf.specs.Inputs.{key_package_tbs}
use Rattle.mls_suite.specs.Crypto.{Crypto}
use Rattle.mls_suite.specs.Labels.{verify_with_label}
use Rattle.mls_checks.specs.declared.checks.LeafUse.{LeafUse}
use Rattle.mls_checks.specs.Leaf.{is_signed, is_capable, is_of_key_package, is_of_source, has_identity_of}

-- whether the key package's signature verifies by its leaf's signature key (RFC 9420, 10)
unfoldable pub is_package_signed : Crypto → KeyPackage → Bool
is_package_signed c p = verify_with_label c p.leaf_node.signature_key (codes "KeyPackageTBS") (key_package_tbs p) p.signature

-- the checks of a key package (RFC 9420, 7.3 and 10.1): `LeafSource` (50) its leaf is made for something else,
-- `LeafSignature` (51) the signature of its leaf, `LeafCapability` (52) a capability, `KeyPackageSuite` (55) the suite,
-- `KeyPackageSignature` (56) its signature, `InitKeySame` (57) both its keys are one, `BadKey` (36) a key isn't fit.
-- The lifetime of its leaf isn't compared with the time, which no call knows.
unfoldable pub key_package_checks : Crypto → KeyPackage → Result Passed ℕ
key_package_checks c p = do
  require 50 (is_of_key_package p.leaf_node.source)
  require 51 (is_signed c [] 0 p.leaf_node)
  require 52 (is_capable c.number p.leaf_node)
  require 55 (p.cipher_suite == c.number)
  require 56 (is_package_signed c p)
  require 57 (not (bytes_eq p.init_key p.leaf_node.encryption_key))
  require 36 (c.key_ok p.init_key && c.key_ok p.leaf_node.encryption_key)

-- the checks of a new leaf, which is made for an update or a commit, in place of an old one, in a group and at a leaf
-- index (RFC 9420, 7.3): `LeafSource` (50) it is made for something else, `LeafSignature` (51) its signature,
-- `LeafCapability` (52) a capability, `LeafIdentityChanged` (53) another identity, `LeafKeySame` (54) the old
-- encryption key
unfoldable pub replacement_checks : Crypto → LeafNode → LeafNode → LeafUse → List ℕ → ℕ → Result Passed ℕ
replacement_checks c new old source group index = do
  require 50 (is_of_source source new.source)
  require 51 (is_signed c group index new)
  require 52 (is_capable c.number new)
  require 53 (has_identity_of old new)
  require 54 (not (bytes_eq new.encryption_key old.encryption_key))
