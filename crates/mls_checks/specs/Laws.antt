-- The laws of the checks of a leaf and of a key package.
use Rattle.std.specs.Prelude.{◌≡◌, ℕ, true, false, List, [], Ok}
use Rattle.std.specs.Str.{bytes_eq}
use Rattle.mls_wire.specs.Checks.{passed}
use Rattle.mls_leaf.specs.declared.leaf.LeafNode.{LeafNode}
use Rattle.mls_leaf.specs.declared.key_package.KeyPackage.{KeyPackage}
use Rattle.mls_suite.specs.Crypto.{Crypto}
use Rattle.mls_checks.specs.declared.checks.LeafUse.{LeafUse}
use Rattle.mls_checks.specs.Leaf.{is_signed, is_capable, is_of_key_package, is_of_source}
use Rattle.mls_checks.specs.Checks.{key_package_checks, replacement_checks, is_package_signed}

-- a key package's leaf is signed at any place of any group, or at none (RFC 9420, 7.2)
abbrev pub SignedAnywhere : Type 0
SignedAnywhere = (c : Crypto) (x : LeafNode) → is_of_key_package x.source ≡ true → (group other : List ℕ) (i j : ℕ) → is_signed c group i x ≡ is_signed c other j x

-- what the checks of a key package found
pub record IsPackage (c : Crypto) (k : KeyPackage) : Type 0 where
  pub source : is_of_key_package k.leaf_node.source ≡ true
  pub signed : is_signed c [] 0 k.leaf_node ≡ true
  pub capable : is_capable c.number k.leaf_node ≡ true
  pub suite : k.cipher_suite ≡ c.number
  pub whole : is_package_signed c k ≡ true
  pub differs : bytes_eq k.init_key k.leaf_node.encryption_key ≡ false
  pub init_fit : c.key_ok k.init_key ≡ true
  pub fit : c.key_ok k.leaf_node.encryption_key ≡ true

abbrev pub PackageSteps : Type 0
PackageSteps = (c : Crypto) (k : KeyPackage) → key_package_checks c k ≡ Ok passed → IsPackage c k

-- what the checks of a leaf that replaces another found
pub record IsReplacement (c : Crypto) (new old : LeafNode) (source : LeafUse) (group : List ℕ) (i : ℕ) : Type 0 where
  pub source_is : is_of_source source new.source ≡ true
  pub signed : is_signed c group i new ≡ true
  pub capable : is_capable c.number new ≡ true
  pub signature : new.signature_key ≡ old.signature_key
  pub identity : new.credential.identity ≡ old.credential.identity
  pub differs : bytes_eq new.encryption_key old.encryption_key ≡ false

abbrev pub ReplacedSteps : Type 0
ReplacedSteps = (c : Crypto) (new old : LeafNode) (source : LeafUse) (group : List ℕ) (i : ℕ) → replacement_checks c new old source group i ≡ Ok passed → IsReplacement c new old source group i
