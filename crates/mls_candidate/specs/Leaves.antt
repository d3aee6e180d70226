-- Keys, leaves and KeyPackages that are made of seeds.
use Rattle.std.specs.Prelude.{◌≡◌, ℕ, List, Result, IfOk}
use Rattle.mls_leaf.specs.declared.key_package.KeyPackage.{KeyPackage}
use Rattle.mls_leaf.specs.declared.leaf.Credential.{Credential}
use Rattle.mls_leaf.specs.declared.leaf.LeafNode.{LeafNode}
use Rattle.mls_leaf.specs.declared.leaf.LeafSource.{LeafSource}
use Rattle.mls_suite.specs.Crypto.{Crypto}
use Rattle.mls_treekem_model.specs.Seeds.{sign_seed}
use Rattle.mls_model.specs.Candidate.{init_key_of, leaf_key_of, unsigned_leaf, signed_leaf, unsigned_package, signed_package}

-- the public key of the init key that is made of a seed
abbrev pub public_init_key : Crypto → List ℕ → List ℕ
public_init_key c seed = c.public (init_key_of c seed)

-- the public key of the leaf that is made of a seed
abbrev pub public_leaf_key : Crypto → List ℕ → List ℕ
public_leaf_key c seed = c.public (leaf_key_of c seed)

-- a key is the public key of some private one
abbrev pub IsPublicKey : Crypto → List ℕ → Type 0
IsPublicKey c key = (sk : List ℕ) × (key ≡ c.public sk)

-- the leaf is not signed yet, and has these parts (RFC 9420, 7.2)
abbrev pub IsLeafOf : Crypto → List ℕ → List ℕ → Credential → LeafSource → LeafNode → Type 0
IsLeafOf c encryption_key signature_key credential source leaf =
    leaf ≡ unsigned_leaf c encryption_key signature_key credential source

-- a leaf that replaces the old one in a group: it has this encryption key, its signature key and its
-- credential are the old one's, and it is signed (RFC 9420, 7.2)
abbrev pub leaf_with_key : Crypto → List ℕ → List ℕ → ℕ → LeafNode → LeafSource → List ℕ →
    LeafNode
leaf_with_key c signing group i old source key =
    signed_leaf c signing group i (unsigned_leaf c key old.signature_key old.credential source)

-- The leaf that a call answers is the old one renewed, with this encryption key.
abbrev pub RenewsWithKey : {E : Type 0} → Crypto → List ℕ → List ℕ → ℕ → LeafNode → LeafSource →
    List ℕ → Result LeafNode E → Type 0
RenewsWithKey c signing group i old source key result =
    IfOk result (λ leaf. leaf ≡ leaf_with_key c signing group i old source key)

-- the KeyPackage that a candidate of an identity and a seed offers (RFC 9420, 10)
abbrev pub offered_package : Crypto → List ℕ → List ℕ → KeyPackage
offered_package c identity seed =
    signed_package c (sign_seed seed) (unsigned_package c identity seed)
