-- What is asked of one leaf (RFC 9420, 7.3).
use Rattle.std.specs.Prelude.{ℕ, ◌==◌, Bool, true, false, ◌&&◌, List, codes}
use Rattle.std.specs.List.{list_any}
use Rattle.std.specs.Str.{bytes_eq}
use Rattle.mls_leaf.specs.declared.leaf.LeafNode.{LeafNode}
use Rattle.mls_leaf.specs.declared.leaf.LeafSource.{LeafSource}
use Rattle.mls_leaf.specs.declared.leaf.LeafSource.TheVariants.{KeyPackage as by_key_package, Update as by_update, Commit as by_commit}
use Rattle.mls_leaf.specs.Inputs.{leaf_node_tbs}
use Rattle.mls_suite.specs.Crypto.{Crypto}
use Rattle.mls_suite.specs.Labels.{verify_with_label}
use Rattle.mls_checks.specs.declared.checks.LeafUse.{LeafUse}
use Rattle.mls_checks.specs.declared.checks.LeafUse.TheVariants.{Update, Commit}

-- whether the leaf's signature verifies by its own signature key, in a group and at a leaf index (RFC 9420, 7.2); for a
-- leaf of a key package neither group nor index is signed
unfoldable pub is_signed : Crypto → List ℕ → ℕ → LeafNode → Bool
is_signed c group index v = verify_with_label c v.signature_key (codes "LeafNodeTBS") (leaf_node_tbs v group index) v.signature

-- whether a list of the capabilities has this entry (RFC 9420, 7.2)
abbrev pub has_entry : List ℕ → ℕ → Bool
has_entry entries x = list_any (λ y. y == x) entries

-- whether the leaf lists version 1 (mls10), the suite and credential type 1 (basic), which is all that a group of this
-- project needs (RFC 9420, 7.2 and 7.3). The standard asks a new member to list the types of the group's extensions too
-- (13.4); here these are for private use, and no leaf has to list them.
unfoldable pub is_capable : ℕ → LeafNode → Bool
is_capable suite v =
    has_entry v.capabilities.versions 1 && has_entry v.capabilities.cipher_suites suite
    && has_entry v.capabilities.credentials 1

-- whether the leaf was made for a key package (RFC 9420, 7.2)
abbrev pub is_of_key_package : LeafSource → Bool
is_of_key_package (by_key_package before after) = true
is_of_key_package by_update = false
is_of_key_package (by_commit hash) = false

-- whether the leaf was made for an update, or for a commit (RFC 9420, 7.2)
abbrev pub is_of_source : LeafUse → LeafSource → Bool
is_of_source Update (by_key_package before after) = false
is_of_source Update by_update = true
is_of_source Update (by_commit hash) = false
is_of_source Commit (by_key_package before after) = false
is_of_source Commit by_update = false
is_of_source Commit (by_commit hash) = true

-- whether both leaves have one signature key and one credential, which this project asks; the standard leaves it to an
-- application what may follow a credential (RFC 9420, 5.3.1)
unfoldable pub has_identity_of : LeafNode → LeafNode → Bool
has_identity_of old new =
    bytes_eq new.signature_key old.signature_key && bytes_eq new.credential.identity old.credential.identity
