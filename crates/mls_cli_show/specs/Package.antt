-- The lines of leaves and KeyPackages. Each name stands behind a prefix, which is `add.` in a
-- proposal to add, and else empty.
use Rattle.std.specs.Prelude.{ℕ, List, [], ◌∷◌, ◌++◌, codes}
use Rattle.mls_leaf.specs.declared.leaf.LeafSource.{LeafSource}
use Rattle.mls_leaf.specs.declared.leaf.LeafSource.TheVariants as source
use Rattle.mls_leaf.specs.declared.leaf.Capabilities.{Capabilities}
use Rattle.mls_leaf.specs.declared.leaf.LeafNode.{LeafNode}
use Rattle.mls_leaf.specs.declared.key_package.KeyPackage.{KeyPackage}
use Rattle.mls_cli_text.specs.Text.{Entry, entry, bytes, numbers, digits, number, word}

-- RFC 9420, section 7.2: where a leaf comes from, and what goes with that
abbrev pub source_entries : List ℕ → LeafSource → List Entry
source_entries prefix (source.KeyPackage not_before not_after) =
    entry prefix (codes "leaf.source") (word (codes "key_package"))
    ∷ entry prefix (codes "leaf.not_before") (number not_before)
    ∷ entry prefix (codes "leaf.not_after") (number not_after) ∷ []
source_entries prefix source.Update =
    entry prefix (codes "leaf.source") (word (codes "update")) ∷ []
source_entries prefix (source.Commit parent_hash) =
    entry prefix (codes "leaf.source") (word (codes "commit"))
    ∷ entry prefix (codes "leaf.parent_hash") (bytes parent_hash) ∷ []

-- RFC 9420, section 7.2: what a leaf's client supports
abbrev pub capabilities_entries : List ℕ → Capabilities → List Entry
capabilities_entries prefix v =
    entry prefix (codes "leaf.versions") (numbers v.versions)
    ∷ entry prefix (codes "leaf.cipher_suites") (numbers v.cipher_suites)
    ∷ entry prefix (codes "leaf.extensions") (numbers v.extensions)
    ∷ entry prefix (codes "leaf.proposals") (numbers v.proposals)
    ∷ entry prefix (codes "leaf.credentials") (numbers v.credentials) ∷ []

-- RFC 9420, sections 5.3 and 7.2: a leaf
unfoldable pub leaf_entries : List ℕ → LeafNode → List Entry
leaf_entries prefix v =
    entry prefix (codes "leaf.encryption_key") (bytes v.encryption_key)
    ∷ entry prefix (codes "leaf.signature_key") (bytes v.signature_key)
    ∷ entry prefix (codes "leaf.identity") (bytes v.credential.identity)
    ∷ (capabilities_entries prefix v.capabilities
    ++ (source_entries prefix v.source
    ++ entry prefix (codes "leaf.signature") (bytes v.signature) ∷ []))

-- RFC 9420, section 10: a KeyPackage
unfoldable pub key_package_entries : List ℕ → KeyPackage → List Entry
key_package_entries prefix v =
    entry prefix (codes "cipher_suite") (digits v.cipher_suite)
    ∷ entry prefix (codes "init_key") (bytes v.init_key)
    ∷ (leaf_entries prefix v.leaf_node
    ++ entry prefix (codes "signature") (bytes v.signature) ∷ [])
