-- The secrets of the secret tree (RFC 9420, 9) and the keys that its ratchets give (9.1), as functions on lists of
-- bytes.
use Rattle.std.specs.Prelude.{ℕ, zero, suc, Bool, if◌then◌else◌, List, [], ◌∷◌, codes}
use Rattle.std.specs.Int.{w32, to_be_bytes}
use Rattle.mls_kdf.specs.Kdf.{expand_with_label}
use Rattle.mls_treemath.specs.Paths.{Path, leaf_path}
use Rattle.mls_secret_tree.specs.declared.secrets.MessageKey.{MessageKey}

-- ---- node secrets (RFC 9420, 9)

-- tree_node_[left(N)]_secret, or tree_node_[right(N)]_secret, from tree_node_[N]_secret (RFC 9420, 9)
unfoldable pub child_secret : Bool → List ℕ → List ℕ
child_secret to_right secret =
    expand_with_label secret (codes "tree") (if to_right then codes "right" else codes "left") 32

-- the secret of the node at the end of a way down from a node with this secret (RFC 9420, 9)
unfoldable pub node_secret : List ℕ → Path → List ℕ
node_secret secret [] = secret
node_secret secret (side ∷ way) = node_secret (child_secret side secret) way

-- application_ratchet_secret_[N]_[0], from tree_node_[N]_secret of a leaf (RFC 9420, 9)
unfoldable pub application_secret : List ℕ → List ℕ
application_secret secret = expand_with_label secret (codes "application") [] 32

-- ---- keys of a ratchet (RFC 9420, 9.1)

-- DeriveTreeSecret: secret, label, generation, length (RFC 9420, 9.1)
unfoldable pub derive_tree_secret : List ℕ → List ℕ → ℕ → ℕ → List ℕ
derive_tree_secret secret label generation length =
    expand_with_label secret label (to_be_bytes w32 generation) length

-- ratchet_key and ratchet_nonce of a generation, from its ratchet_secret (RFC 9420, 9.1): AEAD.Nk is 16 bytes, AEAD.Nn
-- 12
unfoldable pub message_key : List ℕ → ℕ → MessageKey
message_key secret generation = record {
  key = derive_tree_secret secret (codes "key") generation 16;
  nonce = derive_tree_secret secret (codes "nonce") generation 12;
}

-- ratchet_secret of the next generation, from that of this generation (RFC 9420, 9.1)
unfoldable pub next_ratchet_secret : List ℕ → ℕ → List ℕ
next_ratchet_secret secret generation = derive_tree_secret secret (codes "secret") generation 32

-- ratchet_secret of a generation, from the first (RFC 9420, 9.1)
unfoldable pub ratchet_secret : List ℕ → ℕ → List ℕ
ratchet_secret first zero = first
ratchet_secret first (suc generation) =
    next_ratchet_secret (ratchet_secret first generation) generation

-- ---- keys of a leaf

-- the key of a generation of the leaf's application ratchet, from the leaf's node secret (RFC 9420, 9 and 9.1)
unfoldable pub leaf_key : List ℕ → ℕ → MessageKey
leaf_key secret generation =
    message_key (ratchet_secret (application_secret secret) generation) generation

-- the key for application data of a leaf in a generation, from the encryption secret and the tree's height (RFC 9420, 9
-- and 9.1)
unfoldable pub application_key : List ℕ → ℕ → ℕ → ℕ → MessageKey
application_key encryption_secret height leaf generation =
    leaf_key (node_secret encryption_secret (leaf_path height leaf)) generation
