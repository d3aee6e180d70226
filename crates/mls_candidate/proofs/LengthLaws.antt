-- How long spellings are, from their parts.
use Rattle.std.proofs.Common.{◌≡◌, ℕ, ◌+◌, ◌≤◌, List, [], ◌++◌, length, arith}
use Rattle.std.specs.Int.{w16, w32, to_be_bytes}
use Rattle.std.proofs.lemmas.List.{length-append}
use Rattle.mls_wire.specs.Reading.{opaque, uint}
use Rattle.mls_leaf.specs.Inputs.{leaf_content, leaf_place}
use Rattle.mls_leaf.specs.Leaf.{credential, capabilities, leaf_source}
use Rattle.mls_leaf.specs.declared.leaf.Credential.{Credential}
use Rattle.mls_leaf.specs.declared.leaf.LeafNode.{LeafNode}
use Rattle.mls_leaf.specs.declared.leaf.LeafSource.{LeafSource}
use Rattle.mls_leaf.specs.declared.leaf.LeafSource.TheVariants as leaf_node_source
use Rattle.mls_public_group.proofs.Lengths.{opaque_most, opaque_least}

credential_most : (v : Credential) → length (credential.spell v) ≤ length v.identity + 6
unfolding credential uint
credential_most v = omega (arith, length-append (to_be_bytes w16 1) (opaque v.identity), opaque_most v.identity)

credential_least : (v : Credential) → length v.identity ≤ length (credential.spell v)
unfolding credential uint
credential_least v = omega (arith, length-append (to_be_bytes w16 1) (opaque v.identity), opaque_least v.identity)

six : (a b c d e f : List ℕ) → length (a ++ b ++ c ++ d ++ e ++ f) ≡ length a + length b + length c + length d + length e + length f
six a b c d e f =
    omega (arith, length-append (a ++ b ++ c ++ d ++ e) f, length-append (a ++ b ++ c ++ d) e, length-append (a ++ b ++ c) d, length-append (a ++ b) c, length-append a b)

-- a leaf without its signature
pub content_most : (v : LeafNode) → length (leaf_content v) ≤ length v.encryption_key + (length v.signature_key + length v.credential.identity) + length (capabilities.spell v.capabilities) + length (leaf_source.spell v.source) + 18
unfolding leaf_content
content_most v =
    omega (
      arith,
      six (opaque v.encryption_key) (opaque v.signature_key) (credential.spell v.credential) (capabilities.spell v.capabilities) (leaf_source.spell v.source) (opaque []),
      opaque_most v.encryption_key,
      opaque_most v.signature_key,
      credential_most v.credential,
      opaque_most [],
    )

pub content_least : (v : LeafNode) → length v.signature_key + length v.credential.identity ≤ length (leaf_content v)
unfolding leaf_content
content_least v =
    omega (
      arith,
      six (opaque v.encryption_key) (opaque v.signature_key) (credential.spell v.credential) (capabilities.spell v.capabilities) (leaf_source.spell v.source) (opaque []),
      opaque_least v.signature_key,
      credential_least v.credential,
    )

place_behind : (group : List ℕ) (index : ℕ) → length (opaque group ++ uint w32 index) ≤ length group + 8
unfolding uint
place_behind group index = omega (arith, length-append (opaque group) (to_be_bytes w32 index), opaque_most group)

-- where a leaf stands
pub place_most : (source : LeafSource) (group : List ℕ) (index : ℕ) → length (leaf_place source group index) ≤ length group + 8
place_most (leaf_node_source.KeyPackage before after) group index = omega arith
place_most leaf_node_source.Update group index = place_behind group index
place_most (leaf_node_source.Commit hash) group index = place_behind group index
