-- Leaves that are made are short.
use Rattle.std.proofs.Common.{◌≡◌, ℕ, ◌+◌, ◌<◌, ◌≤◌, ◌^◌, List, length, ap, refl, arith, lit<}
use Rattle.std.specs.Int.{w8, to_be_bytes}
use Rattle.std.proofs.lemmas.List.{length-append}
use Rattle.mls_wire.specs.Reading.{header, opaque, uint}
use Rattle.mls_leaf.specs.Inputs.{leaf_content, leaf_place, leaf_node_tbs, LeafPlaceFits, LeafNodeTbsFits}
use Rattle.mls_leaf.proofs.InputLaws.{leaf_node-spelled}
use Rattle.mls_leaf.specs.Leaf.{credential, capabilities, leaf_source, leaf_node}
use Rattle.mls_leaf.specs.declared.leaf.Credential.{Credential}
use Rattle.mls_leaf.specs.declared.leaf.LeafNode.{LeafNode}
use Rattle.mls_leaf.specs.declared.leaf.LeafSource.{LeafSource}
use Rattle.mls_leaf.specs.declared.leaf.LeafSource.TheVariants as leaf_node_source
use Rattle.mls_suite.specs.Crypto.{Crypto, Lawful}
use Rattle.mls_model.specs.Candidate.{made_capabilities, unsigned_leaf}
use Rattle.mls_model.proofs.CandidateLaws.{capabilities_fit}
use Rattle.mls_public_group.proofs.Lengths.{opaque_most}
use Rattle.mls_public_group.specs.Short.{IsBelow}
use Rattle.mls_candidate.specs.Short.{IsShortSource, IsShortLeaf}
use Rattle.mls_candidate.proofs.LengthLaws.{content_most, content_least, place_most}

-- ---- what is signed

place_fits : (source : LeafSource) (group : List ℕ) → length group < 2 ^ 28 → LeafPlaceFits source group
place_fits (leaf_node_source.KeyPackage before after) group lt = tt
place_fits leaf_node_source.Update group lt = omega arith
place_fits (leaf_node_source.Commit hash) group lt = omega arith

pub tbs_fits : (v : LeafNode) (group : List ℕ) → IsShortLeaf v → length group < 2 ^ 28 → LeafNodeTbsFits v group
unfolding credential
tbs_fits v group s lt =
    let key = s.key in
    let owner = s.owner in
    ((omega arith, (omega arith, (omega arith, (s.able, s.source)))), place_fits v.source group lt)

pub tbs_short : (v : LeafNode) (group : List ℕ) (index : ℕ) → IsShortLeaf v → length group < 2 ^ 28 → length (leaf_node_tbs v group index) < 2 ^ 30
unfolding leaf_node_tbs
tbs_short v group index s lt =
    omega (arith, length-append (leaf_content v) (leaf_place v.source group index), place_most v.source group index, content_most v, s.key, s.owner, s.able_short, s.source_short)

-- with its signature
pub signed_below : (v : LeafNode) (signature : List ℕ) → IsShortLeaf v → length signature < 2 ^ 16 → IsBelow (2 ^ 28) leaf_node (record v { signature = signature })
unfolding leaf_node credential
signed_below v signature s lt =
    let w : LeafNode = record v { signature = signature } in
    let key = s.key in
    let owner = s.owner in
    record {
      fits = (omega arith, (omega arith, (omega arith, (s.able, (s.source, omega arith)))));
      below = omega (arith, ap length (leaf_node-spelled w), length-append (leaf_content w) (opaque signature), opaque_most signature, content_most w, s.key, s.owner, s.able_short, s.source_short);
    }

-- ---- what it is made of

capabilities_length : (c : Crypto) → length (capabilities.spell (made_capabilities c)) ≡ 11
unfolding capabilities made_capabilities uint header
capabilities_length c = refl

lifetime_length : (before after : ℕ) → length (leaf_source.spell (leaf_node_source.KeyPackage before after)) < 2 ^ 16
unfolding leaf_source uint
lifetime_length before after = omega arith

hash_length : (hash : List ℕ) → length hash ≤ 32 → length (leaf_source.spell (leaf_node_source.Commit hash)) < 2 ^ 16
unfolding leaf_source uint
hash_length hash le = omega (arith, length-append (to_be_bytes w8 3) (opaque hash), opaque_most hash)

update_length : length (leaf_source.spell leaf_node_source.Update) < 2 ^ 16
unfolding leaf_source uint
update_length = omega arith

source_length : (source : LeafSource) → IsShortSource source → length (leaf_source.spell source) < 2 ^ 16
source_length (leaf_node_source.KeyPackage before after) s = lifetime_length before after
source_length leaf_node_source.Update s = update_length
source_length (leaf_node_source.Commit hash) s = hash_length hash s

pub update_fits : leaf_source.Fits leaf_node_source.Update
unfolding leaf_source
update_fits = (lit< tt, tt)

hash_fits : (hash : List ℕ) → length hash ≤ 32 → leaf_source.Fits (leaf_node_source.Commit hash)
unfolding leaf_source
hash_fits hash le = (lit< tt, omega arith)

pub lifetime_fits : (before after : ℕ) → before < 2 ^ 64 → after < 2 ^ 64 → leaf_source.Fits (leaf_node_source.KeyPackage before after)
unfolding leaf_source
lifetime_fits before after x y = (lit< tt, (x, y))

-- ---- leaves that are not signed yet

pub unsigned_short : (c : Crypto) → Lawful c → (sk signature_key : List ℕ) (who : Credential) (source : LeafSource) → length signature_key + length who.identity < 2 ^ 27 → leaf_source.Fits source → IsShortSource source →
    IsShortLeaf (unsigned_leaf c (c.public sk) signature_key who source)
unfolding unsigned_leaf
unsigned_short c laws sk signature_key who source owner fits short = record {
  key = laws.public_short sk;
  owner = owner;
  able = capabilities_fit c laws.number_short;
  able_short = omega (arith, capabilities_length c);
  source = fits;
  source_short = source_length source short;
}

-- a leaf's owner is spelled in it
pub owner_in : (v : LeafNode) → length v.signature_key + length v.credential.identity ≤ length (leaf_node.spell v)
owner_in v = omega (arith, ap length (leaf_node-spelled v), length-append (leaf_content v) (opaque v.signature), content_least v)

-- one that has the owner of a shorter one
pub renewed_short : (c : Crypto) → Lawful c → (old made : LeafNode) (sk key own : List ℕ) (who : Credential) (source : LeafSource) → made ≡ unsigned_leaf c key own who source → key ≡ c.public sk → own ≡ old.signature_key →
    who ≡ old.credential → IsBelow (2 ^ 27) leaf_node old → leaf_source.Fits source → IsShortSource source → IsShortLeaf made
renewed_short c laws old made sk key own who source e1 e2 e3 e4 b fits short =
    let owner : length old.signature_key + length old.credential.identity < 2 ^ 27 = omega (arith, b.below, owner_in old) in
    rw (e1, e2, e3, e4) (unsigned_short c laws sk old.signature_key old.credential source owner fits short)

pub commit_fits : (source : LeafSource) (hash : List ℕ) → source ≡ leaf_node_source.Commit hash → IsShortSource source → leaf_source.Fits source
commit_fits (leaf_node_source.KeyPackage before after) hash e s = absurd cc
commit_fits leaf_node_source.Update hash e s = absurd cc
commit_fits (leaf_node_source.Commit other) hash e s = hash_fits other s
