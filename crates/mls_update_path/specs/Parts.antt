-- A path by the parts of its committer that it is made of, in two steps: the tree with it, and its seals.
use Rattle.std.specs.Prelude.{◌≡◌, ℕ, List, Some, Result, Ok, IfOk}
use Rattle.std.specs.Global.{Vec}
use Rattle.mls_wire.specs.Checks.{Answers, Passed, passed, ◌>>◌}
use Rattle.mls_wire.specs.Reading.{◌>>=◌}
use Rattle.mls_leaf.specs.declared.extension.Extension.{Extension}
use Rattle.mls_leaf.specs.declared.leaf.LeafNode.{LeafNode}
use Rattle.mls_leaf.specs.declared.leaf.LeafSource.TheVariants as leaf_node_source
use Rattle.mls_types.specs.GroupContext.{group_context}
use Rattle.mls_types.specs.declared.group_context.GroupContext.{GroupContext}
use Rattle.mls_suite.specs.Crypto.{Crypto}
use Rattle.mls_checks.specs.Checks.{replacement_checks}
use Rattle.mls_checks.specs.declared.checks.LeafUse.TheVariants as replaced_for
use Rattle.mls_tree_model.specs.Term.{Term}
use Rattle.mls_tree_model.specs.Way.{way, path_length}
use Rattle.mls_tree_model.specs.Merge.{path_parent_hash}
use Rattle.mls_tree.specs.Tree.{Tree, member_at, term}
use Rattle.mls_tree.specs.Paths.{merge_answer}
use Rattle.mls_treekem_model.specs.Keys.{Keys, PrivateKeys, all_keys, keys_on}
use Rattle.mls_treekem_model.specs.Make.{climb_make, made_keys}
use Rattle.mls_treekem_model.specs.Seal.{sealed_path}
use Rattle.mls_treekem_model.specs.Seeds.{path_seed, seal_seed}
use Rattle.mls_treekem_model.specs.Chain.{keys_of_path}
use Rattle.mls_treekem.specs.Secrets.{AreOfChain}
use Rattle.mls_treekem.specs.declared.secrets.PathSecrets.{PathSecrets}
use Rattle.mls_model.specs.PublicState.{PublicState, provisional_context}
use Rattle.mls_model.specs.Commit.{Edits}
use Rattle.mls_model.specs.Candidate.{leaf_key_of, unsigned_leaf, signed_leaf}
use Rattle.mls_model.specs.Make.{MadePath}
use Rattle.mls_update_path.specs.Faults.{number_of}
use Rattle.mls_update_path.specs.declared.error.PathError.{PathError}
use Rattle.mls_update_path.specs.declared.path.Merged.{Merged}

-- the public keys of the committer's path (RFC 9420, 7.5)
abbrev pub path_public_keys : Crypto → ℕ → Term → List ℕ → List (List ℕ)
path_public_keys c i t seed = keys_of_path c t i (path_seed seed)

-- the spelling of the next epoch's context with these extensions and this tree, and as yet the old transcript (RFC 9420,
-- 12.4.1)
abbrev pub provisional_bytes : GroupContext → List Extension → Term → List ℕ
provisional_bytes old list t = group_context.spell (provisional_context old list t)

-- the bytes are that spelling
abbrev pub SpellsProvisional : GroupContext → List Extension → Term → Vec ℕ → Type 0
SpellsProvisional old list t v = v.items ≡ provisional_bytes old list t

-- the path secrets are those of leaf i's path in a tree, made of a seed (RFC 9420, 7.4)
abbrev pub IsChain : Crypto → Term → ℕ → List ℕ → PathSecrets → Type 0
IsChain c t i seed secrets = AreOfChain c (path_seed seed) (path_length 0 t i) secrets

-- the private keys of leaf i with its path in a tree, made of a seed (RFC 9420, 7.4)
abbrev pub private_keys : Crypto → Term → ℕ → List ℕ → Keys
private_keys c t i seed = made_keys c (way 0 t i) (path_seed seed) (leaf_key_of c seed)

-- a member's keys on its way in a tree are those of leaf i's path there
abbrev pub AreKeysOn : Crypto → Term → ℕ → List ℕ → PrivateKeys → Type 0
AreKeysOn c t i seed keys = keys_on t keys ≡ private_keys c t i seed

-- all of a member's keys are those of leaf i's path in a tree
abbrev pub AreAllKeys : Crypto → Term → ℕ → List ℕ → PrivateKeys → Type 0
AreAllKeys c t i seed keys = all_keys keys ≡ private_keys c t i seed

-- the committer's new leaf with a parent hash and an encryption key (RFC 9420, 7.2)
abbrev pub leaf_by_key : Crypto → List ℕ → List ℕ → ℕ → LeafNode → List ℕ → List ℕ →
    LeafNode
leaf_by_key c signing group i old hash key =
    signed_leaf c signing group i
    (unsigned_leaf c key old.signature_key old.credential (leaf_node_source.Commit hash))

-- the committer's new leaf with a parent hash, made of a seed (RFC 9420, 7.2)
abbrev pub leaf_from : Crypto → List ℕ → List ℕ → ℕ → LeafNode → List ℕ → List ℕ → LeafNode
leaf_from c signing group i old hash seed =
    leaf_by_key c signing group i old hash (c.public (leaf_key_of c seed))

-- a leaf is the committer's new one, with some parent hash and some encryption key
abbrev pub IsOwnLeaf : Crypto → List ℕ → List ℕ → ℕ → LeafNode → LeafNode → Type 0
IsOwnLeaf c signing group i old leaf =
    (hash : List ℕ) × ((key : List ℕ) × (leaf ≡ leaf_by_key c signing group i old hash key))

-- the checks that the committer's new leaf passes (RFC 9420, 7.3)
abbrev pub leaf_checks : Crypto → List ℕ → List ℕ → ℕ → LeafNode → List ℕ → List ℕ →
    Result Passed ℕ
leaf_checks c signing group i old hash key =
    replacement_checks c (leaf_by_key c signing group i old hash key) old replaced_for.Commit group i

-- its new leaf, whose parent hash is that of these keys (RFC 9420, 7.2 and 7.9)
unfoldable pub leaf_with : Crypto → List ℕ → List ℕ → ℕ → Term → LeafNode → List ℕ → LeafNode
leaf_with c signing group i t old seed =
    leaf_from c signing group i old (path_parent_hash t i (path_public_keys c i t seed)) seed

-- its new leaf and the tree with its path, where both pass their checks: `LeafSource` (50) to `LeafKeySame` (54),
-- `KeyRepeated` (25), `ParentHashWrong` (24)
unfoldable pub leaf_and_tree_of : Crypto → PublicState → List ℕ → ℕ → Term → List ℕ →
    Result (LeafNode × Term) ℕ
leaf_and_tree_of c p signing i t seed = do
  old ← member_at p.tree i
  let leaf = leaf_with c signing p.context.group_id i t old seed
  replacement_checks c leaf old replaced_for.Commit p.context.group_id i
  tree ← merge_answer t i leaf (path_public_keys c i t seed)
  Ok (leaf, tree)

-- the path, whose secrets are sealed under the context with these extensions and that tree (RFC 9420, 12.4.1)
unfoldable pub path_of : Crypto → PublicState → List ℕ → ℕ → List Extension → Edits → List ℕ →
    Result MadePath ℕ
path_of c p signing i list e seed = do
  x ← leaf_and_tree_of c p signing i e.tree seed
  nodes ← sealed_path c (provisional_bytes p.context list x.1) e.added (seal_seed seed) e.tree i
      (path_seed seed)
  Ok (record {
    path = Some (record { leaf_node = x.0; nodes = nodes });
    climb = climb_make c (way 0 e.tree i) (path_seed seed) (leaf_key_of c seed);
  })

-- The leaf that a call answers is the committer's new one with a parent hash and an encryption key.
abbrev pub MakesLeaf : {E : Type 0} → Crypto → List ℕ → PublicState → ℕ → LeafNode → List ℕ →
    List ℕ → Result LeafNode E → Type 0
MakesLeaf c signing p i old hash key result =
    IfOk result (λ leaf. leaf ≡ leaf_by_key c signing p.context.group_id i old hash key)

-- The committer's new leaf passes its checks, or the call refuses with the number of the first that fails, or with
-- `OutOfMemory`.
abbrev pub ChecksLeaf : Crypto → List ℕ → PublicState → ℕ → LeafNode → List ℕ → List ℕ →
    Result LeafNode PathError → Type 0
ChecksLeaf c signing p i old hash key result =
    Answers (λ _. passed) number_of (leaf_checks c signing p.context.group_id i old hash key)
    result

-- The call merges a leaf and keys into a tree, or refuses with the number of what fails, or with `OutOfMemory`
-- (RFC 9420, 7.5).
abbrev pub MergesPath : Term → ℕ → LeafNode → List (List ℕ) → Result Merged PathError → Type 0
MergesPath t i leaf keys result =
    Answers (λ x. term x.tree) number_of (merge_answer t i leaf keys) result

-- The call answers the committer's new leaf and the tree with its path, or refuses with the number of the first check
-- that fails, or with `OutOfMemory`.
abbrev pub MergesNewPath : Crypto → PublicState → List ℕ → ℕ → Tree → List ℕ →
    Result Merged PathError → Type 0
MergesNewPath c p signing i edited seed result =
    Answers (λ x. (x.leaf, term x.tree)) number_of
    (leaf_and_tree_of c p signing i (term edited) seed) result
