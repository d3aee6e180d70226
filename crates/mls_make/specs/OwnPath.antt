-- What a member has of the path that it makes.
use Rattle.std.specs.Prelude.{◌≡◌, ℕ, ◌^◌, Bool, List, Option, Some, None, Result, Ok, IfSome}
use Rattle.mls_wire.specs.Checks.{Answers}
use Rattle.mls_leaf.specs.Leaf.{leaf_node}
use Rattle.mls_leaf.specs.declared.extension.Extension.{Extension}
use Rattle.mls_types.specs.declared.update_path.UpdatePath.{UpdatePath}
use Rattle.mls_suite.specs.Crypto.{Crypto}
use Rattle.mls_tree_model.specs.Term.{Term}
use Rattle.mls_tree_model.specs.Way.{path_length}
use Rattle.mls_tree.specs.Tree.{term}
use Rattle.mls_treekem_model.specs.Keys.{PrivateKeys, all_keys}
use Rattle.mls_treekem_model.specs.Seeds.{path_seed}
use Rattle.mls_treekem.specs.Secrets.{AreOfChain}
use Rattle.mls_treekem.specs.declared.secrets.PathSecrets.{PathSecrets}
use Rattle.mls_model.specs.PublicState.{Used}
use Rattle.mls_model.specs.Commit.{Edits, apply_proposals, apply_path_if}
use Rattle.mls_model.specs.Make.{MadePath, no_path, path_if_needed, path_with}
use Rattle.mls_model.specs.Member.{Member}
use Rattle.mls_public_group.specs.Short.{AreBelow, HasLeavesBelow, IsBelow}
use Rattle.mls_message.specs.Speaks.{Speaks}
use Rattle.mls_message.specs.declared.speaker.Speaker.{Speaker}
use Rattle.mls_make.specs.Faults.{number_of}
use Rattle.mls_make.specs.declared.error.MakeError.{MakeError}
use Rattle.mls_make.specs.declared.own_path.OwnPath.{OwnPath}

-- a path or none, with the commit secret and the committer's keys
abbrev pub made_own_path : OwnPath → MadePath
made_own_path o =
    record { path = o.path; climb = record { secret = o.commit_secret; keys = all_keys o.keys } }

-- the secrets of a path of leaf i are there exactly when the path is, and are those of the seed's chain
abbrev pub HaveSecrets : Crypto → ℕ → Edits → List ℕ → Option UpdatePath → Option PathSecrets →
    Type 0
HaveSecrets c i e seed None None = Unit {0}
HaveSecrets c i e seed None (Some s) = ⊥
HaveSecrets c i e seed (Some path) None = ⊥
HaveSecrets c i e seed (Some path) (Some s) =
    AreOfChain c (path_seed seed) (path_length 0 e.tree i) s

-- what a member made of a path for a commit with these edits, its secrets and the committer's keys
pub record IsOwn (c : Crypto) (m : Member) (used : List Used) (e : Edits) (wants : Bool)
    (seed : List ℕ) (made : MadePath) (secrets : Option PathSecrets) (keys : PrivateKeys)
    : Type 0 where
  pub edits : apply_proposals c m.public m.keys.leaf used ≡ Ok e
  pub path : path_if_needed c m e used wants seed ≡ Ok made
  pub sends : HaveSecrets c m.keys.leaf e seed made.path secrets
  pub keys_are : made.climb.keys ≡ all_keys keys
  pub leaf : keys.leaf ≡ m.keys.leaf

-- what a member made of a path, all of it together, with the tree that each member makes of the path
pub record IsOwnPath (c : Crypto) (m : Member) (used : List Used) (e : Edits) (wants : Bool)
    (seed : List ℕ) (o : OwnPath) : Type 0 where
  pub own : IsOwn c m used e wants seed (made_own_path o) o.secrets o.keys
  pub merges : apply_path_if c m.public m.keys.leaf e o.path ≡ Ok (term o.tree)

-- it is what a member with these keys has without a path
abbrev pub IsNoPath : PrivateKeys → Edits → OwnPath → Type 0
IsNoPath keys e o = (m : Member) → m.keys ≡ keys → made_own_path o ≡ no_path m e

-- The call makes a path of the speaker for a commit with these extensions, where one is wanted or required, or refuses
-- with the number of the first check that fails, or with `OutOfMemory`.
abbrev pub MakesPath : Crypto → Speaker → PrivateKeys → List Extension → Edits → List Used → Bool →
    List ℕ → Result OwnPath MakeError → Type 0
MakesPath c s keys carried e used wants seed result =
    (m : Member) → Speaks m s → m.keys ≡ keys →
    Answers made_own_path number_of (path_with c m carried e used wants seed) result

-- the keys are of the speaker's leaf, if those before were
abbrev pub KeepsLeaf : Speaker → PrivateKeys → OwnPath → Type 0
KeepsLeaf s keys o = keys.leaf ≡ s.leaf → o.keys.leaf ≡ s.leaf

-- the secrets are those of the speaker's path, where there is one
abbrev pub HasSecrets : Crypto → Speaker → Edits → List ℕ → OwnPath → Type 0
HasSecrets c s e seed o = HaveSecrets c s.leaf e seed o.path o.secrets

-- each member merges the speaker's path so
abbrev pub IsMerged : Crypto → Speaker → Edits → OwnPath → Type 0
IsMerged c s e o = apply_path_if c s.group.now s.leaf e o.path ≡ Ok (term o.tree)

-- the leaves of the tree with the path are below each bound that those of this tree and the path's leaf are below
abbrev pub StaysShort : Term → OwnPath → Type 0
StaysShort t o =
    (n : ℕ) → HasLeavesBelow n t → IfSome o.path (λ p. IsBelow n leaf_node p.leaf_node) →
    HasLeavesBelow n (term o.tree)

-- where the proposals and the path's leaf are as short as those of a group, the leaves of the tree with the path are
abbrev pub IsShortWith : List Used → OwnPath → Type 0
IsShortWith used o =
    AreBelow (2 ^ 27) used → IfSome o.path (λ p. IsBelow (2 ^ 27) leaf_node p.leaf_node) →
    HasLeavesBelow (2 ^ 27) (term o.tree)
