-- The laws of what a commit makes of a public state.
use Rattle.std.specs.Prelude.{◌≡◌, ◌≢◌, ℕ, ◌≤◌, false, List, length, Some, IsSome, Ok}
use Rattle.std.specs.List.{AllByRecursion, zip}
use Rattle.mls_wire.specs.Checks.{passed}
use Rattle.mls_leaf.specs.declared.leaf.LeafNode.{LeafNode}
use Rattle.mls_leaf.specs.declared.key_package.KeyPackage.{KeyPackage}
use Rattle.mls_types.specs.declared.commit.Commit.{Commit}
use Rattle.mls_types.specs.declared.content.FramedContent.{FramedContent}
use Rattle.mls_suite.specs.Crypto.{Crypto}
use Rattle.mls_tree_model.specs.Term.{Term, width, leaf_of}
use Rattle.mls_tree_model.specs.Sets.{has}
use Rattle.mls_tree_model.specs.Way.{way}
use Rattle.mls_tree_model.specs.Edits.{put}
use Rattle.mls_tree_model.specs.Hashes.{tree_hash}
use Rattle.mls_tree_model.specs.Good.{IsGood, IsSound}
use Rattle.mls_tree.specs.Tree.{max_leaves}
use Rattle.mls_tree.specs.Rules.{rules_of}
use Rattle.mls_treekem_model.specs.Join.{AllList}
use Rattle.mls_treekem_model.specs.Tame.{TameEdits}
use Rattle.mls_model.specs.PublicState.{PublicState, Used}
use Rattle.mls_model.specs.Proposals.{proposal_checks, updates, updated_leaves, removed_leaves, adds}
use Rattle.mls_model.specs.Commit.{Edits, Change, apply_proposals, change_of_commit}

-- ---- a good tree

-- the tree of a public state is good
abbrev pub HasGood : Crypto → PublicState → Term → Type 0
HasGood c p t = IsGood (rules_of c p.context.group_id) t

-- a proposal that a commit names by reference has passed its checks: the commit's own checks are of the others alone
abbrev pub HasPassed : Crypto → PublicState → Used → Type 0
HasPassed c p u = u.is_full ≡ false → proposal_checks c p u.sender u.proposal ≡ Ok passed

abbrev pub AllHavePassed : Crypto → PublicState → List Used → Type 0
AllHavePassed c p used = AllByRecursion (HasPassed c p) used

-- a sound tree is good after the edits of a commit, where a member commits
abbrev pub EditsSound : Type 0
EditsSound = (c : Crypto) (p : PublicState) (committer : ℕ) (used : List Used) (e : Edits) →
    IsSound (rules_of c p.context.group_id) p.tree → AllHavePassed c p used → IsSome (leaf_of p.tree committer) →
    apply_proposals c p committer used ≡ Ok e → HasGood c p e.tree

abbrev pub EditsGood : Type 0
EditsGood = (c : Crypto) (p : PublicState) (committer : ℕ) (used : List Used) (e : Edits) → HasGood c p p.tree →
    AllHavePassed c p used → IsSome (leaf_of p.tree committer) → apply_proposals c p committer used ≡ Ok e →
    HasGood c p e.tree

abbrev pub EditsWithin : Type 0
EditsWithin = (c : Crypto) (p : PublicState) (committer : ℕ) (used : List Used) (e : Edits) → HasGood c p p.tree →
    AllHavePassed c p used → IsSome (leaf_of p.tree committer) → apply_proposals c p committer used ≡ Ok e →
    width e.tree ≤ max_leaves

-- a good tree is good after the whole commit
abbrev pub GoodNext : Type 0
GoodNext = (c : Crypto) (p : PublicState) (committer : ℕ) (used : List Used) (commit : Commit) (said : FramedContent)
    (signature : List ℕ) (change : Change) →
    HasGood c p p.tree → AllHavePassed c p used → IsSome (leaf_of p.tree committer) →
    change_of_commit c p committer used commit said signature ≡ Ok change → HasGood c p change.tree

abbrev pub ContextOfTree : Type 0
ContextOfTree = (c : Crypto) (p : PublicState) (committer : ℕ) (used : List Used) (commit : Commit)
    (said : FramedContent) (signature : List ℕ) (change : Change) →
    change_of_commit c p committer used commit said signature ≡ Ok change →
    (change.context.tree_hash ≡ tree_hash 0 change.tree) × (change.context.group_id ≡ p.context.group_id)
    × (change.context.cipher_suite ≡ p.context.cipher_suite)

-- ---- leaves of the new tree

-- the committer has a leaf in the new tree with its old signature key, and all others have theirs of the tree after the
-- edits
pub record HasLeaves (committer : ℕ) (p : PublicState) (change : Change) : Type 0 where
  pub before : LeafNode
  pub was : leaf_of p.tree committer ≡ Some before
  pub in_edits : leaf_of change.edits.tree committer ≡ Some before
  pub after : LeafNode
  pub is : leaf_of change.tree committer ≡ Some after
  pub signature : after.signature_key ≡ before.signature_key
  pub others : (j : ℕ) → j ≢ committer → leaf_of change.tree j ≡ leaf_of change.edits.tree j
  pub width : width change.tree ≡ width change.edits.tree

abbrev pub LeavesNext : Type 0
LeavesNext = (c : Crypto) (p : PublicState) (committer : ℕ) (used : List Used) (commit : Commit) (said : FramedContent)
    (signature : List ℕ) (change : Change) →
    IsSome (leaf_of p.tree committer) → change_of_commit c p committer used commit said signature ≡ Ok change →
    HasLeaves committer p change

-- a leaf is there with its old signature key
pub record KeepsSignature (j : ℕ) (x : LeafNode) (t : Term) : Type 0 where
  pub after : LeafNode
  pub is : leaf_of t j ≡ Some after
  pub signature : after.signature_key ≡ x.signature_key

abbrev pub SignaturesNext : Type 0
SignaturesNext = (c : Crypto) (p : PublicState) (committer : ℕ) (used : List Used) (commit : Commit)
    (said : FramedContent) (signature : List ℕ) (change : Change) (j : ℕ) (x : LeafNode) →
    AllHavePassed c p used → IsSome (leaf_of p.tree committer) →
    change_of_commit c p committer used commit said signature ≡ Ok change → leaf_of p.tree j ≡ Some x →
    has (removed_leaves used) j ≡ false → KeepsSignature j x change.tree

-- ---- members that stay

-- a member that a commit neither updates nor removes follows its edits and keeps its leaf, and isn't added
pub record IsUntouched (j : ℕ) (t : Term) (e : Edits) : Type 0 where
  pub follows : TameEdits j t e.tree
  pub leaf : leaf_of e.tree j ≡ leaf_of t j
  pub old : has e.added j ≡ false

abbrev pub EditsFollow : Type 0
EditsFollow = (c : Crypto) (p : PublicState) (committer : ℕ) (used : List Used) (e : Edits) (j : ℕ) →
    apply_proposals c p committer used ≡ Ok e → IsSome (leaf_of p.tree j) → has (updated_leaves used) j ≡ false →
    has (removed_leaves used) j ≡ false → IsUntouched j p.tree e

-- the committer follows its edits, keeps its leaf and isn't added
abbrev pub EditsFollowCommitter : Type 0
EditsFollowCommitter = (c : Crypto) (p : PublicState) (committer : ℕ) (used : List Used) (e : Edits) →
    apply_proposals c p committer used ≡ Ok e → IsSome (leaf_of p.tree committer) → IsUntouched committer p.tree e

-- a member that a commit updates follows the edits from its own update on, has the new leaf, and isn't added
pub record IsRenewed (t : Term) (e : Edits) (u : ℕ × LeafNode) : Type 0 where
  pub follows : TameEdits u.0 (put 0 t u.0 (Some u.1)) e.tree
  pub leaf : leaf_of e.tree u.0 ≡ Some u.1
  pub old : has e.added u.0 ≡ false

abbrev pub EditsRenew : Type 0
EditsRenew = (c : Crypto) (p : PublicState) (committer : ℕ) (used : List Used) (e : Edits) →
    apply_proposals c p committer used ≡ Ok e → AllByRecursion (IsRenewed p.tree e) (updates used)

-- ---- members that are added

-- an added member has its KeyPackage's leaf, each parent over it lists it, and it isn't the committer
pub record IsJoiner (committer : ℕ) (e : Edits) (k : KeyPackage × ℕ) : Type 0 where
  pub leaf : leaf_of e.tree k.1 ≡ Some k.0.leaf_node
  pub listed : AllList k.1 (way 0 e.tree k.1)
  pub other : k.1 ≢ committer

abbrev pub EditsAdd : Type 0
EditsAdd = (c : Crypto) (p : PublicState) (committer : ℕ) (used : List Used) (e : Edits) →
    IsSome (leaf_of p.tree committer) → apply_proposals c p committer used ≡ Ok e →
    AllByRecursion (IsJoiner committer e) (zip (adds used) e.added)

abbrev pub AddsCounted : Type 0
AddsCounted = (c : Crypto) (p : PublicState) (committer : ℕ) (used : List Used) (e : Edits) →
    apply_proposals c p committer used ≡ Ok e → length e.added ≡ length (adds used)
