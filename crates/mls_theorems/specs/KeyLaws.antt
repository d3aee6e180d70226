-- The laws of a member's private keys over a whole commit, and of the proposals that it keeps.
use Rattle.std.specs.Prelude.{◌≡◌, ◌≢◌, ℕ, false, List, map, slice_get, Option, Some, None, IsSome, Ok}
use Rattle.std.specs.List.{AllByRecursion}
use Rattle.mls_leaf.specs.declared.leaf.LeafNode.{LeafNode}
use Rattle.mls_types.specs.declared.commit.Commit.{Commit}
use Rattle.mls_types.specs.declared.commit.ProposalOrRef.{ProposalOrRef}
use Rattle.mls_types.specs.declared.content.FramedContent.{FramedContent}
use Rattle.mls_suite.specs.Crypto.{Crypto}
use Rattle.mls_tree_model.specs.Sets.{has}
use Rattle.mls_tree_model.specs.Term.{leaf_of}
use Rattle.mls_treekem_model.specs.Keys.{PrivateKeys, all_keys, HasExact}
use Rattle.mls_treekem_model.specs.Make.{Climb}
use Rattle.mls_model.specs.PublicState.{PublicState, Used}
use Rattle.mls_model.specs.Proposals.{updates, removed_leaves}
use Rattle.mls_model.specs.Commit.{Edits, Change, apply_proposals, change_of_commit}
use Rattle.mls_model.specs.Member.{Member, find_proposals, named_proposals, first_own_key, with_keys, follow_edits}
use Rattle.mls_model.specs.Verdict.{open_path_secret}
use Rattle.mls_model.specs.MemberInvariant.{IsGoodKept}
use Rattle.mls_theorems.specs.CommitLaws.{AllHavePassed}

-- an update of leaf j whose new leaf has the public key of this private key
pub record IsOwnUpdate (c : Crypto) (j : ℕ) (us : List (ℕ × LeafNode)) (key : List ℕ) : Type 0 where
  pub place : ℕ
  pub leaf : LeafNode
  pub at : slice_get us place ≡ Some (j, leaf)
  pub fits : c.public key ≡ leaf.encryption_key

-- a member at leaf j has a new private key where there is such an update, and otherwise its leaf isn't updated
abbrev pub OwnsUpdate : Crypto → ℕ → List (ℕ × LeafNode) → Option (List ℕ) → Type 0
OwnsUpdate c j us None = has (map (λ (u : ℕ × LeafNode). u.0) us) j ≡ false
OwnsUpdate c j us (Some key) = IsOwnUpdate c j us key

-- ---- what a good member keeps

-- the proposals that a commit's list uses have passed their checks, if it names them by reference
abbrev pub UsedHavePassed : Type 0
UsedHavePassed = (c : Crypto) (m : Member) (committer : ℕ) (list : List ProposalOrRef) (used : List Used) →
    AllByRecursion (IsGoodKept c m) m.kept → find_proposals m.kept committer list ≡ Ok used →
    AllHavePassed c m.public used

-- a member has the private key of its own update among the proposals that another's commit uses
abbrev pub UsedAreOwned : Type 0
UsedAreOwned = (c : Crypto) (m : Member) (committer : ℕ) (list : List ProposalOrRef) (used : List Used) →
    AllByRecursion (IsGoodKept c m) m.kept → committer ≢ m.keys.leaf → find_proposals m.kept committer list ≡ Ok used →
    OwnsUpdate c m.keys.leaf (updates used) (first_own_key (named_proposals m.kept list))

-- ---- where it stands

-- a member has a leaf after the edits, and it isn't one that they added
pub record IsStanding (j : ℕ) (e : Edits) : Type 0 where
  pub leaf : LeafNode
  pub is_leaf : leaf_of e.tree j ≡ Some leaf
  pub old : has e.added j ≡ false

-- a member that a commit doesn't remove has a leaf after the edits, and wasn't added
abbrev pub MemberStands : Type 0
MemberStands = (c : Crypto) (p : PublicState) (committer : ℕ) (used : List Used) (e : Edits) (own : Option (List ℕ))
    (j : ℕ) → apply_proposals c p committer used ≡ Ok e →
    IsSome (leaf_of p.tree j) → has (removed_leaves used) j ≡ false → OwnsUpdate c j (updates used) own → IsStanding j e

-- ---- its private keys

-- the keys of a member, written into another at its leaf, give that member's
abbrev pub WithAllKeys : Type 0
WithAllKeys = (old new : PrivateKeys) → new.leaf ≡ old.leaf → with_keys old (all_keys new) ≡ new

-- exact keys are exact after the edits of a commit
abbrev pub FollowedExact : Type 0
FollowedExact = (c : Crypto) (p : PublicState) (committer : ℕ) (used : List Used) (e : Edits) (own : Option (List ℕ))
    (old : PrivateKeys) → apply_proposals c p committer used ≡ Ok e →
    IsSome (leaf_of p.tree old.leaf) → has (removed_leaves used) old.leaf ≡ false →
    OwnsUpdate c old.leaf (updates used) own → HasExact c p.tree old → HasExact c e.tree (follow_edits own e.tree old)

-- exact keys are exact after the whole commit of another member, whatever its path is, where it is accepted
abbrev pub KeysNext : Type 0
KeysNext = (c : Crypto) (m : Member) (committer : ℕ) (used : List Used) (commit : Commit) (said : FramedContent)
    (signature : List ℕ) (change : Change) (own : Option (List ℕ)) (climb : Climb) →
    change_of_commit c m.public committer used commit said signature ≡ Ok change →
    IsSome (leaf_of m.public.tree committer) → IsSome (leaf_of m.public.tree m.keys.leaf) → committer ≢ m.keys.leaf →
    has (removed_leaves used) m.keys.leaf ≡ false →
    OwnsUpdate c m.keys.leaf (updates used) own → HasExact c m.public.tree m.keys →
    open_path_secret c m committer change (follow_edits own change.edits.tree m.keys) commit.path ≡ Ok climb →
    HasExact c change.tree (with_keys m.keys climb.keys)
