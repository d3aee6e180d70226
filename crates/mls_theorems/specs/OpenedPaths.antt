-- What a receiver of a made commit opens.
use Rattle.std.specs.Prelude.{◌≡◌, ℕ, ◌+◌, true, false, not, ◌||◌, List, is_some, Ok, ◌⊎◌}
use Rattle.mls_types.specs.declared.commit.Commit.{Commit}
use Rattle.mls_types.specs.declared.commit.ProposalOrRef.{ProposalOrRef}
use Rattle.mls_types.specs.declared.content.FramedContent.{FramedContent}
use Rattle.mls_suite.specs.Crypto.{Crypto, Lawful}
use Rattle.mls_tree_model.specs.Sets.{has}
use Rattle.mls_treekem_model.specs.Laws.{AreTwo}
use Rattle.mls_treekem_model.specs.Lists.{ListsBelow}
use Rattle.mls_treekem_model.specs.Make.{Climb}
use Rattle.mls_treekem_model.specs.Keys.{HasExact}
use Rattle.mls_model.specs.PublicState.{PublicState, Used, provisional_context}
use Rattle.mls_model.specs.Proposals.{extensions_after, is_path_required}
use Rattle.mls_model.specs.Commit.{Edits, Change, apply_proposals, apply_path_if, change_of_commit}
use Rattle.mls_model.specs.Member.{Member, keys_after_edits}
use Rattle.mls_model.specs.Make.{MadePath, no_path}
use Rattle.mls_model.specs.Verdict.{open_path_secret}
use Rattle.mls_theorems.specs.CommitCalls.{commit_of}
use Rattle.mls_theorems.specs.SentCommits.{IsNewPath}

pub record IsChange (c : Crypto) (p : PublicState) (committer : ℕ) (used : List Used) (commit : Commit)
    (change : Change) : Type 0 where
  pub edits_are : apply_proposals c p committer used ≡ Ok change.edits
  pub path_there : (is_some commit.path || not (is_path_required used)) ≡ true
  pub merges : apply_path_if c p committer change.edits commit.path ≡ Ok change.tree
  pub provisional_is : change.provisional
      ≡ provisional_context p.context (extensions_after p.context.extensions used) change.tree
  pub epoch_is : change.context.epoch ≡ p.context.epoch + 1

abbrev pub BodyDid : Type 0
BodyDid = (c : Crypto) (p : PublicState) (committer : ℕ) (used : List Used) (commit : Commit) (said : FramedContent)
    (signature : List ℕ) (change : Change) →
    change_of_commit c p committer used commit said signature ≡ Ok change → IsChange c p committer used commit change

-- ---- a member that stays

-- after the edits of a commit a member that it didn't remove stands in their tree with the keys that are due, and
-- wasn't added
pub record Stays (c : Crypto) (m : Member) (committer : ℕ) (list : List ProposalOrRef) (e : Edits) : Type 0 where
  pub two : AreTwo 0 e.tree committer m.keys.leaf
  pub lists : ListsBelow 0 e.tree
  pub exact : HasExact c e.tree (keys_after_edits m list e.tree)
  pub old : has e.added m.keys.leaf ≡ false

-- ---- the climb

-- a receiver's climb reaches the maker's commit secret
pub record Climbs (c : Crypto) (m : Member) (committer : ℕ) (list : List ProposalOrRef) (path : MadePath)
    (change : Change) : Type 0 where
  pub climb : Climb
  pub is : open_path_secret c m committer change (keys_after_edits m list change.edits.tree) path.path ≡ Ok climb
  pub secret : climb.secret ≡ path.climb.secret

abbrev pub ReceiverClimbs : Type 0
ReceiverClimbs = (c : Crypto) → Lawful c →
    (maker m : Member) (list : List ProposalOrRef) (used : List Used) (e : Edits) (seed : List ℕ) (path : MadePath)
    (change : Change) →
    IsNewPath c maker (extensions_after maker.public.context.extensions used) e seed path ⊎ (path ≡ no_path maker e) →
    apply_proposals c maker.public maker.keys.leaf used ≡ Ok e →
    IsChange c maker.public maker.keys.leaf used (commit_of list path) change →
    Stays c m maker.keys.leaf list e → Climbs c m maker.keys.leaf list path change
