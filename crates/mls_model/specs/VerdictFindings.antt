-- What a member found in a message that it took.
use Rattle.std.specs.Prelude.{◌≡◌, ℕ, ◌==◌, true, false, not, ◌||◌, List, Some, None, is_some, Ok}
use Rattle.std.specs.Str.{bytes_eq}
use Rattle.mls_wire.specs.Checks.{passed}
use Rattle.mls_leaf.specs.declared.leaf.LeafNode.{LeafNode}
use Rattle.mls_leaf.specs.declared.proposal.Proposal.{Proposal}
use Rattle.mls_types.specs.GroupContext.{group_context}
use Rattle.mls_types.specs.declared.commit.Commit.{Commit}
use Rattle.mls_types.specs.declared.public_message.PublicMessage.{PublicMessage}
use Rattle.mls_types.specs.declared.signed.SignedContent.{SignedContent}
use Rattle.mls_suite.specs.Crypto.{Crypto}
use Rattle.mls_tree_model.specs.Term.{leaf_of}
use Rattle.mls_tree_model.specs.Sets.{has}
use Rattle.mls_treekem_model.specs.Make.{Climb}
use Rattle.mls_schedule.specs.Epoch.{init_secret, next_epoch_secret, confirmation_tag}
use Rattle.mls_model.specs.declared.effect.Effect.{Effect}
use Rattle.mls_model.specs.declared.effect.Effect.TheVariants.{Proposed, Known, Advanced, Removed}
use Rattle.mls_model.specs.PublicState.{Used}
use Rattle.mls_model.specs.Proposals.{proposal_checks, removed_leaves}
use Rattle.mls_model.specs.Commit.{Change, public_with}
use Rattle.mls_model.specs.Member.{KeptProposal, Pending, Member, kept_under, with_keys, keys_after_edits, with_kept, with_epoch, after_removal}
use Rattle.mls_model.specs.Messages.{sender_leaf, is_handshake, is_content_signed, content_tag, reference_of}
use Rattle.mls_model.specs.Verdict.{is_kept, open_path_secret}

-- ---- framing

-- the checks of every message passed
pub record IsFramed (c : Crypto) (m : Member) (v : PublicMessage) (bytes : List ℕ) : Type 0 where
  pub group : bytes_eq v.content.group_id m.public.context.group_id ≡ true
  pub epoch : (v.content.epoch == m.public.context.epoch) ≡ true
  pub leaf : LeafNode
  pub sender : leaf_of m.public.tree (sender_leaf v.content.sender) ≡ Some leaf
  pub handshake : is_handshake v.content.body ≡ true
  pub tag : bytes_eq v.membership_tag (content_tag m.epoch_secret v.content m.public.context) ≡ true
  pub signed : is_content_signed c leaf.signature_key v.content m.public.context ≡ true
  pub other : (not (sender_leaf v.content.sender == m.keys.leaf) || is_kept m.kept bytes) ≡ true

-- ---- proposals

-- a received proposal as it is kept (RFC 9420, 5.2)
abbrev pub kept_of : SignedContent → List ℕ → Proposal → KeptProposal
kept_of v bytes proposal = record {
  reference = reference_of v;
  message = bytes;
  proposal = proposal;
  sender = sender_leaf v.sender;
  own_key = None;
}

-- the proposal of a message was kept already
pub record WasKnown (m : Member) (v : SignedContent) (x : Effect × Member) : Type 0 where
  pub kept : is_some (kept_under m.kept (reference_of v)) ≡ true
  pub is : (Known (reference_of v), m) ≡ x

-- the proposal of a message was new, passed its checks, and is kept
pub record IsNowKept (c : Crypto) (m : Member) (v : SignedContent) (bytes : List ℕ) (said : Proposal)
    (x : Effect × Member) : Type 0 where
  pub fresh : is_some (kept_under m.kept (reference_of v)) ≡ false
  pub checks : proposal_checks c m.public (sender_leaf v.sender) said ≡ Ok passed
  pub is : (Proposed (reference_of v), with_kept m (kept_of v bytes said)) ≡ x

-- ---- commits

-- the commit removed the member
pub record WasRemoved (m : Member) (used : List Used) (x : Effect × Member) : Type 0 where
  pub is_named : has (removed_leaves used) m.keys.leaf ≡ true
  pub is : (Removed, after_removal m) ≡ x

-- the epoch secret that a member reaches
unfoldable pub reached_epoch : Member → Change → Climb → List ℕ
reached_epoch m change climb =
    next_epoch_secret (init_secret m.epoch_secret) climb.secret (group_context.spell change.context)

-- a member followed a commit that wasn't its pending one
pub record HasFollowed (c : Crypto) (m : Member) (v : SignedContent) (commit : Commit) (tag : List ℕ) (used : List Used)
    (change : Change) (x : Effect × Member) : Type 0 where
  pub stays : has (removed_leaves used) m.keys.leaf ≡ false
  pub climb : Climb
  pub opens : open_path_secret c m (sender_leaf v.sender) change
      (keys_after_edits m commit.proposals change.edits.tree) commit.path ≡ Ok climb
  pub confirmed : bytes_eq tag
      (confirmation_tag (reached_epoch m change climb) change.context.confirmed_transcript_hash) ≡ true
  pub is : (
    Advanced change.context.epoch,
    with_epoch m (public_with change tag) (reached_epoch m change climb) (with_keys m.keys climb.keys),
  ) ≡ x

-- a member followed its pending commit
pub record DidPending (m : Member) (bytes : List ℕ) (x : Effect × Member) : Type 0 where
  pub pending : Pending
  pub is_pending : m.pending ≡ Some pending
  pub is_message : bytes_eq pending.message bytes ≡ true
  pub is : (Advanced pending.public.context.epoch, with_epoch m pending.public pending.epoch_secret pending.keys) ≡ x
