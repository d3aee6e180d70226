-- How a member's verdict on bytes comes about: each way in which it takes them, and each in which it refuses them.
use Rattle.std.specs.Prelude.{◌≡◌, ℕ, ◌-◌, ◌^◌, nat_lt, true, false, List, None, is_some, Ok, Err}
use Rattle.std.specs.Str.{bytes_eq}
use Rattle.mls_leaf.specs.declared.proposal.Proposal.{Proposal}
use Rattle.mls_types.specs.SignedParts.{framed_content_of}
use Rattle.mls_types.specs.declared.commit.Commit.{Commit}
use Rattle.mls_types.specs.declared.message.MlsMessage.{MlsMessage}
use Rattle.mls_types.specs.declared.message.MlsMessage.TheVariants as message
use Rattle.mls_types.specs.declared.public_message.PublicMessage.{PublicMessage}
use Rattle.mls_types.specs.declared.signed.SignedBody.TheVariants as body_of
use Rattle.mls_types.specs.declared.signed.SignedContent.{SignedContent}
use Rattle.mls_suite.specs.Crypto.{Crypto}
use Rattle.mls_tree_model.specs.Sets.{has}
use Rattle.mls_treekem_model.specs.Make.{Climb}
use Rattle.mls_schedule.specs.Epoch.{confirmation_tag}
use Rattle.mls_model.specs.declared.effect.Effect.{Effect}
use Rattle.mls_model.specs.PublicState.{Used}
use Rattle.mls_model.specs.Proposals.{proposal_checks, removed_leaves}
use Rattle.mls_model.specs.Commit.{Change, change_of_commit}
use Rattle.mls_model.specs.Member.{Member, kept_under, find_proposals, keys_after_edits}
use Rattle.mls_model.specs.Messages.{decode_message, public_in, sender_leaf, reference_of}
use Rattle.mls_model.specs.Verdict.{framing_checks, open_path_secret, own_pending, verdict}
use Rattle.mls_model.specs.VerdictFindings.{IsFramed, WasKnown, IsNowKept, WasRemoved, HasFollowed, DidPending, reached_epoch}

-- ---- what stands before a way is chosen

-- the member wasn't removed, and the bytes aren't its pending commit
pub record IsOther (m : Member) (bytes : List ℕ) : Type 0 where
  pub active : m.gone ≡ false
  pub free : own_pending m.pending bytes ≡ None

-- the bytes are a PublicMessage that passes the checks of every message, and not the member's pending commit
pub record IsTaken (c : Crypto) (m : Member) (bytes : List ℕ) (v : PublicMessage) : Type 0 where
  pub other : IsOther m bytes
  pub decodes : decode_message bytes ≡ Ok (message.PublicMessage v)
  pub is_framed : IsFramed c m v bytes

-- the bytes are such a message with a proposal
pub record IsProposal (c : Crypto) (m : Member) (bytes : List ℕ) (v : PublicMessage) (said : Proposal) : Type 0 where
  pub is_taken : IsTaken c m bytes v
  pub says : v.content.body ≡ body_of.Proposal said

-- the bytes are such a message with a commit, and this is its confirmation tag
pub record IsCommit (c : Crypto) (m : Member) (bytes : List ℕ) (v : PublicMessage) (commit : Commit)
    (tag : List ℕ) : Type 0 where
  pub is_taken : IsTaken c m bytes v
  pub says : v.content.body ≡ body_of.Commit commit tag

-- the proposals that a commit lists are kept, and an epoch comes after this
pub record IsUsing (m : Member) (v : SignedContent) (commit : Commit) (used : List Used) : Type 0 where
  pub below : nat_lt m.public.context.epoch (2 ^ 64 - 1) ≡ true
  pub uses : find_proposals m.kept (sender_leaf v.sender) commit.proposals ≡ Ok used

-- the proposals that a commit lists are kept, and all that is public of it passes its checks
pub record IsChanging (c : Crypto) (m : Member) (v : SignedContent) (commit : Commit) (used : List Used)
    (change : Change) : Type 0 where
  pub is_using : IsUsing m v commit used
  pub change_is : change_of_commit c m.public (sender_leaf v.sender) used commit (framed_content_of v) v.signature ≡ Ok change

-- ---- the five ways in which bytes are taken

-- a member takes bytes with this effect, and with this member after it
pub data Taking (c : Crypto) (m : Member) (bytes : List ℕ) (x : Effect × Member) : Type 0 where
  follows_own : m.gone ≡ false → DidPending m bytes x → Taking c m bytes x
  knows : (v : PublicMessage) (said : Proposal) → IsProposal c m bytes v said → WasKnown m v.content x →
      Taking c m bytes x
  keeps : (v : PublicMessage) (said : Proposal) → IsProposal c m bytes v said → IsNowKept c m v.content bytes said x →
      Taking c m bytes x
  leaves : (v : PublicMessage) (commit : Commit) (tag : List ℕ) (used : List Used) (change : Change) →
      IsCommit c m bytes v commit tag → IsChanging c m v.content commit used change →
      WasRemoved m used x → Taking c m bytes x
  follows : (v : PublicMessage) (commit : Commit) (tag : List ℕ) (used : List Used) (change : Change) →
      IsCommit c m bytes v commit tag → IsChanging c m v.content commit used change →
      HasFollowed c m v.content commit tag used change x → Taking c m bytes x

-- a verdict takes bytes only where one of these ways is there, with what that way says
abbrev pub TakenSo : Type 0
TakenSo = (c : Crypto) (m : Member) (bytes : List ℕ) (x : Effect × Member) → verdict c m bytes ≡ Ok x →
    Taking c m bytes x

-- and wherever one of these ways is there, a verdict takes them so
abbrev pub SoTaken : Type 0
SoTaken = (c : Crypto) (m : Member) (bytes : List ℕ) (x : Effect × Member) → Taking c m bytes x →
    verdict c m bytes ≡ Ok x

-- ---- the ten in which they are refused

-- a member refuses bytes with this number
pub data Refusing (c : Crypto) (m : Member) (bytes : List ℕ) (n : ℕ) : Type 0 where
  -- the member was removed
  gone : m.gone ≡ true → n ≡ 40 → Refusing c m bytes n
  -- the bytes are no message, or no PublicMessage
  unread : IsOther m bytes → decode_message bytes ≡ Err n → Refusing c m bytes n
  no_public : (w : MlsMessage) → IsOther m bytes → decode_message bytes ≡ Ok w → public_in w ≡ None → n ≡ 41 →
      Refusing c m bytes n
  -- a check of every message fails: `WrongGroup` (42) to `OwnUnknown` (48)
  unframed : (v : PublicMessage) → IsOther m bytes → decode_message bytes ≡ Ok (message.PublicMessage v) →
      framing_checks c m v bytes ≡ Err n → Refusing c m bytes n
  -- a proposal that isn't kept fails its checks
  unfit : (v : PublicMessage) (said : Proposal) → IsProposal c m bytes v said →
      is_some (kept_under m.kept (reference_of v.content)) ≡ false →
      proposal_checks c m.public (sender_leaf v.content.sender) said ≡ Err n → Refusing c m bytes n
  -- there is no epoch after this
  last_epoch : (v : PublicMessage) (commit : Commit) (tag : List ℕ) → IsCommit c m bytes v commit tag →
      nat_lt m.public.context.epoch (2 ^ 64 - 1) ≡ false → n ≡ 66 → Refusing c m bytes n
  -- a proposal isn't kept
  unknown : (v : PublicMessage) (commit : Commit) (tag : List ℕ) → IsCommit c m bytes v commit tag →
      nat_lt m.public.context.epoch (2 ^ 64 - 1) ≡ true →
      find_proposals m.kept (sender_leaf v.content.sender) commit.proposals ≡ Err n → Refusing c m bytes n
  -- what is public fails its checks
  unsound : (v : PublicMessage) (commit : Commit) (tag : List ℕ) (used : List Used) → IsCommit c m bytes v commit tag →
      IsUsing m v.content commit used →
      change_of_commit c m.public (sender_leaf v.content.sender) used commit (framed_content_of v.content) v.content.signature
      ≡ Err n → Refusing c m bytes n
  -- the path doesn't open
  closed : (v : PublicMessage) (commit : Commit) (tag : List ℕ) (used : List Used) (change : Change) →
      IsCommit c m bytes v commit tag → IsChanging c m v.content commit used change →
      has (removed_leaves used) m.keys.leaf ≡ false →
      open_path_secret c m (sender_leaf v.content.sender) change
      (keys_after_edits m commit.proposals change.edits.tree) commit.path ≡ Err n → Refusing c m bytes n
  -- the confirmation tag isn't that of the next epoch
  untagged : (v : PublicMessage) (commit : Commit) (tag : List ℕ) (used : List Used) (change : Change) (climb : Climb) →
      IsCommit c m bytes v commit tag → IsChanging c m v.content commit used change →
      has (removed_leaves used) m.keys.leaf ≡ false →
      open_path_secret c m (sender_leaf v.content.sender) change
      (keys_after_edits m commit.proposals change.edits.tree) commit.path ≡ Ok climb →
      bytes_eq tag (confirmation_tag (reached_epoch m change climb) change.context.confirmed_transcript_hash) ≡ false →
      n ≡ 65 → Refusing c m bytes n

-- a verdict refuses bytes only where one of these is there, with its number
abbrev pub RefusedSo : Type 0
RefusedSo = (c : Crypto) (m : Member) (bytes : List ℕ) (n : ℕ) → verdict c m bytes ≡ Err n → Refusing c m bytes n

-- and wherever one of these is there, a verdict refuses them so
abbrev pub SoRefused : Type 0
SoRefused = (c : Crypto) (m : Member) (bytes : List ℕ) (n : ℕ) → Refusing c m bytes n → verdict c m bytes ≡ Err n
