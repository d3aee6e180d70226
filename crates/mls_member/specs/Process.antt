-- The parts of a verdict, in the order in which code goes over them.
use Rattle.std.specs.Prelude.{ℕ, ◌==◌, ◌≤◌, ◌^◌, Bool, true, false, not, ◌||◌, if◌then◌else◌, List, length, Option, Some, None, Result, Ok, IfSome}
use Rattle.std.specs.List.{AllByRecursion, list_any}
use Rattle.std.specs.Str.{bytes_eq}
use Rattle.mls_wire.specs.Checks.{Passed, require, require_some, ◌>>◌}
use Rattle.mls_wire.specs.Reading.{◌>>=◌}
use Rattle.mls_leaf.specs.GroupExtensions.{group_extensions}
use Rattle.mls_leaf.specs.Limits.{input_limit}
use Rattle.mls_leaf.specs.Leaf.{leaf_node}
use Rattle.mls_leaf.specs.Proposal.{proposal as proposal_format}
use Rattle.mls_leaf.specs.declared.extension.Extension.{Extension}
use Rattle.mls_leaf.specs.declared.leaf.LeafNode.{LeafNode}
use Rattle.mls_types.specs.declared.commit.Commit.{Commit}
use Rattle.mls_types.specs.declared.commit.ProposalOrRef.{ProposalOrRef}
use Rattle.mls_types.specs.declared.commit.ProposalOrRef.TheVariants as listed
use Rattle.mls_types.specs.declared.content.FramedContent.{FramedContent}
use Rattle.mls_types.specs.declared.public_message.PublicMessage.{PublicMessage}
use Rattle.mls_view.specs.declared.content.ContentView.{ContentView}
use Rattle.mls_view.specs.declared.content.ContentView.TheVariants as view_of
use Rattle.mls_view.specs.declared.public_message.PublicMessageView.{PublicMessageView}
use Rattle.mls_view.specs.Shown.{ShowsPublic}
use Rattle.mls_suite.specs.Crypto.{Crypto}
use Rattle.mls_tree_model.specs.Term.{leaf_of}
use Rattle.mls_treekem_model.specs.Keys.{PrivateKeys}
use Rattle.mls_model.specs.declared.effect.Effect.{Effect}
use Rattle.mls_model.specs.declared.effect.Effect.TheVariants.{Removed}
use Rattle.mls_model.specs.Proposals.{extensions_after, remove_in}
use Rattle.mls_model.specs.PublicState.{Used}
use Rattle.mls_model.specs.Commit.{Change, change_of_commit}
use Rattle.mls_model.specs.Member.{KeptProposal, Member, find_proposals, keys_after_edits, after_removal}
use Rattle.mls_model.specs.Messages.{decode_message, public_in, sender_leaf, is_handshake, is_content_signed, content_tag}
use Rattle.mls_model.specs.Verdict.{is_kept, open_path_secret, enter_epoch}
use Rattle.mls_public_group.specs.Short.{IsBelow}

-- ---- every message

-- the leaf of a message's sender, by the group, the epoch, the sender and whether it is a proposal or a commit:
-- `WrongGroup` (42) another group, `WrongEpoch` (43) another epoch, `SenderNotMember` (44) no member at the sender's
-- leaf, `NotHandshake` (45) application data (RFC 9420, 6)
unfoldable pub sender_at : Member → List ℕ → ℕ → ℕ → Bool → Result LeafNode ℕ
sender_at m group_id epoch sender handshake = do
  require 42 (bytes_eq group_id m.public.context.group_id)
  require 43 (epoch == m.public.context.epoch)
  leaf ← require_some 44 (leaf_of m.public.tree sender)
  require 45 handshake
  Ok leaf

-- whether a view of a content shows a proposal or a commit
abbrev pub says_handshake : ContentView → Bool
says_handshake (view_of.Application text) = false
says_handshake (view_of.Proposal part) = true
says_handshake (view_of.Commit proposals path) = true

-- the leaf of a message's sender, where it passes `WrongGroup` (42) to `NotHandshake` (45), and `BadMembershipTag` (46)
-- the membership tag of the message (RFC 9420, 6.2)
abbrev pub sender_of : Member → PublicMessage → Result LeafNode ℕ
sender_of m v = do
  leaf ← sender_at m v.content.group_id v.content.epoch (sender_leaf v.content.sender)
      (is_handshake v.content.body)
  require 46 (bytes_eq v.membership_tag (content_tag m.epoch_secret v.content m.public.context))
  Ok leaf

-- `BadSignature` (47) the signature, `OwnUnknown` (48) the member's own leaf, and no proposal that it keeps (RFC 9420,
-- 6.1)
unfoldable pub check_sender : Crypto → Member → PublicMessage → List ℕ → LeafNode → Result Passed ℕ
check_sender c m v bytes leaf = do
  require 47 (is_content_signed c leaf.signature_key v.content m.public.context)
  require 48 (not (sender_leaf v.content.sender == m.keys.leaf) || is_kept m.kept bytes)

-- the checks of bytes that take no memory: decoding, `NotPublicMessage` (41) no PublicMessage, and `WrongGroup` (42) to
-- `BadMembershipTag` (46)
unfoldable pub message_outer_checks : Member → List ℕ → Result LeafNode ℕ
message_outer_checks m bytes = do
  whole ← decode_message bytes
  v ← require_some 41 (public_in whole)
  sender_of m v

-- ---- a commit

-- the private key that a kept proposal has, where there is one
abbrev pub key_of : Option KeptProposal → Option (List ℕ)
key_of None = None
key_of (Some k) = k.own_key

-- whether the leaf that a remove names, if it is one, is this (RFC 9420, 12.1.3)
abbrev pub is_leaf : ℕ → Option ℕ → Bool
is_leaf leaf None = false
is_leaf leaf (Some i) = i == leaf

-- whether a used proposal is the remove of a leaf
abbrev pub removes_leaf : ℕ → Used → Bool
removes_leaf leaf u = is_leaf leaf (remove_in u.proposal)

-- what a commit makes of the public state, and whether it removes the member (RFC 9420, 12.4.2)
unfoldable pub check_commit : Crypto → Member → ℕ → Commit → FramedContent → List ℕ →
    Result (Change × Bool) ℕ
check_commit c m committer commit said signature = do
  used ← find_proposals m.kept committer commit.proposals
  change ← change_of_commit c m.public committer used commit said signature
  Ok (change, list_any (removes_leaf m.keys.leaf) used)

-- the private keys after a commit's edits
abbrev pub edited_keys : Member → Commit → Change → PrivateKeys
edited_keys m commit change = keys_after_edits m commit.proposals change.edits.tree

-- the member after a commit whose change is known (RFC 9420, 12.4.2)
unfoldable pub after_change : Crypto → Member → ℕ → Commit → List ℕ → Change × Bool →
    Result (Effect × Member) ℕ
after_change c m committer commit tag (change, removes) =
    if removes then Ok (Removed, after_removal m)
    else (open_path_secret c m committer change (edited_keys m commit change) commit.path >>= λ climb. enter_epoch m change climb tag)

-- the member after a commit that isn't in the last epoch
abbrev pub follow_commit : Crypto → Member → ℕ → Commit → FramedContent → List ℕ → List ℕ →
    Result (Effect × Member) ℕ
follow_commit c m committer commit said signature tag =
    check_commit c m committer commit said signature >>= after_change c m committer commit tag

-- ---- lengths

-- the parts of a content have no more bytes than an input
abbrev pub IsShortContent : ContentView → Type 0
IsShortContent (view_of.Application text) = Unit {0}
IsShortContent (view_of.Proposal part) = length part ≤ input_limit
IsShortContent (view_of.Commit proposals path) =
    (length proposals ≤ input_limit) × (length path ≤ input_limit)

-- a message is shown
unfoldable pub IsShown : PublicMessageView → Type 0
IsShown view = (shown : PublicMessage) × ShowsPublic view shown

-- the parts of a shown message have no more bytes than an input
pub record IsShortView (view : PublicMessageView) : Type 0 where
  pub shown : IsShown view
  pub said : length view.framed_content.now ≤ input_limit
  pub auth : length view.auth_data.now ≤ input_limit
  pub signature : length view.auth.signature.now ≤ input_limit
  pub tag : IfSome view.auth.confirmation_tag (λ t. length t.now ≤ input_limit)
  pub content : IsShortContent view.content.content

-- a proposal that is given in full encodes to fewer than n bytes
abbrev pub IsListedBelow : ℕ → ProposalOrRef → Type 0
IsListedBelow n (listed.Proposal p) = IsBelow n proposal_format p
IsListedBelow n (listed.Reference reference) = Unit {0}

-- where a group's extensions encode to fewer than 2^27 bytes, those that it carries after these proposals do
abbrev pub KeepExtensionsShort : List Used → Type 0
KeepExtensionsShort used =
    (old : List Extension) → IsBelow (2 ^ 27) group_extensions old →
    IsBelow (2 ^ 27) group_extensions (extensions_after old used)

-- each proposal in full, and the path's leaf, encode to fewer than n bytes
pub record IsShortCommit (n : ℕ) (commit : Commit) : Type 0 where
  pub proposals : AllByRecursion (IsListedBelow n) commit.proposals
  pub path : IfSome commit.path (λ p. IsBelow n leaf_node p.leaf_node)
  pub wider : IfSome commit.path (λ p. IsBelow (2 ^ 28) leaf_node p.leaf_node)
