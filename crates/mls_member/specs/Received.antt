-- What the calls of a member do with messages that it receives.
use Rattle.std.specs.Prelude.{◌≡◌, ℕ, Bool, false, List, Option, None, IsOk, IsSome, MatchOption, Result}
use Rattle.std.specs.Borrow.{Bor}
use Rattle.std.specs.Option.{option_copied}
use Rattle.std.specs.Str.{bytes_eq}
use Rattle.mls_wire.specs.Checks.{Answers, AnswersOutright, passed}
use Rattle.mls_wire.specs.Combine.{optional, vector}
use Rattle.mls_leaf.specs.Faults.{Spells}
use Rattle.mls_leaf.specs.Proposal.{proposal as proposal_format}
use Rattle.mls_leaf.specs.declared.leaf.LeafNode.{LeafNode}
use Rattle.mls_leaf.specs.declared.proposal.Proposal.{Proposal}
use Rattle.mls_types.specs.Commit.{proposal_or_ref, proposal_or_ref_nonempty}
use Rattle.mls_types.specs.Content.{framed_content}
use Rattle.mls_types.specs.GroupContext.{group_context}
use Rattle.mls_types.specs.UpdatePath.{update_path}
use Rattle.mls_types.specs.declared.commit.Commit.{Commit}
use Rattle.mls_types.specs.declared.commit.ProposalOrRef.{ProposalOrRef}
use Rattle.mls_types.specs.declared.content.FramedContent.{FramedContent}
use Rattle.mls_types.specs.declared.public_message.PublicMessage.{PublicMessage}
use Rattle.mls_types.specs.declared.signed.SignedBody.TheVariants as body_of
use Rattle.mls_types.specs.declared.update_path.UpdatePath.{UpdatePath}
use Rattle.mls_view.specs.Shown.{ShowsPublic}
use Rattle.mls_view.specs.declared.public_message.PublicMessageView.{PublicMessageView}
use Rattle.mls_suite.specs.Crypto.{Crypto}
use Rattle.mls_tree.specs.Refusals.{RefusesOutright}
use Rattle.mls_tree.specs.Tree.{Tree, term}
use Rattle.mls_treekem_model.specs.Keys.{PrivateKeys, keys_on}
use Rattle.mls_treekem_model.specs.Make.{climb_to}
use Rattle.mls_treekem_model.specs.Open.{opened_path}
use Rattle.mls_schedule.specs.Epoch.{init_secret, next_epoch_secret, confirmation_tag}
use Rattle.mls_model.specs.declared.effect.Effect.{Effect}
use Rattle.mls_model.specs.Commit.{Edits}
use Rattle.mls_model.specs.Member.{Member, follow_edits, without_pending}
use Rattle.mls_model.specs.Messages.{is_content_signed, content_tag}
use Rattle.mls_model.specs.Verdict.{bytes_verdict, commit_verdict, framing_checks, open_path_secret, own_pending, proposal_verdict, message_verdict, new_proposal, enter_epoch_with}
use Rattle.mls_commit.specs.Outcome.{Outcome}
use Rattle.mls_member.specs.Faults.{number_of, Does}
use Rattle.mls_member.specs.Process.{sender_of, check_sender, message_outer_checks, check_commit, edited_keys, follow_commit}
use Rattle.mls_member.specs.declared.error.Refusal.{Refusal}
use Rattle.mls_member.specs.declared.received_commit.Reached.{Reached}

-- ---- bytes

-- a pending commit is taken out of the member, or the member is as it was
abbrev pub TakesPending : {A : Type 0} → Member → Member → Option A → Type 0
TakesPending old new result = MatchOption result (new ≡ old) (λ _. new ≡ without_pending old)

-- a member that wasn't removed follows its own pending commit, also when an allocation fails
abbrev pub FollowsPendingOutright : {A : Type 0} → Member → List ℕ → Result A Refusal → Type 0
FollowsPendingOutright m bytes result = m.gone ≡ false → IsSome (own_pending m.pending bytes) → IsOk result

-- of other bytes, a member that wasn't removed answers faults of decoding and `NotPublicMessage` (41) to
-- `BadMembershipTag` (46) also when an allocation fails
abbrev pub RefusesOthers : {A : Type 0} → Member → List ℕ → Result A Refusal → Type 0
RefusesOthers m bytes result =
    m.gone ≡ false → own_pending m.pending bytes ≡ None →
    RefusesOutright number_of (message_outer_checks m bytes) result

-- The call does what the bytes say, or refuses with the number of the first check that fails, or with `OutOfMemory`.
abbrev pub TakesBytes : Crypto → List ℕ → Member → Member → Result Effect Refusal → Type 0
TakesBytes c bytes old new result = Does (bytes_verdict c old bytes) old new result

-- ---- every message

-- A call lends the leaf that the definition answers, or refuses with its number. It takes no memory.
abbrev pub LendsLeaf : Result LeafNode ℕ → Result (Bor LeafNode) Refusal → Type 0
LendsLeaf defined result = AnswersOutright (λ l. l.now) number_of defined result

-- The call lends the leaf of a message's sender, or refuses with `WrongGroup` (42) to `BadMembershipTag` (46). It takes
-- no memory.
abbrev pub LendsSender : Member → PublicMessageView → Result (Bor LeafNode) Refusal → Type 0
LendsSender m view result =
    (shown : PublicMessage) → ShowsPublic view shown → LendsLeaf (sender_of m shown) result

-- `WrongGroup` (42) to `BadMembershipTag` (46) are answered also when an allocation fails
abbrev pub RefusesSender : {A : Type 0} → Member → PublicMessageView → Result A Refusal → Type 0
RefusesSender m view result =
    (shown : PublicMessage) → ShowsPublic view shown →
    RefusesOutright number_of (sender_of m shown) result

-- it tells whether the membership tag is that of the message (RFC 9420, 6.2)
abbrev pub TellsTag : Member → PublicMessageView → Bool → Type 0
TellsTag m view b =
    (shown : PublicMessage) → ShowsPublic view shown →
    b ≡ bytes_eq shown.membership_tag (content_tag m.epoch_secret shown.content m.public.context)

-- it tells whether the signature is that of a signature key (RFC 9420, 6.1)
abbrev pub TellsSigned : Crypto → Member → PublicMessageView → List ℕ → Bool → Type 0
TellsSigned c m view key b =
    (shown : PublicMessage) → ShowsPublic view shown →
    b ≡ is_content_signed c key shown.content m.public.context

-- The signature and the sender pass their checks, or the call refuses with `BadSignature` (47), `OwnUnknown` (48) or
-- `OutOfMemory`.
abbrev pub ChecksSender : {A : Type 0} → Crypto → Member → PublicMessageView → List ℕ → LeafNode →
    Result A Refusal → Type 0
ChecksSender c m view bytes leaf result =
    (shown : PublicMessage) → ShowsPublic view shown →
    Answers (λ _. passed) number_of (check_sender c m shown bytes leaf) result

-- The message passes the checks of every message, or the call refuses with the number of the first that fails, or with
-- `OutOfMemory`.
abbrev pub ChecksFraming : {A : Type 0} → Crypto → Member → PublicMessageView → List ℕ →
    Result A Refusal → Type 0
ChecksFraming c m view bytes result =
    (shown : PublicMessage) → ShowsPublic view shown →
    Answers (λ _. passed) number_of (framing_checks c m shown bytes) result

-- The call does what the message says, or refuses with the number of the first check that fails, or with `OutOfMemory`.
abbrev pub TakesMessage : Crypto → PublicMessageView → List ℕ → Member → Member →
    Result Effect Refusal → Type 0
TakesMessage c view bytes old new result =
    (shown : PublicMessage) → ShowsPublic view shown →
    Does (message_verdict c old shown bytes) old new result

-- ---- a proposal

-- The call keeps a proposal that passes its checks, or refuses with the number of the first that fails, or with
-- `OutOfMemory`.
abbrev pub KeepsNew : Crypto → List ℕ → ℕ → List ℕ → Proposal → Member → Member →
    Result Effect Refusal → Type 0
KeepsNew c reference sender bytes proposal old new result =
    Does (new_proposal c old reference sender bytes proposal) old new result

-- The call does what the message with this proposal says, or refuses with the number of the first check that fails, or
-- with `OutOfMemory`.
abbrev pub TakesProposal : Crypto → PublicMessageView → List ℕ → List ℕ → Member → Member →
    Result Effect Refusal → Type 0
TakesProposal c view bytes part old new result =
    (shown : PublicMessage) (made : Proposal) → ShowsPublic view shown →
    Spells proposal_format made part →
    Does (proposal_verdict c old shown.content bytes made) old new result

-- ---- a commit

-- the bytes spell the proposals of a commit
abbrev pub SpellsList : List ProposalOrRef → List ℕ → Type 0
SpellsList list text = Spells (vector proposal_or_ref proposal_or_ref_nonempty) list text

-- the keys are those after the edits that made a tree, with the leaf's new key where there is one
abbrev pub FollowsEdits : Option (Bor (List ℕ)) → Tree → PrivateKeys → PrivateKeys → Type 0
FollowsEdits own t old new = new ≡ follow_edits (option_copied own) (term t) old

-- The call opens a commit's path with the keys after its edits, or refuses with the number of what fails, or with
-- `OutOfMemory`.
abbrev pub OpensPath : Crypto → Edits → ℕ → UpdatePath → PrivateKeys → List ℕ →
    Result Reached Refusal → Type 0
OpensPath c e committer path keys context result =
    Answers (λ r. climb_to r.secret r.keys) number_of
    (opened_path c context e.added e.tree committer keys.leaf (keys_on e.tree keys) path.nodes)
    result

-- The call answers what a commit makes of the public state and whether it removes the member, or refuses with the
-- number of the first check that fails, or with `OutOfMemory`.
abbrev pub ChecksCommit : Crypto → Member → ℕ → Commit → List ℕ → List ℕ →
    Result (Outcome × Bool) Refusal → Type 0
ChecksCommit c m committer commit said signature result =
    (content : FramedContent) → framed_content.spell content ≡ said →
    Answers (λ x. (x.0.change, x.1)) number_of (check_commit c m committer commit content signature)
    result

-- The call answers the commit secret and the member's keys in the new tree, or refuses with the number of what fails,
-- or with `OutOfMemory`.
abbrev pub OpensSecret : Crypto → Member → ℕ → Outcome → Commit → Result Reached Refusal → Type 0
OpensSecret c m committer r commit result =
    Answers (λ r. climb_to r.secret r.keys) number_of
    (open_path_secret c m committer r.change (edited_keys m commit r.change) commit.path) result

-- the epoch secret that a received commit leads to, by its commit secret (RFC 9420, 8)
abbrev pub epoch_after : Member → List ℕ → Outcome → List ℕ
epoch_after m secret r =
    next_epoch_secret (init_secret m.epoch_secret) secret (group_context.spell r.change.context)

-- the confirmation tag that a received commit has in its epoch (RFC 9420, 6.1)
abbrev pub tag_after : List ℕ → Outcome → List ℕ
tag_after epoch r = confirmation_tag epoch r.change.context.confirmed_transcript_hash

-- The call enters the next epoch, or refuses with `BadConfirmationTag` (65) or `OutOfMemory`.
abbrev pub EntersEpoch : Outcome → Reached → List ℕ → Member → Member → Result Effect Refusal →
    Type 0
EntersEpoch r reached tag old new result =
    Does (enter_epoch_with old r.change reached.secret reached.keys tag) old new result

-- The call follows a commit that isn't the last, or refuses with the number of what fails, or with `OutOfMemory`.
abbrev pub FollowsCommit : Crypto → ℕ → Commit → List ℕ → List ℕ → List ℕ → Member → Member →
    Result Effect Refusal → Type 0
FollowsCommit c committer commit said signature tag old new result =
    (content : FramedContent) → framed_content.spell content ≡ said →
    Does (follow_commit c old committer commit content signature tag) old new result

-- The call follows the commit that a message shows, or refuses with the number of the first check that fails, or with
-- `OutOfMemory`.
abbrev pub TakesCommit : Crypto → PublicMessageView → List ℕ → List ℕ → Member → Member →
    Result Effect Refusal → Type 0
TakesCommit c view proposals path old new result =
    (shown : PublicMessage) (commit : Commit) (tag : List ℕ) → ShowsPublic view shown →
    shown.content.body ≡ body_of.Commit commit tag → SpellsList commit.proposals proposals →
    Spells (optional update_path) commit.path path →
    Does (commit_verdict c old shown.content commit tag) old new result
