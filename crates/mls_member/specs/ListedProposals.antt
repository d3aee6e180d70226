-- The proposals that a commit's message lists, each with its sender, and which of them a member lacks.
use Rattle.std.specs.Prelude.{◌≡◌, ℕ, List, [], map, filter_map, if◌then◌else◌, Option, None, Some, is_some, Result, Ok, MatchResult}
use Rattle.std.specs.Global.{Vec}
use Rattle.mls_wire.specs.Checks.{Answers, require_some}
use Rattle.mls_wire.specs.Reading.{◌>>=◌}
use Rattle.mls_wire.specs.declared.WireError.TheVariants.{OutOfMemory}
use Rattle.mls_leaf.specs.declared.error.LeafError.{LeafError}
use Rattle.mls_leaf.specs.declared.error.LeafError.TheVariants.{Wire as in_wire}
use Rattle.mls_types.specs.SignedParts.{content_of_body}
use Rattle.mls_types.specs.declared.commit.ProposalOrRef.{ProposalOrRef}
use Rattle.mls_types.specs.declared.commit.ProposalOrRef.TheVariants as listed
use Rattle.mls_types.specs.declared.public_message.PublicMessage.{PublicMessage}
use Rattle.mls_types.specs.declared.signed.SignedBody.{SignedBody}
use Rattle.mls_types.specs.declared.signed.SignedBody.TheVariants as body_of
use Rattle.mls_view.specs.Shown.{ShowsPublic, ShowsContent}
use Rattle.mls_view.specs.declared.content.ContentView.{ContentView}
use Rattle.mls_view.specs.declared.public_message.PublicMessageView.{PublicMessageView}
use Rattle.mls_model.specs.Member.{KeptProposal, Member, find_proposals, kept_under}
use Rattle.mls_model.specs.Messages.{decode_message, public_in, sender_leaf}
use Rattle.mls_model.specs.PublicState.{Used}
use Rattle.mls_member.specs.Faults.{number_of}
use Rattle.mls_member.specs.declared.error.Refusal.{Refusal}
use Rattle.mls_member.specs.declared.listed_proposal.ListedProposal.{ListedProposal}
use Rattle.mls_member.specs.declared.message_list.MessageList.{MessageList}

-- a proposal that a commit uses, with the leaf of its sender
abbrev pub listed_as : Used → ListedProposal
listed_as u = record { sender = u.sender; proposal = u.proposal }

-- ---- the list of a message

-- the list of a content: empty where it is no commit (RFC 9420, 12.4)
abbrev pub listed_in : SignedBody → List ProposalOrRef
listed_in (body_of.Application text) = []
listed_in (body_of.Proposal proposal) = []
listed_in (body_of.Commit commit tag) = commit.proposals

-- the leaf of a message's sender, and what its content lists
abbrev pub sender_and_list : PublicMessage → ℕ × List ProposalOrRef
sender_and_list message = (sender_leaf message.content.sender, listed_in message.content.body)

-- the PublicMessage that bytes spell, or decoding's fault, or `NotPublicMessage` (41) (RFC 9420, 6)
unfoldable pub public_message : List ℕ → Result PublicMessage ℕ
public_message bytes = decode_message bytes >>= λ whole. require_some 41 (public_in whole)

-- the leaf of the sender of the PublicMessage that bytes spell, and what it lists
unfoldable pub message_list : List ℕ → Result (ℕ × List ProposalOrRef) ℕ
message_list bytes = public_message bytes >>= λ message. Ok (sender_and_list message)

-- ---- by what a member keeps

-- the proposals of a commit's list: in full of the committer, by reference the kept ones, or `UnknownReference` (60)
-- (RFC 9420, 12.4)
unfoldable pub proposals_listed : List KeptProposal → ℕ → List ProposalOrRef →
    Result (List ListedProposal) ℕ
proposals_listed kept committer list =
    find_proposals kept committer list >>= λ used. Ok (map listed_as used)

-- the proposals that a message lists
unfoldable pub commit_proposals : Member → List ℕ → Result (List ListedProposal) ℕ
commit_proposals m bytes =
    message_list bytes >>= λ said. proposals_listed m.kept said.0 said.1

-- the reference that a commit's list has, where nothing is kept under it
abbrev pub missing_reference : List KeptProposal → ProposalOrRef → Option (List ℕ)
missing_reference kept (listed.Proposal proposal) = None
missing_reference kept (listed.Reference reference) =
    if is_some (kept_under kept reference) then None else Some reference

-- the references of a list under which nothing is kept, in its order
abbrev pub missing_references : List KeptProposal → List ProposalOrRef → List (List ℕ)
missing_references kept list = filter_map (missing_reference kept) list

-- the references that a message lists, and under which a member keeps nothing
unfoldable pub missing_proposals : Member → List ℕ → Result (List (List ℕ)) ℕ
missing_proposals m bytes =
    message_list bytes >>= λ said. Ok (missing_references m.kept said.1)

-- ---- what calls answer

-- The call reads the list of the message that bytes spell, or refuses with this number, unless it is `OutOfMemory`.
abbrev pub ReadsList : Result (ℕ × List ProposalOrRef) ℕ → Result MessageList Refusal → Type 0
ReadsList defined result = Answers (λ l. (l.sender, l.proposals)) number_of defined result

-- The call reads the list of the message that a view shows.
abbrev pub ReadsShownList : PublicMessageView → Result MessageList Refusal → Type 0
ReadsShownList view result =
    (shown : PublicMessage) → ShowsPublic view shown → ReadsList (Ok (sender_and_list shown)) result

-- The call reads the list of the content that a view shows, or memory was refused.
abbrev pub ReadsContentList : ContentView → Result (List ProposalOrRef) LeafError → Type 0
ReadsContentList view result =
    MatchResult result
    (λ list. (body : SignedBody) → ShowsContent view (content_of_body body) → list ≡ listed_in body)
    (λ e. e ≡ in_wire OutOfMemory)

-- The call lists these proposals, or refuses with this number, unless it is `OutOfMemory`.
abbrev pub Lists : Result (List ListedProposal) ℕ → Result (Vec ListedProposal) Refusal → Type 0
Lists defined result = Answers (λ v. v.items) number_of defined result

-- The call lists these references, or refuses with this number, unless it is `OutOfMemory`.
abbrev pub ListsReferences : Result (List (List ℕ)) ℕ → Result (Vec (List ℕ)) Refusal → Type 0
ListsReferences defined result = Answers (λ v. v.items) number_of defined result
