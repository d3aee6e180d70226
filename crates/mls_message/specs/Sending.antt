-- What a member's contents are sent as.
use Rattle.std.specs.Prelude.{◌≡◌, ◌≢◌, ℕ, List, [], Result, Ok, Err, MatchResult}
use Rattle.mls_wire.specs.Checks.{Answers}
use Rattle.mls_leaf.specs.Faults.{number_of}
use Rattle.mls_leaf.specs.declared.error.LeafError.{LeafError}
use Rattle.mls_leaf.specs.declared.proposal.Proposal.{Proposal}
use Rattle.mls_types.specs.SignedParts.{with_signature}
use Rattle.mls_types.specs.declared.content.Content.{Content}
use Rattle.mls_types.specs.declared.content.FramedContent.{FramedContent}
use Rattle.mls_types.specs.declared.signed.SignedContent.{SignedContent}
use Rattle.mls_suite.specs.Crypto.{Crypto}
use Rattle.mls_model.specs.Member.{Member}
use Rattle.mls_model.specs.Messages.{require_within_limit, content_by, content_signature, content_tag, message_by, reference_of}
use Rattle.mls_model.specs.Propose.{proposal_by}
use Rattle.mls_public_group.specs.MessageLimit.{limited_text}
use Rattle.mls_message.specs.Speaks.{Speaks}
use Rattle.mls_message.specs.declared.said_proposal.SaidProposal.{SaidProposal}
use Rattle.mls_message.specs.declared.speaker.Speaker.{Speaker}

-- whatever its signature and its confirmation tag are, the message of a content is refused with this number, unless it
-- is `OutOfMemory`
abbrev pub IsRefused : Member → FramedContent → LeafError → Type 0
IsRefused m said e =
    number_of e ≢ 1 → (signature tag : List ℕ) →
    require_within_limit (message_by m (with_signature said signature tag)) ≡ Err (number_of e)

-- the speaker says this content in its epoch
abbrev pub IsSaidBy : Speaker → Content → FramedContent → Type 0
IsSaidBy s content v = (m : Member) → Speaks m s → v ≡ content_by m content

-- The call answers the content as the speaker says it, or refuses each message of it, or answers `OutOfMemory`.
abbrev pub Frames : Speaker → Content → Result FramedContent LeafError → Type 0
Frames s content result =
    (m : Member) → Speaks m s →
    MatchResult result (λ f. f ≡ content_by m content) (IsRefused m (content_by m content))

-- the bytes are the speaker's signature of a content, under the context of its epoch (RFC 9420, 6.1)
abbrev pub Signs : Crypto → Speaker → FramedContent → List ℕ → Type 0
Signs c s said signature =
    (m : Member) → Speaks m s → signature ≡ content_signature c m.signing said m.public.context

-- a content that is no commit has the speaker's signature
abbrev pub IsSignedBy : Crypto → Speaker → FramedContent → SignedContent → Type 0
IsSignedBy c s said v =
    (m : Member) → Speaks m s →
    v ≡ with_signature said (content_signature c m.signing said m.public.context) []

-- the bytes are the membership tag of a content under the context of the speaker's epoch (RFC 9420, 6.2)
abbrev pub IsTagBy : Speaker → SignedContent → List ℕ → Type 0
IsTagBy s v tag = (m : Member) → Speaks m s → tag ≡ content_tag m.epoch_secret v m.public.context

-- the text is the speaker's message of a content, and no larger than a message may be
abbrev pub IsMessageBy : Speaker → SignedContent → List ℕ → Type 0
IsMessageBy s v text = (m : Member) → Speaks m s → limited_text (message_by m v) ≡ Ok text

-- The call answers the speaker's message of a content, or refuses with `TooLong` (6) where it is too large, or with
-- `OutOfMemory`.
abbrev pub Sends : {A : Type 0} → Speaker → (A → List ℕ) → SignedContent → Result A LeafError →
    Type 0
Sends s text v result =
    (m : Member) → Speaks m s → Answers text number_of (limited_text (message_by m v)) result

-- The call answers the message of the speaker's proposal, or refuses with `TooLong` (6) where it is too large, or with
-- `OutOfMemory`.
abbrev pub SendsProposal : Crypto → Speaker → Proposal → Result SaidProposal LeafError → Type 0
SendsProposal c s proposal result =
    (m : Member) → Speaks m s →
    Answers (λ v. v.message.items) number_of
    (limited_text (message_by m (proposal_by c m proposal))) result

-- the reference is that of the speaker's proposal (RFC 9420, 5.2)
abbrev pub HasReference : Crypto → Speaker → Proposal → SaidProposal → Type 0
HasReference c s proposal v =
    (m : Member) → Speaks m s → v.reference ≡ reference_of (proposal_by c m proposal)
