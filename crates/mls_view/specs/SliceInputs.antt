-- The inputs that are made of a view's slices, each equal to the input of the message that the view shows.
use Rattle.std.specs.Prelude.{◌≡◌, ℕ, List, ◌++◌}
use Rattle.std.specs.Int.{w16}
use Rattle.mls_wire.specs.Reading.{uint}
use Rattle.mls_kdf.specs.Kdf.{hmac}
use Rattle.mls_types.specs.Content.{framed_content}
use Rattle.mls_types.specs.GroupContext.{group_context}
use Rattle.mls_types.specs.PublicMessage.{authenticated_content}
use Rattle.mls_types.specs.Reference.{proposal_reference}
use Rattle.mls_types.specs.SignedParts.{framed_content_of}
use Rattle.mls_types.specs.Signing.{framed_content_tbs, authenticated_content_tbm}
use Rattle.mls_types.specs.declared.group_context.GroupContext.{GroupContext}
use Rattle.mls_types.specs.declared.public_message.WireFormat.TheVariants.{PublicMessage}
use Rattle.mls_types.specs.declared.public_message.PublicMessage as messages
use Rattle.mls_types.specs.declared.public_message.AuthenticatedContent.{AuthenticatedContent}
use Rattle.mls_view.specs.declared.public_message.PublicMessageView.{PublicMessageView}
use Rattle.mls_view.specs.Shown.{ShowsPublic}

-- AuthenticatedContentTBM (RFC 9420, 6.2): the FramedContentTBS, and then the FramedContentAuthData
abbrev pub tagged_pieces : List ℕ → List ℕ → List ℕ → List ℕ
tagged_pieces said context auth = uint w16 1 ++ uint w16 1 ++ said ++ context ++ auth

-- AuthenticatedContent (RFC 9420, 6): wire format 1, the FramedContent, the FramedContentAuthData
abbrev pub authenticated_pieces : List ℕ → List ℕ → List ℕ
authenticated_pieces said auth = uint w16 1 ++ said ++ auth

-- the AuthenticatedContent of a public message
abbrev pub authenticated_content_of : messages.PublicMessage → AuthenticatedContent
authenticated_content_of shown = record { wire_format = PublicMessage; content = shown.content }

-- ---- what calls make of a view: of whatever message it shows, in whatever group the context spells

-- the FramedContentTBS (RFC 9420, 6.1)
abbrev pub IsSignedInput : PublicMessageView → List ℕ → List ℕ → Type 0
IsSignedInput view context bytes =
    (shown : messages.PublicMessage) (group : GroupContext) → ShowsPublic view shown → context ≡ group_context.spell group → bytes ≡ framed_content_tbs PublicMessage (framed_content_of shown.content) group

-- the tag of the AuthenticatedContentTBM under a key (RFC 9420, 6.2)
abbrev pub IsMembershipTag : PublicMessageView → List ℕ → List ℕ → List ℕ → Type 0
IsMembershipTag view key context tag =
    (shown : messages.PublicMessage) (group : GroupContext) → ShowsPublic view shown → context ≡ group_context.spell group → tag ≡ hmac key (authenticated_content_tbm PublicMessage shown.content group)

-- the reference of the proposal (RFC 9420, 5.2)
abbrev pub IsProposalReference : PublicMessageView → List ℕ → Type 0
IsProposalReference view reference =
    (shown : messages.PublicMessage) → ShowsPublic view shown → reference ≡ proposal_reference (authenticated_content.spell (authenticated_content_of shown))
