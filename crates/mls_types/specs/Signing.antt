-- The inputs that are signed and tagged (RFC 9420, 6.1 and 6.2): each is its parts in order.
-- An input fits where no vector in it is too long.
use Rattle.std.specs.Prelude.{ℕ, List, ◌++◌}
use Rattle.std.specs.Int.{w16}
use Rattle.mls_wire.specs.Reading.{uint}
use Rattle.mls_types.specs.Content.{framed_content}
use Rattle.mls_types.specs.SignedParts.{framed_content_of, auth_data, AuthDataFits}
use Rattle.mls_types.specs.PublicMessage.{wire_format}
use Rattle.mls_types.specs.GroupContext.{group_context}
use Rattle.mls_types.specs.declared.content.FramedContent.{FramedContent}
use Rattle.mls_types.specs.declared.signed.SignedContent.{SignedContent}
use Rattle.mls_types.specs.declared.public_message.WireFormat.{WireFormat}
use Rattle.mls_types.specs.declared.group_context.GroupContext.{GroupContext}

-- FramedContentTBS (RFC 9420, 6.1): uint16 version (1), uint16 wire_format, FramedContent, GroupContext
abbrev pub framed_content_tbs : WireFormat → FramedContent → GroupContext → List ℕ
framed_content_tbs kind said context = uint w16 1 ++ wire_format.spell kind ++ framed_content.spell said ++ group_context.spell context

-- the FramedContentTBS of a PublicMessage (RFC 9420, 6.1): version 1, wire format 1, and the spellings of the
-- FramedContent and of the GroupContext
abbrev pub signed_pieces : List ℕ → List ℕ → List ℕ
signed_pieces said context = uint w16 1 ++ uint w16 1 ++ said ++ context

-- no vector in the FramedContentTBS is too long
abbrev pub FramedContentTbsFits : WireFormat → FramedContent → GroupContext → Type 0
FramedContentTbsFits kind said context = wire_format.Fits kind × (framed_content.Fits said × group_context.Fits context)

-- AuthenticatedContentTBM (RFC 9420, 6.2): FramedContentTBS, FramedContentAuthData
abbrev pub authenticated_content_tbm : WireFormat → SignedContent → GroupContext → List ℕ
authenticated_content_tbm kind said context = framed_content_tbs kind (framed_content_of said) context ++ auth_data said

-- no vector in the AuthenticatedContentTBM is too long
abbrev pub AuthenticatedContentTbmFits : WireFormat → SignedContent → GroupContext → Type 0
AuthenticatedContentTbmFits kind said context = FramedContentTbsFits kind (framed_content_of said) context × AuthDataFits said
