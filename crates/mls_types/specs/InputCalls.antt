-- What the calls answer that write the inputs that are signed and tagged, or add parts of them to a writer.
use Rattle.std.specs.Prelude.{ℕ, List, Result}
use Rattle.std.specs.Global.{Vec}
use Rattle.mls_leaf.specs.Faults.{AddsInput, Writes}
use Rattle.mls_leaf.specs.declared.error.LeafError.{LeafError}
use Rattle.mls_types.specs.SignedParts.{framed_content_of, auth_data, AuthDataFits}
use Rattle.mls_types.specs.Signing.{framed_content_tbs, FramedContentTbsFits, authenticated_content_tbm, AuthenticatedContentTbmFits}
use Rattle.mls_types.specs.declared.content.FramedContent.{FramedContent}
use Rattle.mls_types.specs.declared.signed.SignedContent.{SignedContent}
use Rattle.mls_types.specs.declared.public_message.WireFormat.{WireFormat}
use Rattle.mls_types.specs.declared.group_context.GroupContext.{GroupContext}

-- the FramedContentTBS (RFC 9420, 6.1)
abbrev pub WritesFramedContentTbs : WireFormat → FramedContent → GroupContext → Result (Vec ℕ) LeafError → Type 0
WritesFramedContentTbs kind said context result = Writes (FramedContentTbsFits kind said context) (framed_content_tbs kind said context) result

-- the FramedContentTBS of a signed content (RFC 9420, 6.1), added to a writer
abbrev pub AddsToSign : WireFormat → SignedContent → GroupContext → List ℕ → Result (Unit {0}) LeafError → List ℕ → Type 0
AddsToSign kind said context old result new = AddsInput (FramedContentTbsFits kind (framed_content_of said) context) (framed_content_tbs kind (framed_content_of said) context) old result new

-- the AuthenticatedContentTBM (RFC 9420, 6.2)
abbrev pub WritesAuthenticatedContentTbm : WireFormat → SignedContent → GroupContext → Result (Vec ℕ) LeafError → Type 0
WritesAuthenticatedContentTbm kind said context result = Writes (AuthenticatedContentTbmFits kind said context) (authenticated_content_tbm kind said context) result

-- the FramedContentAuthData (RFC 9420, 6.1), added to a writer
abbrev pub AddsAuthData : SignedContent → List ℕ → Result (Unit {0}) LeafError → List ℕ → Type 0
AddsAuthData said old result new = AddsInput (AuthDataFits said) (auth_data said) old result new
