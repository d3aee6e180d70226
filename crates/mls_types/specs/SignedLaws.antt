-- The laws of signed contents: spelled, read and made of their two parts.
use Rattle.std.specs.Prelude.{◌≡◌, ℕ, List, [], ◌++◌, Result, Ok}
use Rattle.mls_wire.specs.Reading.{◌>>=◌, opaque_at}
use Rattle.mls_types.specs.Content.{framed_content}
use Rattle.mls_types.specs.Signed.{signed_content}
use Rattle.mls_types.specs.SignedParts.{framed_content_of, auth_data, with_signature}
use Rattle.mls_types.specs.declared.content.Content as contents
use Rattle.mls_types.specs.declared.content.Content.TheVariants.{Application, Proposal, Commit}
use Rattle.mls_types.specs.declared.content.FramedContent.{FramedContent}
use Rattle.mls_types.specs.declared.signed.SignedContent.{SignedContent}

-- FramedContentAuthData (RFC 9420, 6.1) behind a content: the signature, and for a commit the confirmation tag; else it is empty
abbrev pub auth_at : contents.Content → List ℕ → Result ((List ℕ × List ℕ) × List ℕ) ℕ
auth_at (Application text) bytes = opaque_at bytes >>= λ x. Ok ((x.0, []), x.1)
auth_at (Proposal made) bytes = opaque_at bytes >>= λ x. Ok ((x.0, []), x.1)
auth_at (Commit made) bytes = opaque_at bytes >>= λ x. opaque_at x.1 >>= λ y. Ok ((x.0, y.0), y.1)

-- the signed content of a FramedContent and the FramedContentAuthData behind it
abbrev pub signed_from : FramedContent × List ℕ → Result (SignedContent × List ℕ) ℕ
signed_from x = auth_at x.0.content x.1 >>= λ y. Ok (with_signature x.0 y.0.0 y.0.1, y.1)

-- A signed content is spelled as its FramedContent, and then its FramedContentAuthData (RFC 9420, 6 and 6.1).
abbrev pub SignedContentIsSpelled : Type 0
SignedContentIsSpelled = (v : SignedContent) → signed_content.spell v ≡ framed_content.spell (framed_content_of v) ++ auth_data v

-- It is read as a FramedContent, and then the FramedContentAuthData behind it; the first fault is theirs.
abbrev pub SignedContentIsRead : Type 0
SignedContentIsRead = (bytes : List ℕ) → signed_content.read bytes ≡ (framed_content.read bytes >>= signed_from)

-- Signing a content leaves the content.
abbrev pub SigningLeavesContent : Type 0
SigningLeavesContent = (v : FramedContent) (signature tag : List ℕ) → framed_content_of (with_signature v signature tag) ≡ v
