-- The two parts of a signed content: its FramedContent and its FramedContentAuthData (RFC 9420, 6 and 6.1).
use Rattle.std.specs.Prelude.{ℕ, ◌<◌, ◌^◌, List, [], ◌++◌, length}
use Rattle.mls_wire.specs.Reading.{opaque}
use Rattle.mls_types.specs.Content.{content}
use Rattle.mls_types.specs.declared.content.Content as contents
use Rattle.mls_types.specs.declared.content.Content.TheVariants as says
use Rattle.mls_types.specs.declared.content.FramedContent.{FramedContent}
use Rattle.mls_types.specs.declared.signed.SignedBody.{SignedBody}
use Rattle.mls_types.specs.declared.signed.SignedBody.TheVariants.{Application, Proposal, Commit}
use Rattle.mls_types.specs.declared.signed.SignedContent.{SignedContent}

-- ---- from a signed content

-- what is said, without the tag
abbrev pub content_of_body : SignedBody → contents.Content
content_of_body (Application text) = says.Application text
content_of_body (Proposal made) = says.Proposal made
content_of_body (Commit made tag) = says.Commit made

-- the FramedContent of a signed content (RFC 9420, 6)
abbrev pub framed_content_of : SignedContent → FramedContent
framed_content_of v = record {
  group_id = v.group_id;
  epoch = v.epoch;
  sender = v.sender;
  authenticated_data = v.authenticated_data;
  content = content_of_body v.body;
}

-- for a commit confirmation_tag<V>, else nothing (RFC 9420, 6.1)
abbrev pub tag_spelling : SignedBody → List ℕ
tag_spelling (Application text) = []
tag_spelling (Proposal made) = []
tag_spelling (Commit made tag) = opaque tag

-- the tag, if there is one, isn't too long
abbrev pub TagFits : SignedBody → Type 0
TagFits (Application text) = Unit {0}
TagFits (Proposal made) = Unit {0}
TagFits (Commit made tag) = length tag < 2 ^ 30

-- FramedContentAuthData (RFC 9420, 6.1): signature<V>, and for a commit confirmation_tag<V>
abbrev pub auth_data : SignedContent → List ℕ
auth_data v = opaque v.signature ++ tag_spelling v.body

-- no vector in the FramedContentAuthData is too long
abbrev pub AuthDataFits : SignedContent → Type 0
AuthDataFits v = (length v.signature < 2 ^ 30) × TagFits v.body

-- ---- to a signed content

-- what is said, where a commit comes with this tag
abbrev pub body_with_tag : contents.Content → List ℕ → SignedBody
body_with_tag (says.Application text) tag = Application text
body_with_tag (says.Proposal made) tag = Proposal made
body_with_tag (says.Commit made) tag = Commit made tag

-- the content with this signature, and if it is a commit with this confirmation tag
abbrev pub with_signature : FramedContent → List ℕ → List ℕ → SignedContent
with_signature v signature tag = record {
  group_id = v.group_id;
  epoch = v.epoch;
  sender = v.sender;
  authenticated_data = v.authenticated_data;
  body = body_with_tag v.content tag;
  signature = signature;
}
