-- What a view of a message shows: numbers and byte fields are the message's, and each part spells its part.
use Rattle.std.specs.Prelude.{◌≡◌, ℕ, List, Option, Some, None, Result, Ok, Err}
use Rattle.mls_wire.specs.Combine.{vector, optional}
use Rattle.mls_leaf.specs.declared.error.LeafError.{LeafError}
use Rattle.mls_leaf.specs.Faults.{Spells, number_of}
use Rattle.mls_leaf.specs.KeyPackage.{key_package}
use Rattle.mls_leaf.specs.Proposal.{proposal}
use Rattle.mls_types.specs.UpdatePath.{update_path}
use Rattle.mls_types.specs.GroupInfo.{group_info}
use Rattle.mls_types.specs.Welcome.{encrypted_group_secrets, encrypted_group_secrets_nonempty, welcome}
use Rattle.mls_types.specs.declared.welcome.Welcome as welcomes
use Rattle.mls_types.specs.Commit.{proposal_or_ref, proposal_or_ref_nonempty}
use Rattle.mls_types.specs.Content.{framed_content}
use Rattle.mls_types.specs.SignedParts.{framed_content_of, auth_data}
use Rattle.mls_types.specs.SignedLaws.{auth_at}
use Rattle.mls_types.specs.PublicMessage.{public_message}
use Rattle.mls_types.specs.declared.content.Content as contents
use Rattle.mls_types.specs.declared.content.Content.TheVariants as says
use Rattle.mls_types.specs.declared.content.FramedContent.{FramedContent}
use Rattle.mls_types.specs.declared.signed.SignedBody.{SignedBody}
use Rattle.mls_types.specs.declared.signed.SignedBody.TheVariants as signed
use Rattle.mls_types.specs.declared.public_message.PublicMessage as messages
use Rattle.mls_types.specs.declared.message.MlsMessage.{MlsMessage}
use Rattle.mls_types.specs.declared.message.MlsMessage.TheVariants as sent
use Rattle.mls_view.specs.declared.content.ContentView.{ContentView}
use Rattle.mls_view.specs.declared.content.ContentView.TheVariants.{Application, Proposal, Commit}
use Rattle.mls_view.specs.declared.content.FramedContentView.{FramedContentView}
use Rattle.mls_view.specs.declared.auth.AuthDataView.{AuthDataView}
use Rattle.mls_view.specs.declared.public_message.PublicMessageView.{PublicMessageView}
use Rattle.mls_view.specs.declared.welcome.WelcomeView.{WelcomeView}
use Rattle.mls_view.specs.declared.message.MessageView.{MessageView}
use Rattle.mls_view.specs.declared.message.MessageView.TheVariants as views
use denote.Ref.{Bor}

-- ---- FramedContent (RFC 9420, 6)

abbrev pub ShowsContent : ContentView → contents.Content → Type 0
ShowsContent (Application text) (says.Application shown) = text.now ≡ shown
ShowsContent (Proposal part) (says.Proposal made) = Spells proposal made part
ShowsContent (Commit proposals path) (says.Commit made) = Spells (vector proposal_or_ref proposal_or_ref_nonempty) made.proposals proposals × Spells (optional update_path) made.path path
ShowsContent view shown = ⊥

pub record ShowsFramed (view : FramedContentView) (shown : FramedContent) : Type 0 where
  pub group_id : view.group_id.now ≡ shown.group_id
  pub epoch : view.epoch ≡ shown.epoch
  pub sender : view.sender ≡ shown.sender
  pub authenticated_data : view.authenticated_data.now ≡ shown.authenticated_data
  pub content : ShowsContent view.content shown.content

-- ---- FramedContentAuthData (RFC 9420, 6.1)

-- a confirmation tag stands behind a commit alone
abbrev pub ShowsTag : Option (Bor (List ℕ)) → contents.Content → List ℕ → Type 0
ShowsTag None (says.Application shown) tag = Unit {0}
ShowsTag None (says.Proposal shown) tag = Unit {0}
ShowsTag None (says.Commit shown) tag = ⊥
ShowsTag (Some view) (says.Application shown) tag = ⊥
ShowsTag (Some view) (says.Proposal shown) tag = ⊥
ShowsTag (Some view) (says.Commit shown) tag = view.now ≡ tag

pub record LendsAuth (said : contents.Content) (old : List ℕ) (view : AuthDataView) (new : List ℕ) : Type 0 where
  pub value : List ℕ × List ℕ
  pub is_read : auth_at said old ≡ Ok (value, new)
  pub signature : view.signature.now ≡ value.0
  pub confirmation_tag : ShowsTag view.confirmation_tag said value.1

-- A call on a reader lends the FramedContentAuthData behind a content, or answers the first fault. It takes no memory.
abbrev pub LendsAuthData : contents.Content → List ℕ → Result AuthDataView LeafError → List ℕ → Type 0
LendsAuthData said old (Ok view) new = LendsAuth said old view new
LendsAuthData said old (Err e) new = auth_at said old ≡ Err (number_of e)

-- A call on a reader lends the FramedContentAuthData behind the content that a view shows, or answers the first fault.
abbrev pub LendsAuthBehind : ContentView → List ℕ → Result AuthDataView LeafError → List ℕ → Type 0
LendsAuthBehind view old result new = (said : contents.Content) → ShowsContent view said → LendsAuthData said old result new

-- ---- PublicMessage (RFC 9420, 6.2)

abbrev pub ShowsBodyTag : Option (Bor (List ℕ)) → SignedBody → Type 0
ShowsBodyTag None (signed.Application shown) = Unit {0}
ShowsBodyTag None (signed.Proposal shown) = Unit {0}
ShowsBodyTag None (signed.Commit shown tag) = ⊥
ShowsBodyTag (Some view) (signed.Application shown) = ⊥
ShowsBodyTag (Some view) (signed.Proposal shown) = ⊥
ShowsBodyTag (Some view) (signed.Commit shown tag) = view.now ≡ tag

-- framed_content spells the FramedContent, auth_data the FramedContentAuthData, and whole all of the message
pub record ShowsPublic (view : PublicMessageView) (shown : messages.PublicMessage) : Type 0 where
  pub content : ShowsFramed view.content (framed_content_of shown.content)
  pub signature : view.auth.signature.now ≡ shown.content.signature
  pub confirmation_tag : ShowsBodyTag view.auth.confirmation_tag shown.content.body
  pub membership_tag : view.membership_tag.now ≡ shown.membership_tag
  pub framed_content : view.framed_content.now ≡ framed_content.spell (framed_content_of shown.content)
  pub auth_data : view.auth_data.now ≡ auth_data shown.content
  pub whole : Spells public_message shown view.whole

-- ---- Welcome (RFC 9420, 12.4.3.1)

pub record ShowsWelcome (view : WelcomeView) (shown : welcomes.Welcome) : Type 0 where
  pub cipher_suite : view.cipher_suite ≡ shown.cipher_suite
  pub secrets : Spells (vector encrypted_group_secrets encrypted_group_secrets_nonempty) shown.secrets view.secrets
  pub encrypted_group_info : view.encrypted_group_info.now ≡ shown.encrypted_group_info
  pub whole : Spells welcome shown view.whole

-- ---- MLSMessage (RFC 9420, 6)

abbrev pub Shows : MessageView → MlsMessage → Type 0
Shows (views.PublicMessage view) (sent.PublicMessage shown) = ShowsPublic view shown
Shows (views.Welcome view) (sent.Welcome shown) = ShowsWelcome view shown
Shows (views.GroupInfo view) (sent.GroupInfo shown) = Spells group_info shown view
Shows (views.KeyPackage view) (sent.KeyPackage shown) = Spells key_package shown view
Shows view shown = ⊥
