-- The two parts of a signed content: its FramedContent and its FramedContentAuthData (RFC 9420, 6 and 6.1).
use Rattle.std.proofs.Common.{◌≡◌, ℕ, List, ◌++◌, refl, append_assoc, lit<}
use Rattle.std.proofs.lemmas.List.{append-nil}
use Rattle.mls_types.specs.Content.{content, framed_content}
use Rattle.mls_types.specs.Signed.{signed_tail, signed_content}
use Rattle.mls_types.specs.declared.content.Content as contents
use Rattle.mls_types.specs.declared.content.Content.TheVariants as says
use Rattle.mls_types.specs.declared.content.Sender.{Sender}
use Rattle.mls_types.specs.declared.content.FramedContent.{FramedContent}
use Rattle.mls_types.specs.declared.signed.SignedBody.{SignedBody}
use Rattle.mls_types.specs.declared.signed.SignedBody.TheVariants.{Application, Proposal, Commit}
use Rattle.mls_types.specs.declared.signed.SignedContent.{SignedContent}
use Rattle.mls_types.specs.SignedParts.{framed_content_of, auth_data, AuthDataFits, with_signature}

-- ---- laws

abbrev signed_of : List ℕ → ℕ → Sender → List ℕ → List ℕ → SignedBody → SignedContent
signed_of group at by more signature body = record { group_id = group; epoch = at; sender = by; authenticated_data = more; body = body; signature = signature }

spelled_of : (group : List ℕ) (at : ℕ) (by : Sender) (more signature : List ℕ) (body : SignedBody) → let v = signed_of group at by more signature body in signed_content.spell v ≡ framed_content.spell (framed_content_of v) ++ auth_data v
unfolding signed_content signed_tail framed_content content
spelled_of group at by more signature (Application text) = simp (append_assoc, append-nil)
spelled_of group at by more signature (Proposal made) = simp (append_assoc, append-nil)
spelled_of group at by more signature (Commit made tag) = simp append_assoc

-- A signed content is spelled as its FramedContent, and then its FramedContentAuthData.
pub signed_content_spelled : (v : SignedContent) → signed_content.spell v ≡ framed_content.spell (framed_content_of v) ++ auth_data v
signed_content_spelled v = spelled_of v.group_id v.epoch v.sender v.authenticated_data v.signature v.body

fits_of : (group : List ℕ) (at : ℕ) (by : Sender) (more signature : List ℕ) (body : SignedBody) → let v = signed_of group at by more signature body in framed_content.Fits (framed_content_of v) → AuthDataFits v → signed_content.Fits v
unfolding signed_content signed_tail framed_content content
fits_of group at by more signature (Application text) f a = (f.0, (f.1.0, (f.1.1.0, (f.1.1.1.0, (lit< tt, (f.1.1.1.1.1, a.0))))))
fits_of group at by more signature (Proposal made) f a = (f.0, (f.1.0, (f.1.1.0, (f.1.1.1.0, (lit< tt, (f.1.1.1.1.1, a.0))))))
fits_of group at by more signature (Commit made tag) f a = (f.0, (f.1.0, (f.1.1.0, (f.1.1.1.0, (lit< tt, (f.1.1.1.1.1, (a.0, a.1)))))))

-- It has a spelling where both parts have one.
pub signed_content_fits : (v : SignedContent) → framed_content.Fits (framed_content_of v) → AuthDataFits v → signed_content.Fits v
signed_content_fits v f a = fits_of v.group_id v.epoch v.sender v.authenticated_data v.signature v.body f a

parts_fit_of : (group : List ℕ) (at : ℕ) (by : Sender) (more signature : List ℕ) (body : SignedBody) → let v = signed_of group at by more signature body in signed_content.Fits v → framed_content.Fits (framed_content_of v) × AuthDataFits v
unfolding signed_content signed_tail framed_content content
parts_fit_of group at by more signature (Application text) f = ((f.0, (f.1.0, (f.1.1.0, (f.1.1.1.0, (lit< tt, f.1.1.1.1.1.0))))), (f.1.1.1.1.1.1, tt))
parts_fit_of group at by more signature (Proposal made) f = ((f.0, (f.1.0, (f.1.1.0, (f.1.1.1.0, (lit< tt, f.1.1.1.1.1.0))))), (f.1.1.1.1.1.1, tt))
parts_fit_of group at by more signature (Commit made tag) f = ((f.0, (f.1.0, (f.1.1.0, (f.1.1.1.0, (lit< tt, f.1.1.1.1.1.0))))), (f.1.1.1.1.1.1.0, f.1.1.1.1.1.1.1))

pub signed_content_parts_fit : (v : SignedContent) → signed_content.Fits v → framed_content.Fits (framed_content_of v) × AuthDataFits v
signed_content_parts_fit v f = parts_fit_of v.group_id v.epoch v.sender v.authenticated_data v.signature v.body f

abbrev framed_of : List ℕ → ℕ → Sender → List ℕ → contents.Content → FramedContent
framed_of group at by more said = record { group_id = group; epoch = at; sender = by; authenticated_data = more; content = said }

framed_with : (group : List ℕ) (at : ℕ) (by : Sender) (more : List ℕ) (said : contents.Content) (signature tag : List ℕ) → framed_content_of (with_signature (framed_of group at by more said) signature tag) ≡ framed_of group at by more said
framed_with group at by more (says.Application text) signature tag = refl
framed_with group at by more (says.Proposal made) signature tag = refl
framed_with group at by more (says.Commit made) signature tag = refl

-- Signing a content leaves the content.
pub framed_signed_with : (v : FramedContent) (signature tag : List ℕ) → framed_content_of (with_signature v signature tag) ≡ v
framed_signed_with v signature tag = framed_with v.group_id v.epoch v.sender v.authenticated_data v.content signature tag
