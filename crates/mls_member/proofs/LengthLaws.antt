-- The parts of a message are as short as an input.
use Rattle.std.proofs.Common.{◌≡◌, ℕ, ◌≤◌, Bool, true, false, cond, List, ◌++◌, length, Option, Some, None, Result, Ok, Err, refl, sym, subst}
use Rattle.std.specs.Prelude.{IfSome, nat_lt}
use Rattle.std.specs.Int.{w16}
use Rattle.std.proofs.lemmas.Bool.{ltb-false}
use Rattle.mls_wire.specs.Reading.{uint, opaque}
use Rattle.mls_wire.specs.Format.{Format, IsBytes}
use Rattle.mls_wire.specs.Whole.{whole}
use Rattle.mls_leaf.specs.Limits.{input_limit}
use Rattle.mls_leaf.proofs.WholeLaws.{whole_takes}
use Rattle.mls_leaf.specs.Proposal.{proposal as proposal_format}
use Rattle.mls_types.specs.Content.{content, framed_content}
use Rattle.mls_types.specs.Message.{mls_message}
use Rattle.mls_types.specs.PublicMessage.{public_message}
use Rattle.mls_types.specs.Signed.{signed_content}
use Rattle.mls_types.specs.SignedParts.{framed_content_of, content_of_body, auth_data, tag_spelling}
use Rattle.mls_types.proofs.SignedParts.{signed_content_spelled}
use Rattle.mls_types.specs.declared.content.Content as contents
use Rattle.mls_types.specs.declared.content.Content.TheVariants as says
use Rattle.mls_types.specs.declared.signed.SignedBody.{SignedBody}
use Rattle.mls_types.specs.declared.signed.SignedBody.TheVariants as body_of
use Rattle.mls_types.specs.declared.message.MlsMessage.TheVariants as message_of
use Rattle.mls_types.specs.declared.public_message.PublicMessage as messages
use Rattle.mls_view.specs.declared.content.ContentView.{ContentView}
use Rattle.mls_view.specs.declared.content.ContentView.TheVariants as view_of
use Rattle.mls_view.specs.declared.public_message.PublicMessageView.{PublicMessageView}
use Rattle.mls_view.specs.Shown.{ShowsPublic, ShowsContent, ShowsBodyTag}
use Rattle.mls_make.proofs.Lengths.{front, back, inside, content_inside, commit_inside, list_inside, path_inside}
use Rattle.mls_member.specs.Process.{IsShown, IsShortView, IsShortContent}
use denote.Ref.{Bor}

-- ---- lists

-- ---- whole inputs

limited : {A : Type 0} (b : Bool) (r : Result A ℕ) (v : A) → cond b (Err 6) r ≡ Ok v → b ≡ false
limited true r v e = absurd cc
limited false r v e = refl

-- what is read is within the limit
pub within_limit : {V : Type 0} (format : Format V) (limit : ℕ) (bytes : List ℕ) (v : V) → whole format limit bytes ≡ Ok v → length bytes ≤ limit
unfolding whole
within_limit format limit bytes v e = ltb-false _ _ (limited (nat_lt limit (length bytes)) _ v e)

-- ---- messages

message_spelled : (v : messages.PublicMessage) → mls_message.spell (message_of.PublicMessage v) ≡ uint w16 1 ++ (uint w16 1 ++ public_message.spell v)
unfolding mls_message
message_spelled v = refl

public_spelled : (v : messages.PublicMessage) → public_message.spell v ≡ signed_content.spell v.content ++ opaque v.membership_tag
unfolding public_message
public_spelled v = refl

-- a message's FramedContent and FramedContentAuthData
pub signed_parts : (v : messages.PublicMessage) (n : ℕ) → length (mls_message.spell (message_of.PublicMessage v)) ≤ n → length (framed_content.spell (framed_content_of v.content) ++ auth_data v.content) ≤ n
signed_parts v n h =
    let a : length (uint w16 1 ++ (uint w16 1 ++ public_message.spell v)) ≤ n = subst (λ (l : List ℕ). length l ≤ n) (message_spelled v) h in
    let b : length (public_message.spell v) ≤ n = back (uint w16 1) (public_message.spell v) n (back (uint w16 1) _ n a) in
    let d : length (signed_content.spell v.content) ≤ n = front (signed_content.spell v.content) (opaque v.membership_tag) n (subst (λ (l : List ℕ). length l ≤ n) (public_spelled v) b) in
    subst (λ (l : List ℕ). length l ≤ n) (signed_content_spelled v.content) d

pub proposal_inside : (p : _) (n : ℕ) → length (content.spell (says.Proposal p)) ≤ n → length (proposal_format.spell p) ≤ n
unfolding content
proposal_inside p n h = back _ (proposal_format.spell p) n h

-- ---- views

short_content : (view : ContentView) (said : contents.Content) → ShowsContent view said → length (content.spell said) ≤ input_limit → IsShortContent view
short_content (view_of.Application text) said shows h = tt
short_content (view_of.Proposal part) (says.Proposal p) shows h = subst (λ (l : List ℕ). length l ≤ input_limit) (sym shows.spelled) (proposal_inside p input_limit h)
short_content (view_of.Proposal part) (says.Application t) shows h = absurd shows
short_content (view_of.Proposal part) (says.Commit k) shows h = absurd shows
short_content (view_of.Commit proposals path) (says.Commit k) shows h = (
  subst (λ (l : List ℕ). length l ≤ input_limit) (sym shows.0.spelled) (list_inside k input_limit (commit_inside k input_limit h)),
  subst (λ (l : List ℕ). length l ≤ input_limit) (sym shows.1.spelled) (path_inside k input_limit (commit_inside k input_limit h)),
)
short_content (view_of.Commit proposals path) (says.Application t) shows h = absurd shows
short_content (view_of.Commit proposals path) (says.Proposal p) shows h = absurd shows

short_tag : (tag : Option (Bor (List ℕ))) (body : SignedBody) → ShowsBodyTag tag body → length (tag_spelling body) ≤ input_limit → IfSome tag (λ t. length t.now ≤ input_limit)
short_tag None body shows h = tt
short_tag (Some t) (body_of.Application text) shows h = absurd shows
short_tag (Some t) (body_of.Proposal p) shows h = absurd shows
short_tag (Some t) (body_of.Commit k tag) shows h = subst (λ (l : List ℕ). length l ≤ input_limit) (sym shows) (inside tag input_limit h)

is_shown : (view : PublicMessageView) (shown : messages.PublicMessage) → ShowsPublic view shown → IsShown view
unfolding IsShown
is_shown view shown shows = (shown, shows)

-- the parts of a view of a short message
pub short_view : (view : PublicMessageView) (shown : messages.PublicMessage) → ShowsPublic view shown → length (mls_message.spell (message_of.PublicMessage shown)) ≤ input_limit → IsShortView view
short_view view shown shows h =
    let all = signed_parts shown input_limit h in
    let said : length (framed_content.spell (framed_content_of shown.content)) ≤ input_limit = front _ (auth_data shown.content) input_limit all in
    let auth : length (auth_data shown.content) ≤ input_limit = back (framed_content.spell (framed_content_of shown.content)) _ input_limit all in
    record {
      shown = is_shown view shown shows;
      said = subst (λ (l : List ℕ). length l ≤ input_limit) (sym shows.framed_content) said;
      auth = subst (λ (l : List ℕ). length l ≤ input_limit) (sym shows.auth_data) auth;
      signature = subst (λ (l : List ℕ). length l ≤ input_limit) (sym shows.signature) (inside shown.content.signature input_limit (front (opaque shown.content.signature) _ input_limit auth));
      tag = short_tag view.auth.confirmation_tag shown.content.body shows.confirmation_tag (back (opaque shown.content.signature) (tag_spelling shown.content.body) input_limit auth);
      content = short_content view.content.content (content_of_body shown.content.body) shows.content.content (content_inside (framed_content_of shown.content) input_limit said);
    }

-- a view of a message that all of the bytes spell
pub short_lent : (view : PublicMessageView) (shown : messages.PublicMessage) (bytes : List ℕ) → IsBytes bytes → whole mls_message input_limit bytes ≡ Ok (message_of.PublicMessage shown) → ShowsPublic view shown → IsShortView view
short_lent view shown bytes fits e shows =
    let spells = whole_takes mls_message input_limit bytes (message_of.PublicMessage shown) fits e in
    short_view view shown shows (subst (λ (l : List ℕ). length l ≤ input_limit) spells.spelled (within_limit mls_message input_limit bytes (message_of.PublicMessage shown) e))
