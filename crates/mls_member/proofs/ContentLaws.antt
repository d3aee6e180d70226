-- What bytes do, by the message that they are.
use Rattle.std.proofs.Common.{◌≡◌, ℕ, List, Result, Ok, Err, refl, sym, subst}
use Rattle.std.specs.Prelude.{◌≢◌}
use Rattle.mls_wire.specs.Checks.{Passed, passed, DoesAs, ◌>>◌}
use Rattle.mls_wire.specs.Combine.{vector, optional}
use Rattle.mls_wire.specs.Format.{IsBytes}
use Rattle.mls_wire.specs.Whole.{whole}
use Rattle.mls_leaf.specs.declared.proposal.Proposal.{Proposal}
use Rattle.mls_leaf.specs.Faults as leaf_faults
use Rattle.mls_leaf.specs.Faults.{Spells}
use Rattle.mls_leaf.specs.declared.error.LeafError.{LeafError}
use Rattle.mls_leaf.specs.Limits.{input_limit}
use Rattle.mls_leaf.specs.Proposal.{proposal as proposal_format}
use Rattle.mls_types.specs.UpdatePath.{update_path}
use Rattle.mls_suite.specs.Crypto.{Crypto}
use Rattle.mls_tree.specs.Refusals.{RefusesOutright}
use Rattle.mls_types.specs.Commit.{proposal_or_ref, proposal_or_ref_nonempty}
use Rattle.mls_types.specs.Message.{mls_message}
use Rattle.mls_types.specs.SignedParts.{content_of_body}
use Rattle.mls_types.specs.declared.commit.Commit.{Commit}
use Rattle.mls_types.specs.declared.message.MlsMessage.{MlsMessage}
use Rattle.mls_types.specs.declared.message.MlsMessage.TheVariants as message_of
use Rattle.mls_types.specs.declared.public_message.PublicMessage.{PublicMessage}
use Rattle.mls_types.specs.declared.signed.SignedBody.{SignedBody}
use Rattle.mls_types.specs.declared.signed.SignedBody.TheVariants as body_of
use Rattle.mls_types.specs.declared.signed.SignedContent.{SignedContent}
use Rattle.mls_view.specs.declared.content.ContentView.{ContentView}
use Rattle.mls_view.specs.declared.content.ContentView.TheVariants as view_of
use Rattle.mls_view.specs.declared.message.MessageView.{MessageView}
use Rattle.mls_view.specs.declared.message.MessageView.TheVariants as views
use Rattle.mls_view.specs.declared.public_message.PublicMessageView.{PublicMessageView}
use Rattle.mls_view.specs.Shown.{Shows, ShowsPublic, ShowsContent}
use Rattle.mls_view.specs.Views.{LendsAll, LendsWhole}
use Rattle.mls_model.specs.declared.effect.Effect.{Effect}
use Rattle.mls_model.specs.Member.{Member}
use Rattle.mls_model.specs.Messages.{decode_message}
use Rattle.mls_model.specs.Verdict.{framing_checks, content_verdict, proposal_verdict, commit_verdict, bytes_verdict, message_verdict}
use Rattle.mls_member.specs.declared.error.Refusal.{Refusal}
use Rattle.mls_member.specs.Faults.{number_of}
use Rattle.mls_member.specs.Process.{IsShortView, message_outer_checks, sender_of}
use Rattle.mls_member.proofs.LengthLaws.{short_lent}

-- ---- by content

-- a call does this to a member
abbrev pub Does : Result (Effect × Member) ℕ → Member → Member → Result Effect Refusal → Type 0
Does defined old new result = DoesAs (λ e. e) number_of defined old new result

-- behind checks that have passed
pub behind_checks : (checks : Result Passed ℕ) (defined : Result (Effect × Member) ℕ) (old new : Member) (result : Result Effect Refusal) → checks ≡ Ok passed → Does defined old new result → Does (checks >> defined) old new result
behind_checks checks defined old new result e h = subst (λ (r : Result Passed ℕ). Does (r >> defined) old new result) (sym e) h

application_content : (c : Crypto) (m : Member) (v : SignedContent) (bytes : List ℕ) (body : SignedBody) (view : ContentView) (text : _) → view ≡ view_of.Application text → ShowsContent view (content_of_body body) → content_verdict c m v bytes body ≡ Err 45
unfolding content_verdict
application_content c m v bytes (body_of.Application t) view text is shows = refl
application_content c m v bytes (body_of.Proposal p) view text is shows = absurd (subst (λ (x : ContentView). ShowsContent x (content_of_body (body_of.Proposal p))) is shows)
application_content c m v bytes (body_of.Commit k tag) view text is shows = absurd (subst (λ (x : ContentView). ShowsContent x (content_of_body (body_of.Commit k tag))) is shows)

pub application_is : (c : Crypto) (m : Member) (view : PublicMessageView) (shown : PublicMessage) (bytes : List ℕ) (text : _) → ShowsPublic view shown → view.content.content ≡ view_of.Application text → framing_checks c m shown bytes ≡ Ok passed → message_verdict c m shown bytes ≡ Err 45
application_is c m view shown bytes text shows is e = rw e (application_content c m shown.content bytes shown.content.body view.content.content text is shows.content.content)

proposal_content : (c : Crypto) (m : Member) (v : SignedContent) (bytes : List ℕ) (body : SignedBody) (view : ContentView) (part : List ℕ) (new : Member) (result : Result Effect Refusal) → view ≡ view_of.Proposal part → ShowsContent view (content_of_body body)
    → ((made : Proposal) → Spells proposal_format made part → Does (proposal_verdict c m v bytes made) m new result) → Does (content_verdict c m v bytes body) m new result
unfolding content_verdict
proposal_content c m v bytes (body_of.Application t) view part new result is shows h = absurd (subst (λ (x : ContentView). ShowsContent x (content_of_body (body_of.Application t))) is shows)
proposal_content c m v bytes (body_of.Proposal p) view part new result is shows h = h p (subst (λ (x : ContentView). ShowsContent x (content_of_body (body_of.Proposal p))) is shows)
proposal_content c m v bytes (body_of.Commit k tag) view part new result is shows h = absurd (subst (λ (x : ContentView). ShowsContent x (content_of_body (body_of.Commit k tag))) is shows)

pub proposal_does : (c : Crypto) (m : Member) (view : PublicMessageView) (shown : PublicMessage) (bytes part : List ℕ) (new : Member) (result : Result Effect Refusal) → ShowsPublic view shown → view.content.content ≡ view_of.Proposal part → framing_checks c m shown bytes ≡ Ok passed
    → ((made : Proposal) → Spells proposal_format made part → Does (proposal_verdict c m shown.content bytes made) m new result) → Does (message_verdict c m shown bytes) m new result
proposal_does c m view shown bytes part new result shows is e h =
    behind_checks (framing_checks c m shown bytes) (content_verdict c m shown.content bytes shown.content.body) m new result e
    (proposal_content c m shown.content bytes shown.content.body view.content.content part new result is shows.content.content h)

commit_content : (c : Crypto) (m : Member) (v : SignedContent) (bytes : List ℕ) (body : SignedBody) (view : ContentView) (list path : List ℕ) (new : Member) (result : Result Effect Refusal) → view ≡ view_of.Commit list path → ShowsContent view (content_of_body body)
    → ((k : Commit) (tag : List ℕ) → body ≡ body_of.Commit k tag → Spells (vector proposal_or_ref proposal_or_ref_nonempty) k.proposals list → Spells (optional update_path) k.path path → Does (commit_verdict c m v k tag) m new result) → Does (content_verdict c m v bytes body) m new result
unfolding content_verdict
commit_content c m v bytes (body_of.Application t) view list path new result is shows h = absurd (subst (λ (x : ContentView). ShowsContent x (content_of_body (body_of.Application t))) is shows)
commit_content c m v bytes (body_of.Proposal p) view list path new result is shows h = absurd (subst (λ (x : ContentView). ShowsContent x (content_of_body (body_of.Proposal p))) is shows)
commit_content c m v bytes (body_of.Commit k tag) view list path new result is shows h =
    let parts = subst (λ (x : ContentView). ShowsContent x (content_of_body (body_of.Commit k tag))) is shows in
    h k tag refl parts.0 parts.1

pub commit_does : (c : Crypto) (m : Member) (view : PublicMessageView) (shown : PublicMessage) (bytes list path : List ℕ) (new : Member) (result : Result Effect Refusal) → ShowsPublic view shown → view.content.content ≡ view_of.Commit list path → framing_checks c m shown bytes ≡ Ok passed
    → ((k : Commit) (tag : List ℕ) → shown.content.body ≡ body_of.Commit k tag → Spells (vector proposal_or_ref proposal_or_ref_nonempty) k.proposals list → Spells (optional update_path) k.path path → Does (commit_verdict c m shown.content k tag) m new result)
    → Does (message_verdict c m shown bytes) m new result
commit_does c m view shown bytes list path new result shows is e h =
    behind_checks (framing_checks c m shown bytes) (content_verdict c m shown.content bytes shown.content.body) m new result e
    (commit_content c m shown.content bytes shown.content.body view.content.content list path new result is shows.content.content h)

-- ---- bytes

-- the message that a view of a PublicMessage shows
pub record IsPublic (bytes : List ℕ) (view : PublicMessageView) : Type 0 where
  pub shown : PublicMessage
  pub is_read : whole mls_message input_limit bytes ≡ Ok (message_of.PublicMessage shown)
  pub shows : ShowsPublic view shown

is_public : (bytes : List ℕ) (view : PublicMessageView) (value : MlsMessage) → whole mls_message input_limit bytes ≡ Ok value → Shows (views.PublicMessage view) value → IsPublic bytes view
is_public bytes view (message_of.PublicMessage v) e shows = record { shown = v; is_read = e; shows = shows }
is_public bytes view (message_of.Welcome v) e shows = absurd shows
is_public bytes view (message_of.GroupInfo v) e shows = absurd shows
is_public bytes view (message_of.KeyPackage v) e shows = absurd shows

-- what the reading of bytes came to: this view, or this fault
pub lent_all : (bytes : List ℕ) (r : Result MessageView LeafError) (v : MessageView) → r ≡ Ok v → LendsWhole mls_message input_limit Shows bytes r → LendsAll mls_message input_limit Shows bytes v
lent_all bytes r v e lends = subst (λ (x : Result MessageView LeafError). LendsWhole mls_message input_limit Shows bytes x) e lends

pub lent_fault : (bytes : List ℕ) (r : Result MessageView LeafError) (f : LeafError) → r ≡ Err f → LendsWhole mls_message input_limit Shows bytes r → whole mls_message input_limit bytes ≡ Err (leaf_faults.number_of f)
lent_fault bytes r f e lends = subst (λ (x : Result MessageView LeafError). LendsWhole mls_message input_limit Shows bytes x) e lends

pub public_of : (bytes : List ℕ) (whole_view : MessageView) (view : PublicMessageView) → LendsAll mls_message input_limit Shows bytes whole_view → whole_view ≡ views.PublicMessage view → IsPublic bytes view
public_of bytes whole_view view lends is = is_public bytes view lends.value lends.is_read (subst (λ (x : MessageView). Shows x lends.value) is lends.shows)

pub short_public : (bytes : List ℕ) (view : PublicMessageView) → IsBytes bytes → IsPublic bytes view → IsShortView view
short_public bytes view fits p = short_lent view p.shown bytes fits p.is_read p.shows

pub public_does : (c : Crypto) (m : Member) (bytes : List ℕ) (view : PublicMessageView) (new : Member) (result : Result Effect Refusal) → IsPublic bytes view
    → ((shown : PublicMessage) → ShowsPublic view shown → Does (message_verdict c m shown bytes) m new result) → Does (bytes_verdict c m bytes) m new result
unfolding bytes_verdict decode_message
public_does c m bytes view new result p h = rw p.is_read (h p.shown p.shows)

pub public_outright : (m : Member) (bytes : List ℕ) (view : PublicMessageView) (result : Result Effect Refusal) → IsPublic bytes view
    → ((shown : PublicMessage) → ShowsPublic view shown → RefusesOutright number_of (sender_of m shown) result) → RefusesOutright number_of (message_outer_checks m bytes) result
unfolding message_outer_checks decode_message
public_outright m bytes view result p h = rw p.is_read (h p.shown p.shows)

-- another message
other_message : (c : Crypto) (m : Member) (bytes : List ℕ) (view : MessageView) (value : MlsMessage) → whole mls_message input_limit bytes ≡ Ok value → Shows view value → ((x : PublicMessageView) → view ≢ views.PublicMessage x) → (bytes_verdict c m bytes ≡ Err 41) × (message_outer_checks m bytes ≡ Err 41)
unfolding bytes_verdict message_outer_checks decode_message
other_message c m bytes (views.PublicMessage x) value e shows none = absurd (none x refl)
other_message c m bytes (views.Welcome x) (message_of.PublicMessage v) e shows none = absurd shows
other_message c m bytes (views.GroupInfo x) (message_of.PublicMessage v) e shows none = absurd shows
other_message c m bytes (views.KeyPackage x) (message_of.PublicMessage v) e shows none = absurd shows
other_message c m bytes view (message_of.Welcome v) e shows none = (rw e refl, rw e refl)
other_message c m bytes view (message_of.GroupInfo v) e shows none = (rw e refl, rw e refl)
other_message c m bytes view (message_of.KeyPackage v) e shows none = (rw e refl, rw e refl)

pub other_of : (c : Crypto) (m : Member) (bytes : List ℕ) (view : MessageView) → LendsAll mls_message input_limit Shows bytes view → ((x : PublicMessageView) → view ≢ views.PublicMessage x) → (bytes_verdict c m bytes ≡ Err 41) × (message_outer_checks m bytes ≡ Err 41)
other_of c m bytes view lends none = other_message c m bytes view lends.value lends.is_read lends.shows none

-- bytes that are no message
pub no_message : (c : Crypto) (m : Member) (bytes : List ℕ) (n : ℕ) → whole mls_message input_limit bytes ≡ Err n → (bytes_verdict c m bytes ≡ Err n) × (message_outer_checks m bytes ≡ Err n)
unfolding bytes_verdict message_outer_checks decode_message
no_message c m bytes n e = (rw e refl, rw e refl)
