-- How a public message is read: its FramedContent, the FramedContentAuthData behind it, and the membership tag.
use Rattle.std.proofs.Common.{◌≡◌, ℕ, List, [], ◌++◌, Option, Some, None, Result, Ok, Err, refl, sym, ap, subst, ◌∙◌, append_assoc}
use Rattle.std.proofs.lemmas.List.{append_cancel_left}
use Rattle.mls_wire.specs.Reading.{◌>>=◌, opaque_at}
use Rattle.mls_wire.specs.Format.{IsBytes}
use Rattle.mls_wire.specs.Combine.{byte_string}
use Rattle.mls_wire.specs.CombineReads.{next_read, seen_read}
use Rattle.mls_types.specs.Content.{framed_content}
use Rattle.mls_types.specs.Signed.{signed_content}
use Rattle.mls_types.specs.SignedParts.{framed_content_of, auth_data, with_signature, body_with_tag}
use Rattle.mls_types.proofs.SignedParts.{signed_content_spelled, framed_signed_with}
use Rattle.mls_types.specs.SignedLaws.{auth_at, signed_from}
use Rattle.mls_types.proofs.SignedLaws.{signed_content_read}
use Rattle.mls_types.specs.PublicMessage.{public_message}
use Rattle.mls_types.specs.declared.content.Content as contents
use Rattle.mls_types.specs.declared.content.Content.TheVariants as says
use Rattle.mls_types.specs.declared.content.FramedContent.{FramedContent}
use Rattle.mls_types.specs.declared.signed.SignedContent.{SignedContent}
use Rattle.mls_types.specs.declared.public_message.PublicMessage as messages
use Rattle.mls_view.specs.declared.content.ContentView.{ContentView}
use Rattle.mls_view.specs.declared.content.ContentView.TheVariants.{Application, Proposal, Commit}
use Rattle.mls_leaf.specs.Faults.{Spells}
use Rattle.mls_view.specs.declared.content.FramedContentView.{FramedContentView}
use Rattle.mls_view.specs.declared.auth.AuthDataView.{AuthDataView}
use Rattle.mls_view.specs.Views.{Lends}
use Rattle.mls_view.specs.Shown.{ShowsContent, ShowsFramed, ShowsPublic, ShowsTag, ShowsBodyTag, LendsAuth}
use denote.Ref.{Bor}

abbrev pub message_of : FramedContent → List ℕ × List ℕ → List ℕ → messages.PublicMessage
message_of said auth tag = record { content = with_signature said auth.0 auth.1; membership_tag = tag }

abbrev tagged_from : FramedContent → (List ℕ × List ℕ) × List ℕ → Result (messages.PublicMessage × List ℕ) ℕ
tagged_from said y = opaque_at y.1 >>= λ z. Ok (message_of said y.0 z.0, z.1)

abbrev public_from : FramedContent × List ℕ → Result (messages.PublicMessage × List ℕ) ℕ
public_from x = auth_at x.0.content x.1 >>= tagged_from x.0

abbrev public_of : Result (SignedContent × List ℕ) ℕ → Result (messages.PublicMessage × List ℕ) ℕ
public_of r = (r >>= next_read (λ (x : SignedContent). byte_string)) >>= seen_read (λ (x : SignedContent × List ℕ). record { content = x.0; membership_tag = x.1 })

abbrev tag_behind : SignedContent → Result (List ℕ × List ℕ) ℕ → Result ((SignedContent × List ℕ) × List ℕ) ℕ
tag_behind v r = r >>= λ y. Ok ((v, y.0), y.1)

tag_last : (said : FramedContent) (auth : List ℕ × List ℕ) (r : Result (List ℕ × List ℕ) ℕ)
    → (tag_behind (with_signature said auth.0 auth.1) r >>= seen_read (λ (x : SignedContent × List ℕ). let m : messages.PublicMessage = record { content = x.0; membership_tag = x.1 } in m)) ≡ (r >>= λ z. Ok (message_of said auth z.0, z.1))
tag_last said auth (Ok z) = refl
tag_last said auth (Err e) = refl

auth_last : (said : FramedContent) (r : Result ((List ℕ × List ℕ) × List ℕ) ℕ) → public_of (r >>= λ y. Ok (with_signature said y.0.0 y.0.1, y.1)) ≡ (r >>= tagged_from said)
auth_last said (Ok y) = tag_last said y.0 (opaque_at y.1)
auth_last said (Err e) = refl

framed_last : (r : Result (FramedContent × List ℕ) ℕ) → public_of (r >>= signed_from) ≡ (r >>= public_from)
framed_last (Ok x) = auth_last x.0 (auth_at x.0.content x.1)
framed_last (Err e) = refl

pub public_message_read : (bytes : List ℕ) → public_message.read bytes ≡ (framed_content.read bytes >>= public_from)
unfolding public_message
public_message_read bytes = ap public_of (signed_content_read bytes) ∙ framed_last (framed_content.read bytes)

-- ---- its first fault

pub fault_of_content : (bytes : List ℕ) (n : ℕ) → framed_content.read bytes ≡ Err n → public_message.read bytes ≡ Err n
fault_of_content bytes n e = public_message_read bytes ∙ rw e refl

pub fault_of_auth : (said : FramedContent) (bytes middle : List ℕ) (n : ℕ) → framed_content.read bytes ≡ Ok (said, middle) → auth_at said.content middle ≡ Err n → public_message.read bytes ≡ Err n
fault_of_auth said bytes middle n first e = public_message_read bytes ∙ rw (first, e) refl

pub fault_of_tag : (said : FramedContent) (auth : List ℕ × List ℕ) (bytes middle behind : List ℕ) (n : ℕ) → framed_content.read bytes ≡ Ok (said, middle) → auth_at said.content middle ≡ Ok (auth, behind) → opaque_at behind ≡ Err n
    → public_message.read bytes ≡ Err n
fault_of_tag said auth bytes middle behind n first second e = public_message_read bytes ∙ rw (first, second, e) refl

-- ---- what was read of it

-- the message, and the bytes of its parts
pub record PublicRead (said : FramedContent) (auth : List ℕ × List ℕ) (tag bytes middle behind rest : List ℕ) : Type 0 where
  pub is_read : public_message.read bytes ≡ Ok (message_of said auth tag, rest)
  pub framed_part : bytes ≡ framed_content.spell said ++ middle
  pub auth_part : middle ≡ auth_data (with_signature said auth.0 auth.1) ++ behind

pub public_is_read : (said : FramedContent) (auth : List ℕ × List ℕ) (tag bytes middle behind rest : List ℕ) → IsBytes bytes → framed_content.read bytes ≡ Ok (said, middle) → auth_at said.content middle ≡ Ok (auth, behind)
    → opaque_at behind ≡ Ok (tag, rest) → PublicRead said auth tag bytes middle behind rest
public_is_read said auth tag bytes middle behind rest fits first second third =
    let v = with_signature said auth.0 auth.1 in
    let signed : signed_content.read bytes ≡ Ok (with_signature said auth.0 auth.1, behind) = signed_content_read bytes ∙ rw (first, second) refl in
    let one : bytes ≡ framed_content.spell said ++ middle = (framed_content.lawful.takes bytes said middle fits first).0.parts in
    let all : bytes ≡ signed_content.spell v ++ behind = (signed_content.lawful.takes bytes v behind fits signed).0.parts in
    let front : framed_content.spell (framed_content_of v) ≡ framed_content.spell said = ap framed_content.spell (framed_signed_with said auth.0 auth.1) in
    let split : bytes ≡ framed_content.spell said ++ (auth_data v ++ behind) =
    all ∙ ap (λ (l : List ℕ). l ++ behind) (signed_content_spelled v ∙ ap (λ (l : List ℕ). l ++ auth_data v) front) ∙ append_assoc (framed_content.spell said) (auth_data v) behind in
    record {
      is_read = public_message_read bytes ∙ rw (first, second, third) refl;
      framed_part = one;
      auth_part = append_cancel_left (framed_content.spell said) middle (auth_data v ++ behind) (sym one ∙ split);
    }

-- ---- confirmation tags

pub text_auth : (view : ContentView) (text : Bor (List ℕ)) (said : contents.Content) (old new : List ℕ) (s : Bor (List ℕ)) → view ≡ Application text → ShowsContent view said → opaque_at old ≡ Ok (s.now, new)
    → LendsAuth said old (record { signature = s; confirmation_tag = None }) new
text_auth view text (says.Application shown) old new s is shows e = record { value = (s.now, []); is_read = rw e refl; signature = refl; confirmation_tag = tt }
text_auth view text (says.Proposal shown) old new s is shows e = absurd (subst (λ (x : ContentView). ShowsContent x (says.Proposal shown)) is shows)
text_auth view text (says.Commit shown) old new s is shows e = absurd (subst (λ (x : ContentView). ShowsContent x (says.Commit shown)) is shows)

pub proposal_auth : (view : ContentView) (part : List ℕ) (said : contents.Content) (old new : List ℕ) (s : Bor (List ℕ)) → view ≡ Proposal part → ShowsContent view said → opaque_at old ≡ Ok (s.now, new)
    → LendsAuth said old (record { signature = s; confirmation_tag = None }) new
proposal_auth view part (says.Application shown) old new s is shows e = absurd (subst (λ (x : ContentView). ShowsContent x (says.Application shown)) is shows)
proposal_auth view part (says.Proposal shown) old new s is shows e = record { value = (s.now, []); is_read = rw e refl; signature = refl; confirmation_tag = tt }
proposal_auth view part (says.Commit shown) old new s is shows e = absurd (subst (λ (x : ContentView). ShowsContent x (says.Commit shown)) is shows)

pub commit_auth : (view : ContentView) (proposals path : List ℕ) (said : contents.Content) (old middle new : List ℕ) (s t : Bor (List ℕ)) → view ≡ Commit proposals path → ShowsContent view said → opaque_at old ≡ Ok (s.now, middle)
    → opaque_at middle ≡ Ok (t.now, new) → LendsAuth said old (record { signature = s; confirmation_tag = Some t }) new
commit_auth view proposals path (says.Application shown) old middle new s t is shows e f = absurd (subst (λ (x : ContentView). ShowsContent x (says.Application shown)) is shows)
commit_auth view proposals path (says.Proposal shown) old middle new s t is shows e f = absurd (subst (λ (x : ContentView). ShowsContent x (says.Proposal shown)) is shows)
commit_auth view proposals path (says.Commit shown) old middle new s t is shows e f = record { value = (s.now, t.now); is_read = rw (e, f) refl; signature = refl; confirmation_tag = refl }

pub shows_tag : (view : Option (Bor (List ℕ))) (said : contents.Content) (tag : List ℕ) → ShowsTag view said tag → ShowsBodyTag view (body_with_tag said tag)
shows_tag None (says.Application shown) tag shows = tt
shows_tag None (says.Proposal shown) tag shows = tt
shows_tag None (says.Commit shown) tag shows = absurd shows
shows_tag (Some view) (says.Application shown) tag shows = absurd shows
shows_tag (Some view) (says.Proposal shown) tag shows = absurd shows
shows_tag (Some view) (says.Commit shown) tag shows = shows

-- the view of all of it
pub public_shown : (content : FramedContentView) (auth : AuthDataView) (tag framed_bytes auth_bytes : Bor (List ℕ)) (all bytes middle behind rest : List ℕ) → IsBytes bytes → (r : Lends framed_content ShowsFramed bytes content middle)
    → (a : LendsAuth r.value.content middle auth behind) → opaque_at behind ≡ Ok (tag.now, rest) → ((text : List ℕ) → bytes ≡ text ++ middle → framed_bytes.now ≡ text) → ((text : List ℕ) → middle ≡ text ++ behind → auth_bytes.now ≡ text)
    → ((v : messages.PublicMessage) → public_message.read bytes ≡ Ok (v, rest) → Spells public_message v all)
    → Lends public_message ShowsPublic bytes (record { content = content; auth = auth; membership_tag = tag; framed_content = framed_bytes; auth_data = auth_bytes; whole = all }) rest
public_shown content auth tag framed_bytes auth_bytes all bytes middle behind rest fits r a third framed_is auth_is all_is =
    let reads = public_is_read r.value a.value tag.now bytes middle behind rest fits r.is_read a.is_read third in
    let same : framed_content_of (with_signature r.value a.value.0 a.value.1) ≡ r.value = framed_signed_with r.value a.value.0 a.value.1 in
    let shown : ShowsPublic (record { content = content; auth = auth; membership_tag = tag; framed_content = framed_bytes; auth_data = auth_bytes; whole = all }) (message_of r.value a.value tag.now) = record {
      content = subst (λ (x : FramedContent). ShowsFramed content x) (sym same) r.shows;
      signature = a.signature;
      confirmation_tag = shows_tag auth.confirmation_tag r.value.content a.value.1 a.confirmation_tag;
      membership_tag = refl;
      framed_content = framed_is (framed_content.spell r.value) reads.framed_part ∙ ap framed_content.spell (sym same);
      auth_data = auth_is (auth_data (with_signature r.value a.value.0 a.value.1)) reads.auth_part;
      whole = all_is (message_of r.value a.value tag.now) reads.is_read;
    } in
    record { value = message_of r.value a.value tag.now; is_read = reads.is_read; shows = shown }
