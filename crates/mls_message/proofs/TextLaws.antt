-- What a member signs, tags, references and sends, piece by piece.
use Rattle.std.proofs.Common.{◌≡◌, ℕ, ◌+◌, ◌-◌, ◌≤◌, List, ◌++◌, length, take, drop, Ok, refl, sym, ap, ◌∙◌, append_assoc, arith, length-append}
use Rattle.std.specs.Int.{w16}
use Rattle.std.proofs.lemmas.List.{append-nil}
use Rattle.std.proofs.Math.Seq.{take-append_seam, drop-append_seam}
use Rattle.mls_wire.specs.Format.{IsBytes}
use Rattle.mls_wire.specs.Reading.{uint, header, opaque}
use Rattle.mls_kdf.specs.Lengths.{length-hmac}
use Rattle.mls_types.specs.GroupContext.{group_context}
use Rattle.mls_types.specs.declared.group_context.GroupContext.{GroupContext}
use Rattle.mls_types.specs.Content.{framed_content}
use Rattle.mls_types.specs.Message.{mls_message}
use Rattle.mls_types.specs.Reference.{proposal_reference}
use Rattle.mls_types.specs.PublicMessage.{wire_format, public_message, authenticated_content}
use Rattle.mls_types.specs.Signed.{signed_content}
use Rattle.mls_types.specs.SignedParts.{framed_content_of, auth_data}
use Rattle.mls_types.proofs.SignedParts.{signed_content_spelled}
use Rattle.mls_types.specs.Signing.{framed_content_tbs, signed_pieces, authenticated_content_tbm}
use Rattle.mls_types.specs.declared.content.FramedContent.{FramedContent}
use Rattle.mls_types.specs.declared.message.MlsMessage.TheVariants as message
use Rattle.mls_types.specs.declared.public_message.WireFormat.TheVariants as format
use Rattle.mls_types.specs.declared.signed.SignedContent.{SignedContent}
use Rattle.mls_schedule.specs.Epoch.{membership_tag}
use Rattle.mls_model.specs.Member.{Member}
use Rattle.mls_model.specs.Messages.{content_tag, message_by, reference_of}
use Rattle.mls_message.specs.Pieces.{untagged, IsUntagged}
use Rattle.mls_public_group.specs.MessageLimit.{limited_text}
use Rattle.mls_message.specs.Speaks.{Speaks}
use Rattle.mls_message.specs.declared.speaker.Speaker.{Speaker}
use Rattle.mls_message.proofs.WithinLaws.{limited_within}

format_is : wire_format.spell format.PublicMessage ≡ uint w16 1
unfolding wire_format
format_is = append-nil (uint w16 1)

-- ---- signatures

pub signed_is : (said : FramedContent) (context : GroupContext) → signed_pieces (framed_content.spell said) (group_context.spell context) ≡ framed_content_tbs format.PublicMessage said context
signed_is said context = rw format_is refl

-- ---- references

-- behind the version stands the AuthenticatedContent
referenced : (v : SignedContent) → drop 2 (untagged v) ≡ authenticated_content.spell (record { wire_format = format.PublicMessage; content = v })
unfolding authenticated_content uint
referenced v = sym (ap (λ (l : List ℕ). l ++ signed_content.spell v) format_is)

pub reference_is : (v : SignedContent) (text : List ℕ) → text ≡ untagged v → proposal_reference (drop 2 text) ≡ reference_of v
unfolding reference_of
reference_is v text e = rw e (ap proposal_reference (referenced v))

-- the version is there
pub version_within : (v : SignedContent) → 2 ≤ length (untagged v)
unfolding uint
version_within v = omega (arith, length-append (uint w16 1) (uint w16 1 ++ signed_content.spell v))

-- ---- tags

-- the text in its two parts: up to the FramedContentAuthData, and that
abbrev front_of : SignedContent → List ℕ
front_of v = uint w16 1 ++ uint w16 1 ++ framed_content.spell (framed_content_of v)

two_parts : (v : SignedContent) → untagged v ≡ front_of v ++ auth_data v
two_parts v = rw (signed_content_spelled v) (simp append_assoc)

pub auth_within : (v : SignedContent) → length (auth_data v) ≤ length (untagged v)
auth_within v = omega (arith, ap length (two_parts v), length-append (front_of v) (auth_data v))

seam : (a b : List ℕ) → length (a ++ b) - length b ≡ length a
seam a b = omega (arith, length-append a b)

front_is : (v : SignedContent) → take (length (untagged v) - length (auth_data v)) (untagged v) ≡ front_of v
front_is v = rw (two_parts v, seam (front_of v) (auth_data v)) (take-append_seam (front_of v) (auth_data v))

auth_is : (v : SignedContent) → drop (length (untagged v) - length (auth_data v)) (untagged v) ≡ auth_data v
auth_is v = rw (two_parts v, seam (front_of v) (auth_data v)) (drop-append_seam (front_of v) (auth_data v))

-- the context between them makes the AuthenticatedContentTBM
tagged_is : (v : SignedContent) (context : GroupContext) →
    let at : ℕ = length (untagged v) - length (auth_data v) in take at (untagged v) ++ group_context.spell context ++ drop at (untagged v) ≡ authenticated_content_tbm format.PublicMessage v context
tagged_is v context = rw (front_is v, auth_is v, format_is) refl

-- a member's tag of the two parts with the context between them
pub tag_is : (m : Member) (s : Speaker) (v : SignedContent) (text front context back : List ℕ) (n k : ℕ) → Speaks m s → text ≡ untagged v → n ≡ length text → k ≡ length (auth_data v)
    → front ≡ take (n - k) text → context ≡ group_context.spell s.group.now.context → back ≡ drop (n - k) text → membership_tag s.epoch.now (front ++ context ++ back) ≡ content_tag m.epoch_secret v m.public.context
unfolding content_tag
tag_is m s v text front context back n k speaks t e l f g b = rw (f, g, b, e, l, t, speaks.epoch, speaks.public) (ap (membership_tag s.epoch.now) (tagged_is v s.group.now.context))

-- ---- messages

message_spelled : (v : SignedContent) (tag : List ℕ) → mls_message.spell (message.PublicMessage (record { content = v; membership_tag = tag })) ≡ uint w16 1 ++ (uint w16 1 ++ (signed_content.spell v ++ opaque tag))
unfolding mls_message public_message
message_spelled v tag = refl

-- a message is the text, and the tag behind it
sent_is : (m : Member) (v : SignedContent) → message_by m v ≡ untagged v ++ opaque (content_tag m.epoch_secret v m.public.context)
unfolding message_by
sent_is m v = message_spelled v (content_tag m.epoch_secret v m.public.context) ∙ simp append_assoc

tag_is_32 : (epoch : List ℕ) (v : SignedContent) (context : GroupContext) → length (content_tag epoch v context) ≡ 32
unfolding content_tag membership_tag
tag_is_32 epoch v context = length-hmac _ _

behind_header : (tag : List ℕ) → length tag ≡ 32 → length (opaque tag) ≡ 33
unfolding header
behind_header tag e = rw e (omega (arith, e))

pub sent_length : (m : Member) (v : SignedContent) → length (message_by m v) ≡ length (untagged v) + 33
sent_length m v =
    let tag : List ℕ = content_tag m.epoch_secret v m.public.context in
    omega (arith, ap length (sent_is m v), length-append (untagged v) (opaque tag), behind_header tag (tag_is_32 m.epoch_secret v m.public.context))

-- code's message is the member's
pub message_is : (m : Member) (v : SignedContent) (text tag bytes : List ℕ) → IsUntagged v text → tag ≡ content_tag m.epoch_secret v m.public.context → bytes ≡ text ++ opaque tag → IsBytes bytes → limited_text (message_by m v) ≡ Ok bytes
message_is m v text tag bytes u t e is_bytes =
    let is : message_by m v ≡ bytes = sent_is m v ∙ sym (e ∙ rw (u.spelled, t) refl) in
    rw is (limited_within bytes is_bytes (omega (arith, ap length is, sent_length m v, u.room, ap length u.spelled)))
