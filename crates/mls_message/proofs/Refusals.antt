-- When no message of a content is within the limit.
use Rattle.std.proofs.Common.{◌≡◌, ℕ, ◌+◌, ◌<◌, ◌≤◌, ◌^◌, List, ◌++◌, length, refl, subst, ap, arith, inl, inr}
use Rattle.std.specs.Int.{w16}
use Rattle.std.proofs.lemmas.Bool.{cases_lt}
use Rattle.mls_wire.specs.Reading.{uint}
use Rattle.mls_wire.specs.declared.WireError.TheVariants as wire
use Rattle.mls_leaf.specs.Faults.{Refuses, number_of}
use Rattle.mls_leaf.specs.Limits.{input_limit}
use Rattle.mls_leaf.specs.declared.error.LeafError.{LeafError}
use Rattle.mls_leaf.specs.declared.error.LeafError.TheVariants.{Wire, BadTag, UnsupportedCredential, UnsupportedProposal, NotRising, ExtensionNotAllowed}
use Rattle.mls_types.specs.Content.{framed_content}
use Rattle.mls_types.specs.Signed.{signed_content}
use Rattle.mls_types.specs.SignedParts.{framed_content_of, auth_data, with_signature}
use Rattle.mls_types.proofs.SignedParts.{signed_content_spelled, framed_signed_with}
use Rattle.mls_types.specs.declared.content.FramedContent.{FramedContent}
use Rattle.mls_types.specs.declared.signed.SignedContent.{SignedContent}
use Rattle.mls_model.specs.Member.{Member}
use Rattle.mls_model.specs.Messages.{message_by}
use Rattle.mls_public_group.proofs.Lengths.{first_within, last_within}
use Rattle.mls_public_group.proofs.Limits.{past_limit}
use Rattle.mls_public_group.specs.MessageLimit.{IsLong}
use Rattle.mls_message.specs.Pieces.{untagged, tag_length, IsTooLarge}
use Rattle.mls_message.specs.Sending.{IsRefused}
use Rattle.mls_message.proofs.TextLaws.{sent_length}

-- ---- by its content

-- a content is no longer than its message
content_within : (m : Member) (v : SignedContent) → length (framed_content.spell (framed_content_of v)) ≤ length (message_by m v)
content_within m v =
    omega (
      arith,
      sent_length m v,
      last_within (uint w16 1) (uint w16 1 ++ signed_content.spell v),
      last_within (uint w16 1) (signed_content.spell v),
      ap length (signed_content_spelled v),
      first_within (framed_content.spell (framed_content_of v)) (auth_data v),
    )

framed_within : (m : Member) (said : FramedContent) (signature tag : List ℕ) → length (framed_content.spell said) ≤ length (message_by m (with_signature said signature tag))
framed_within m said signature tag =
    subst (λ (x : FramedContent). length (framed_content.spell x) ≤ length (message_by m (with_signature said signature tag))) (framed_signed_with said signature tag) (content_within m (with_signature said signature tag))

-- a content that is longer than the limit is refused
pub refused_long : (m : Member) (said : FramedContent) (e : LeafError) → IsLong (framed_content.spell said) e → IsRefused m said e
refused_long m said e long = λ no signature tag.
    rw (long no).0 (past_limit (message_by m (with_signature said signature tag)) (omega (arith, (long no).1, framed_within m said signature tag)))

-- what has no spelling is longer
unfit_long : (text : List ℕ) (P : Type 0) → (length text < 2 ^ 30 → P) → (P → ⊥) → input_limit < length text
unfit_long text P fits unfit =
    elim (cases_lt (length text) (2 ^ 30)) [
      | inl lt ↦ absurd (unfit (fits lt))
      | inr ge ↦ omega arith
    ]

pub refused_unfit : (text : List ℕ) (P : Type 0) (e : LeafError) → (length text < 2 ^ 30 → P) → Refuses P e → IsLong text e
refused_unfit text P (Wire wire.OutOfMemory) fits r = λ no. absurd (no refl)
refused_unfit text P (Wire wire.TooLong) fits r = λ no. (refl, unfit_long text P fits r)
refused_unfit text P (Wire wire.Truncated) fits r = absurd r
refused_unfit text P (Wire wire.Trailing) fits r = absurd r
refused_unfit text P (Wire wire.BadLength) fits r = absurd r
refused_unfit text P (Wire wire.NotMinimal) fits r = absurd r
refused_unfit text P BadTag fits r = absurd r
refused_unfit text P UnsupportedCredential fits r = absurd r
refused_unfit text P UnsupportedProposal fits r = absurd r
refused_unfit text P NotRising fits r = absurd r
refused_unfit text P ExtensionNotAllowed fits r = absurd r

-- the same of what a spelling's bytes are
pub refused_past : (text bytes : List ℕ) (e : LeafError) → bytes ≡ text → number_of e ≡ 6 → input_limit < length bytes + 0 → IsLong text e
refused_past text bytes e is six lt = λ no. (six, omega (arith, lt, ap length is))

-- ---- by its text

-- a text that has no room for its tag is refused
pub too_large : (v : SignedContent) (e : LeafError) → number_of e ≡ 6 → input_limit < length (untagged v) + tag_length → IsTooLarge v e
too_large v e six lt = λ no m. rw (six, past_limit (message_by m v) (omega (arith, lt, sent_length m v))) refl

-- what isn't written of a content that has a spelling is wanted for memory
pub wanted : (v : SignedContent) (e : LeafError) → signed_content.Fits v → Refuses (signed_content.Fits v) e → IsTooLarge v e
wanted v (Wire wire.OutOfMemory) fits r = λ no. absurd (no refl)
wanted v (Wire wire.TooLong) fits r = absurd (r fits)
wanted v (Wire wire.Truncated) fits r = absurd r
wanted v (Wire wire.Trailing) fits r = absurd r
wanted v (Wire wire.BadLength) fits r = absurd r
wanted v (Wire wire.NotMinimal) fits r = absurd r
wanted v BadTag fits r = absurd r
wanted v UnsupportedCredential fits r = absurd r
wanted v UnsupportedProposal fits r = absurd r
wanted v NotRising fits r = absurd r
wanted v ExtensionNotAllowed fits r = absurd r
