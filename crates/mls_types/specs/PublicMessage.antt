-- The formats of wire formats, of public messages and of what is hashed of them (RFC 9420, 6, 6.2 and 17.2).
use Rattle.std.specs.Prelude.{◌≡◌, refl}
use Rattle.std.proofs.Common.{◌⊎◌, inl, inr}
use Rattle.mls_wire.specs.Format.{Format}
use Rattle.mls_wire.specs.Combine.{◌⨾◌, image, nothing, case, others, by_uint16, byte_string}
use Rattle.mls_wire.specs.CombineReads.{IsNonempty}
use Rattle.mls_leaf.specs.Nonempty.{first_nonempty, by_uint16_nonempty}
use Rattle.mls_types.specs.Signed.{signed_content, signed_content_nonempty}
use Rattle.mls_types.specs.declared.public_message.WireFormat as formats
use Rattle.mls_types.specs.declared.public_message.WireFormat.TheVariants.{PublicMessage, Welcome, GroupInfo, KeyPackage}
use Rattle.mls_types.specs.declared.public_message.PublicMessage as messages
use Rattle.mls_types.specs.declared.public_message.AuthenticatedContent.{AuthenticatedContent}

-- ---- WireFormat (RFC 9420, 6 and 17.2)

-- nothing stands behind any of them
abbrev pub WireFormats : Type 0
WireFormats = Unit {0} ⊎ (Unit {0} ⊎ (Unit {0} ⊎ (Unit {0} ⊎ ⊥)))

-- the wire format of its place in the list
abbrev pub make_wire_format : WireFormats → formats.WireFormat
make_wire_format (inl x) = PublicMessage
make_wire_format (inr (inl x)) = Welcome
make_wire_format (inr (inr (inl x))) = GroupInfo
make_wire_format (inr (inr (inr (inl x)))) = KeyPackage
make_wire_format (inr (inr (inr (inr x)))) = absurd x

-- the place of a wire format in the list
abbrev pub wire_format_parts : formats.WireFormat → WireFormats
wire_format_parts PublicMessage = inl tt
wire_format_parts Welcome = inr (inl tt)
wire_format_parts GroupInfo = inr (inr (inl tt))
wire_format_parts KeyPackage = inr (inr (inr (inl tt)))

pub wire_format_there : (v : formats.WireFormat) → make_wire_format (wire_format_parts v) ≡ v
wire_format_there PublicMessage = refl
wire_format_there Welcome = refl
wire_format_there GroupInfo = refl
wire_format_there KeyPackage = refl

pub wire_format_back : (x : WireFormats) → wire_format_parts (make_wire_format x) ≡ x
wire_format_back (inl x) = refl
wire_format_back (inr (inl x)) = refl
wire_format_back (inr (inr (inl x))) = refl
wire_format_back (inr (inr (inr (inl x)))) = refl
wire_format_back (inr (inr (inr (inr x)))) = absurd x

-- WireFormat (RFC 9420, 6 and 17.2): uint16: 1 PublicMessage, 3 Welcome, 4 GroupInfo, 5 KeyPackage; another is
-- `BadTag` (7)
unfoldable pub wire_format : Format formats.WireFormat
wire_format = image (by_uint16 (case 1 nothing (case 3 nothing (case 4 nothing (case 5 nothing (others 7))))))
    make_wire_format wire_format_parts wire_format_there (λ x _. wire_format_back x)

pub wire_format_nonempty : IsNonempty wire_format
unfolding wire_format
wire_format_nonempty v fits = by_uint16_nonempty (case 1 nothing (case 3 nothing (case 4 nothing (case 5 nothing (others 7))))) (wire_format_parts v) fits

-- ---- PublicMessage (RFC 9420, 6.2)

-- PublicMessage (RFC 9420, 6.2): FramedContent, FramedContentAuthData, membership_tag<V>
unfoldable pub public_message : Format messages.PublicMessage
public_message = image (signed_content ⨾ byte_string)
    (λ x. record { content = x.0; membership_tag = x.1 })
    (λ v. (v.content, v.membership_tag))
    (λ v. refl) (λ x _. refl)

pub public_message_nonempty : IsNonempty public_message
unfolding public_message
public_message_nonempty v fits = first_nonempty signed_content byte_string signed_content_nonempty (v.content, v.membership_tag) fits

-- ---- AuthenticatedContent (RFC 9420, 6)

-- AuthenticatedContent (RFC 9420, 6): uint16 wire_format, FramedContent, FramedContentAuthData
unfoldable pub authenticated_content : Format AuthenticatedContent
authenticated_content = image (wire_format ⨾ signed_content)
    (λ x. record { wire_format = x.0; content = x.1 })
    (λ v. (v.wire_format, v.content))
    (λ v. refl) (λ x _. refl)

pub authenticated_content_nonempty : IsNonempty authenticated_content
unfolding authenticated_content
authenticated_content_nonempty v fits = first_nonempty wire_format signed_content wire_format_nonempty (v.wire_format, v.content) fits
