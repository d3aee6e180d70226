-- How members decode messages, and what they sign, tag and hash of them (RFC 9420, 6).
use Rattle.std.specs.Prelude.{ℕ, nat_lt, nat_le, Bool, true, false, ◌&&◌, List, [], length, codes, Option, Some, None, Result}
use Rattle.std.specs.List.{list_all}
use Rattle.mls_wire.specs.Checks.{Passed, require}
use Rattle.mls_wire.specs.Whole.{whole}
use Rattle.mls_leaf.specs.Limits.{input_limit}
use Rattle.mls_types.specs.declared.group_context.GroupContext.{GroupContext}
use Rattle.mls_types.specs.Message.{mls_message}
use Rattle.mls_types.specs.PublicMessage.{authenticated_content}
use Rattle.mls_types.specs.Reference.{proposal_reference}
use Rattle.mls_types.specs.SignedParts.{framed_content_of}
use Rattle.mls_types.specs.Signing.{framed_content_tbs, authenticated_content_tbm}
use Rattle.mls_types.specs.declared.content.Content.{Content}
use Rattle.mls_types.specs.declared.content.FramedContent.{FramedContent}
use Rattle.mls_types.specs.declared.content.Sender.{Sender}
use Rattle.mls_types.specs.declared.content.Sender.TheVariants as sender
use Rattle.mls_types.specs.declared.message.MlsMessage.{MlsMessage}
use Rattle.mls_types.specs.declared.message.MlsMessage.TheVariants as message
use Rattle.mls_types.specs.declared.public_message.PublicMessage.{PublicMessage}
use Rattle.mls_types.specs.declared.public_message.WireFormat.TheVariants as format
use Rattle.mls_types.specs.declared.signed.SignedBody.{SignedBody}
use Rattle.mls_types.specs.declared.signed.SignedBody.TheVariants as body
use Rattle.mls_types.specs.declared.signed.SignedContent.{SignedContent}
use Rattle.mls_suite.specs.Crypto.{Crypto}
use Rattle.mls_suite.specs.Labels.{sign_with_label, verify_with_label}
use Rattle.mls_schedule.specs.Epoch.{membership_tag}
use Rattle.mls_model.specs.Member.{Member}

-- ---- whole messages

-- the message that all of the bytes are, or the number of the first fault (RFC 9420, 6)
unfoldable pub decode_message : List ℕ → Result MlsMessage ℕ
decode_message bytes = whole mls_message input_limit bytes

-- whether each entry of a list is a byte, which is so of each list that code has
unfoldable pub are_bytes : List ℕ → Bool
are_bytes bytes = list_all (λ (b : ℕ). nat_lt b 256) bytes

-- the check of a text that was made: `TooLong` (6) it has more bytes than a message may have, or entries that are none
unfoldable pub require_within_limit : List ℕ → Result Passed ℕ
require_within_limit bytes = require 6 (nat_le (length bytes) input_limit && are_bytes bytes)

-- the PublicMessage that a message is (RFC 9420, 6)
abbrev pub public_in : MlsMessage → Option PublicMessage
public_in (message.PublicMessage v) = Some v
public_in other = None

-- ---- contents

-- the leaf of a sender (RFC 9420, 6)
abbrev pub sender_leaf : Sender → ℕ
sender_leaf (sender.Member leaf) = leaf

-- whether a content is a proposal or a commit (RFC 9420, 6)
abbrev pub is_handshake : SignedBody → Bool
is_handshake (body.Application text) = false
is_handshake other = true

-- a content of a member in its epoch (RFC 9420, 6)
unfoldable pub content_by : Member → Content → FramedContent
content_by m content =
    record {
      group_id = m.public.context.group_id;
      epoch = m.public.context.epoch;
      sender = sender.Member m.keys.leaf;
      authenticated_data = [];
      content = content;
    }

-- the signature of a content under the context of the epoch (RFC 9420, 6.1)
unfoldable pub content_signature : Crypto → List ℕ → FramedContent → GroupContext → List ℕ
content_signature c signing said context = sign_with_label c signing (codes "FramedContentTBS")
    (framed_content_tbs format.PublicMessage said context)

-- whether the signature of a content is that of a signature key (RFC 9420, 6.1)
unfoldable pub is_content_signed : Crypto → List ℕ → SignedContent → GroupContext → Bool
is_content_signed c key v context = verify_with_label c key (codes "FramedContentTBS")
    (framed_content_tbs format.PublicMessage (framed_content_of v) context) v.signature

-- the membership tag of a signed content, by the epoch secret and the context of the epoch (RFC 9420, 6.2)
unfoldable pub content_tag : List ℕ → SignedContent → GroupContext → List ℕ
content_tag epoch v context = membership_tag epoch (authenticated_content_tbm format.PublicMessage v context)

-- the message of a signed content, as a member sends it (RFC 9420, 6 and 6.2)
unfoldable pub message_by : Member → SignedContent → List ℕ
message_by m v =
    mls_message.spell
    (message.PublicMessage (record { content = v; membership_tag = content_tag m.epoch_secret v m.public.context }))

-- the reference of a proposal (RFC 9420, 5.2)
unfoldable pub reference_of : SignedContent → List ℕ
reference_of v =
    proposal_reference (authenticated_content.spell (record { wire_format = format.PublicMessage; content = v }))
