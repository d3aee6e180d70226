-- The format of private messages (RFC 9420, 6 and 6.3), and what is authenticated beside their sealed parts.
use Rattle.std.specs.Prelude.{ℕ, ◌<◌, ◌^◌, List, ◌++◌, length, refl}
use Rattle.std.specs.Int.{w8, w64}
use Rattle.std.proofs.Common.{lit<}
use Rattle.mls_wire.specs.Reading.{uint, mark_at, opaque}
use Rattle.mls_wire.specs.Format.{Format, Skip}
use Rattle.mls_wire.specs.Laws.{wide8, mark_takes, mark_again}
use Rattle.mls_wire.specs.Combine.{◌⨾◌, image, behind, mark, byte_string, uint64}
use Rattle.mls_wire.specs.CombineReads.{IsNonempty}
use Rattle.mls_leaf.specs.Nonempty.{behind_nonempty, mark_nonempty}
use Rattle.mls_private_message.specs.declared.private_message.PrivateMessage.{PrivateMessage}

-- ContentType (RFC 9420, 6): uint8, 1 for application data; another one is `BadTag` (7)
abbrev pub application_type : Skip
application_type = record {
  spell = uint w8 1;
  read = mark_at w8 1 7;
  takes = mark_takes w8 (2 ^ 8) wide8 1 7;
  again = mark_again w8 (2 ^ 8) wide8 1 7 (lit< tt);
}

-- PrivateMessage (RFC 9420, 6.3) from the group's identifier on: group_id<V>, uint64 epoch, uint8 content_type (1, else
-- `BadTag` (7)), authenticated_data<V>, encrypted_sender_data<V>, ciphertext<V>
unfoldable pub private_fields : Format PrivateMessage
private_fields =
    image (byte_string ⨾ uint64 ⨾ behind application_type (byte_string ⨾ byte_string ⨾ byte_string))
    (λ x. record {
      group_id = x.0;
      epoch = x.1.0;
      authenticated_data = x.1.1.0;
      encrypted_sender_data = x.1.1.1.0;
      ciphertext = x.1.1.1.1;
    })
    (λ v. (v.group_id, (v.epoch, (v.authenticated_data, (v.encrypted_sender_data, v.ciphertext)))))
    (λ v. refl) (λ x _. refl)

-- MLSMessage with a PrivateMessage (RFC 9420, 6): uint16 version (1, else `BadTag` (7)), uint16 wire_format (2, else
-- `BadTag` (7)), PrivateMessage
unfoldable pub private_message : Format PrivateMessage
private_message = behind (mark 1 7 (lit< tt)) (behind (mark 2 7 (lit< tt)) private_fields)

pub private_message_nonempty : IsNonempty private_message
unfolding private_message
private_message_nonempty =
    behind_nonempty (mark 1 7 (lit< tt)) (behind (mark 2 7 (lit< tt)) private_fields)
    (mark_nonempty 1 7 (lit< tt))

-- ---- what is authenticated beside the sealed parts

-- SenderDataAAD (RFC 9420, 6.3.2): group_id<V>, uint64 epoch, uint8 content_type (1)
abbrev pub sender_data_aad : List ℕ → ℕ → List ℕ
sender_data_aad group_id epoch = opaque group_id ++ uint w64 epoch ++ uint w8 1

-- PrivateContentAAD (RFC 9420, 6.3.1): group_id<V>, uint64 epoch, uint8 content_type (1), authenticated_data<V>
abbrev pub private_content_aad : List ℕ → ℕ → List ℕ → List ℕ
private_content_aad group_id epoch authenticated_data =
    sender_data_aad group_id epoch ++ opaque authenticated_data

-- no vector in the PrivateContentAAD is too long
abbrev pub PrivateContentAadFits : List ℕ → List ℕ → Type 0
PrivateContentAadFits group_id authenticated_data =
    (length group_id < 2 ^ 30) × (length authenticated_data < 2 ^ 30)
