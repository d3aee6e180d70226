-- Sealing and opening the parts of a private message (RFC 9420, 6.3.1 and 6.3.2).
use Rattle.std.specs.Prelude.{ℕ, List, Result}
use Rattle.mls_wire.specs.Reading.{◌>>=◌}
use Rattle.mls_wire.specs.Checks.{require_some}
use Rattle.mls_suite.specs.Crypto.{Crypto}
use Rattle.mls_secret_tree.specs.declared.secrets.MessageKey.{MessageKey}
use Rattle.mls_private_message.specs.declared.sender_data.SenderData.{SenderData}
use Rattle.mls_private_message.specs.declared.private_message.PrivateMessage.{PrivateMessage}
use Rattle.mls_private_message.specs.SenderData.{sender_data, whole_sender_data}
use Rattle.mls_private_message.specs.PrivateMessage.{sender_data_aad, private_content_aad}
use Rattle.mls_private_message.specs.Keys.{sender_data_key, sender_data_nonce, guarded_nonce}

-- ---- sender data (RFC 9420, 6.3.2)

-- encrypted_sender_data: under the sender data secret and the sample of the ciphertext
unfoldable pub seal_sender_data : Crypto → List ℕ → List ℕ → ℕ → List ℕ → SenderData → List ℕ
seal_sender_data c secret group_id epoch ciphertext data_of =
    c.aead_seal (sender_data_key secret ciphertext) (sender_data_nonce secret ciphertext)
    (sender_data_aad group_id epoch) (sender_data.spell data_of)

-- the sender data of a message: `SenderDataUnreadable` (113) where it doesn't open, or is none
unfoldable pub open_sender_data : Crypto → List ℕ → PrivateMessage → Result SenderData ℕ
open_sender_data c secret m =
    require_some 113
    (c.aead_open (sender_data_key secret m.ciphertext) (sender_data_nonce secret m.ciphertext)
    (sender_data_aad m.group_id m.epoch) m.encrypted_sender_data)
    >>= λ text. require_some 113 (whole_sender_data text)

-- ---- contents (RFC 9420, 6.3.1)

-- ciphertext: a PrivateMessageContent under a message key and a reuse guard
unfoldable pub seal_content : Crypto → MessageKey → ℕ → List ℕ → ℕ → List ℕ → List ℕ → List ℕ
seal_content c key reuse_guard group_id epoch authenticated_data content =
    c.aead_seal key.key (guarded_nonce key.nonce reuse_guard)
    (private_content_aad group_id epoch authenticated_data) content

-- the PrivateMessageContent of a message: `ContentUnreadable` (117) where it doesn't open
unfoldable pub open_content : Crypto → MessageKey → ℕ → PrivateMessage → Result (List ℕ) ℕ
open_content c key reuse_guard m =
    require_some 117
    (c.aead_open key.key (guarded_nonce key.nonce reuse_guard)
    (private_content_aad m.group_id m.epoch m.authenticated_data) m.ciphertext)
