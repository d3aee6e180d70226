-- The laws of private messages: what was sealed opens, and a content is read as it was written (RFC 9420, 6.3).
use Rattle.std.specs.Prelude.{◌≡◌, ℕ, List, Ok}
use Rattle.mls_wire.specs.Format.{IsBytes}
use Rattle.mls_suite.specs.Crypto.{Crypto}
use Rattle.mls_secret_tree.specs.declared.secrets.MessageKey.{MessageKey}
use Rattle.mls_private_message.specs.declared.sender_data.SenderData.{SenderData}
use Rattle.mls_private_message.specs.declared.private_message.PrivateMessage.{PrivateMessage}
use Rattle.mls_private_message.specs.SenderData.{sender_data}
use Rattle.mls_private_message.specs.PrivateContent.{private_content, PrivateContentFits, private_content_at}
use Rattle.mls_private_message.specs.Sealing.{seal_sender_data, open_sender_data, seal_content, open_content}

-- a content is read as it was written, and nothing else is read so
pub record IsReadAsWritten (application_data signature : List ℕ) : Type 0 where
  pub read : (padding : ℕ) → PrivateContentFits application_data signature
      → private_content_at (private_content application_data signature padding)
      ≡ Ok (application_data, signature)
  pub written : (bytes : List ℕ) → IsBytes bytes
      → private_content_at bytes ≡ Ok (application_data, signature)
      → (padding : ℕ) × PrivateContentFits application_data signature
      × (bytes ≡ private_content application_data signature padding)

abbrev pub ContentsAreExact : Type 0
ContentsAreExact = (application_data signature : List ℕ)
    → IsReadAsWritten application_data signature

-- the message whose parts were sealed with this sender data, key and content
abbrev pub sealed_message : Crypto → List ℕ → MessageKey → SenderData → List ℕ → ℕ → List ℕ →
    List ℕ → PrivateMessage
sealed_message c secret key sender group_id epoch authenticated_data content =
    let guard = sender.reuse_guard in
    let ciphertext = seal_content c key guard group_id epoch authenticated_data content in
    record {
      group_id = group_id;
      epoch = epoch;
      authenticated_data = authenticated_data;
      encrypted_sender_data = seal_sender_data c secret group_id epoch ciphertext sender;
      ciphertext = ciphertext;
    }

-- both parts of it open
pub record OpensAsSealed (c : Crypto) (secret : List ℕ) (key : MessageKey) (sender : SenderData)
    (text : List ℕ) (m : PrivateMessage) : Type 0 where
  pub sender_data : open_sender_data c secret m ≡ Ok sender
  pub content : open_content c key sender.reuse_guard m ≡ Ok text

abbrev pub SealedOpens : Crypto → Type 0
SealedOpens c =
    (secret : List ℕ) (key : MessageKey) (sender : SenderData) (group_id : List ℕ) (epoch : ℕ)
    (authenticated_data content : List ℕ)
    → sender_data.Fits sender
    → OpensAsSealed c secret key sender content
    (sealed_message c secret key sender group_id epoch authenticated_data content)
