-- What the calls answer on the parts of private messages.
use Rattle.std.specs.Prelude.{ℕ, ◌<◌, ◌^◌, List, length, Result}
use Rattle.std.specs.Global.{Vec}
use Rattle.mls_wire.specs.Checks.{Answers, AnswersOutright}
use Rattle.mls_leaf.specs.Faults.{Writes, AddsInput}
use Rattle.mls_leaf.specs.declared.error.LeafError.{LeafError}
use Rattle.mls_suite.specs.Crypto.{Crypto}
use Rattle.mls_secret_tree.specs.declared.secrets.MessageKey.{MessageKey}
use Rattle.mls_private_message.specs.declared.error.PrivateMessageError.{PrivateMessageError}
use Rattle.mls_private_message.specs.declared.content.ReadContent.{ReadContent}
use Rattle.mls_private_message.specs.declared.sender_data.SenderData.{SenderData}
use Rattle.mls_private_message.specs.declared.private_message.PrivateMessage.{PrivateMessage}
use Rattle.mls_private_message.specs.PrivateMessage.{sender_data_aad, private_content_aad, PrivateContentAadFits}
use Rattle.mls_private_message.specs.PrivateContent.{private_content, PrivateContentFits, private_content_at}
use Rattle.mls_private_message.specs.Sealing.{seal_sender_data, open_sender_data, seal_content, open_content}
use Rattle.mls_private_message.specs.Faults.{number_of}

-- ---- contents (RFC 9420, 6.3.1)

-- writing the PrivateMessageContent
abbrev pub WritesPrivateContent : List ℕ → List ℕ → ℕ → Result (Vec ℕ) LeafError → Type 0
WritesPrivateContent application_data signature padding result =
    Writes (PrivateContentFits application_data signature)
    (private_content application_data signature padding) result

-- reading it: the data and the signature, or the first fault
abbrev pub ReadsPrivateContent : List ℕ → Result ReadContent PrivateMessageError → Type 0
ReadsPrivateContent bytes result =
    AnswersOutright (λ c. (c.application_data.now, c.signature.now)) number_of
    (private_content_at bytes) result

-- writing the PrivateContentAAD
abbrev pub WritesPrivateContentAad : List ℕ → ℕ → List ℕ → Result (Vec ℕ) LeafError → Type 0
WritesPrivateContentAad group_id epoch authenticated_data result =
    Writes (PrivateContentAadFits group_id authenticated_data)
    (private_content_aad group_id epoch authenticated_data) result

-- sealing a content: the ciphertext
abbrev pub SealsContent : Crypto → MessageKey → ℕ → List ℕ → ℕ → List ℕ → List ℕ →
    Result (Vec ℕ) LeafError → Type 0
SealsContent c key reuse_guard group_id epoch authenticated_data text result =
    Writes (PrivateContentAadFits group_id authenticated_data)
    (seal_content c key reuse_guard group_id epoch authenticated_data text) result

-- opening it: the content, or `ContentUnreadable` (117)
abbrev pub OpensContent : Crypto → MessageKey → ℕ → PrivateMessage →
    Result (Vec ℕ) PrivateMessageError → Type 0
OpensContent c key reuse_guard m result =
    Answers (λ v. v.items) number_of (open_content c key reuse_guard m) result

-- ---- sender data (RFC 9420, 6.3.2)

-- adding the SenderDataAAD to a writer
abbrev pub AddsSenderDataAad : List ℕ → ℕ → List ℕ → Result (Unit {0}) LeafError → List ℕ → Type 0
AddsSenderDataAad group_id epoch old result new =
    AddsInput (length group_id < 2 ^ 30) (sender_data_aad group_id epoch) old result new

-- sealing sender data
abbrev pub SealsSenderData : Crypto → List ℕ → List ℕ → ℕ → List ℕ → SenderData →
    Result (Vec ℕ) LeafError → Type 0
SealsSenderData c secret group_id epoch ciphertext sender result =
    Writes (length group_id < 2 ^ 30)
    (seal_sender_data c secret group_id epoch ciphertext sender) result

-- opening it: the sender data, or `SenderDataUnreadable` (113)
abbrev pub OpensSenderData : Crypto → List ℕ → PrivateMessage →
    Result SenderData PrivateMessageError → Type 0
OpensSenderData c secret m result = Answers (λ d. d) number_of (open_sender_data c secret m) result
