-- Sealing an application message (RFC 9420, 6.3).
use Rattle.std.specs.Prelude.{ℕ, ◌^◌, ◌%◌, nat_le, Bool, ◌&&◌, List, [], length, codes, Result, Ok}
use Rattle.std.specs.Int.{w32, from_be_bytes}
use Rattle.mls_wire.specs.Reading.{◌>>=◌}
use Rattle.mls_wire.specs.Checks.{require, require_some, ◌>>◌}
use Rattle.mls_kdf.specs.Kdf.{expand_with_label}
use Rattle.mls_leaf.specs.Limits.{input_limit}
use Rattle.mls_suite.specs.Crypto.{Crypto}
use Rattle.mls_suite.specs.Labels.{sign_with_label}
use Rattle.mls_secret_tree.specs.declared.secrets.MessageKey.{MessageKey}
use Rattle.mls_secret_tree.specs.SecretTree.{draft_key, next_generation}
use Rattle.mls_private_message.specs.declared.sender_data.SenderData.{SenderData}
use Rattle.mls_private_message.specs.PrivateContent.{private_content}
use Rattle.mls_private_message.specs.PrivateMessage.{private_message}
use Rattle.mls_private_message.specs.Laws.{sealed_message}
use Rattle.mls_exchange.specs.State.{State, after_draft}
use Rattle.mls_exchange.specs.Contents.{application_content, signed_text, within_limit}

-- the reuse guard of a call (RFC 9420, 6.3.1): 32 bits of its seed, by ExpandWithLabel (8) under a label of our own
unfoldable pub reuse_guard : List ℕ → ℕ
reuse_guard seed = from_be_bytes w32 (expand_with_label seed (codes "seed guard") [] 4) % 2 ^ 32

-- the own sender data (RFC 9420, 6.3.2)
abbrev pub own_sender_data : State → ℕ → List ℕ → SenderData
own_sender_data s generation seed =
    record { leaf_index = s.leaf; generation = generation; reuse_guard = reuse_guard seed }

-- the own signature of data and authenticated data (RFC 9420, 6.1)
unfoldable pub own_signature : Crypto → State → List ℕ → List ℕ → Result (List ℕ) ℕ
own_signature c s application_data authenticated_data = do
  text ← signed_text
      (application_content s.group_id s.epoch s.leaf authenticated_data application_data) s.context
  Ok (sign_with_label c s.signing (codes "FramedContentTBS") text)

-- the PrivateMessageContent of signed data with so many bytes of padding, or `TooLong` (6) where it is longer than an
-- input may be (RFC 9420, 6.3.1)
unfoldable pub own_content : Crypto → State → List ℕ → List ℕ → ℕ → Result (List ℕ) ℕ
own_content c s application_data authenticated_data padding = do
  signature ← own_signature c s application_data authenticated_data
  within_limit (private_content application_data signature padding)

-- the message of a content under a key, or `TooLong` (6) where it is longer than an input may be (RFC 9420, 6.3)
unfoldable pub message_under : Crypto → State → MessageKey → SenderData → List ℕ → List ℕ →
    Result (List ℕ) ℕ
message_under c s key sender authenticated_data content =
    let secret = s.sender_data_secret in
    within_limit
    (private_message.spell
    (sealed_message c secret key sender s.group_id s.epoch authenticated_data content))

-- whether there are no more bytes than an input may have, of data, of authenticated data, and of padding
unfoldable pub are_short : List ℕ → List ℕ → ℕ → Bool
are_short application_data authenticated_data padding =
    nat_le (length application_data) input_limit && nat_le (length authenticated_data) input_limit
    && nat_le padding input_limit

-- the generation that a message takes: `RatchetSpent` (110) after the last; then `TooLong` (6) where an argument is
-- longer than an input may be
unfoldable pub sealing_checks : State → List ℕ → List ℕ → ℕ → Result ℕ ℕ
sealing_checks s application_data authenticated_data padding = do
  generation ← require_some 110 (next_generation s.keys s.leaf)
  require 6 (are_short application_data authenticated_data padding)
  Ok generation

-- the message of data with authenticated data, so many bytes of padding and a seed, and the state once its key was used
-- (RFC 9420, 6.3 and 9.1)
unfoldable pub seal_message : Crypto → State → List ℕ → List ℕ → ℕ → List ℕ →
    Result (List ℕ × State) ℕ
seal_message c s application_data authenticated_data padding seed = do
  generation ← sealing_checks s application_data authenticated_data padding
  draft ← draft_key s.keys s.leaf generation
  content ← own_content c s application_data authenticated_data padding
  bytes ← message_under c s draft.key (own_sender_data s generation seed) authenticated_data content
  Ok (bytes, after_draft s draft)
