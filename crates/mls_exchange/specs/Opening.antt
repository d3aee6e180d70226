-- Opening an application message (RFC 9420, 6.3).
use Rattle.std.specs.Prelude.{ℕ, ◌==◌, List, codes, Result, Ok}
use Rattle.std.specs.Int.{w16, w64}
use Rattle.std.specs.Str.{bytes_eq}
use Rattle.mls_wire.specs.Reading.{◌>>=◌, uint_at, opaque_at}
use Rattle.mls_wire.specs.Checks.{Passed, require, require_some, ◌>>◌}
use Rattle.mls_wire.specs.Whole.{whole}
use Rattle.mls_leaf.specs.Limits.{input_limit}
use Rattle.mls_leaf.specs.declared.leaf.LeafNode.{LeafNode}
use Rattle.mls_suite.specs.Crypto.{Crypto}
use Rattle.mls_suite.specs.Labels.{verify_with_label}
use Rattle.mls_secret_tree.specs.SecretTree.{draft_key}
use Rattle.mls_private_message.specs.declared.private_message.PrivateMessage.{PrivateMessage}
use Rattle.mls_private_message.specs.declared.sender_data.SenderData.{SenderData}
use Rattle.mls_private_message.specs.PrivateContent.{private_content_at}
use Rattle.mls_private_message.specs.PrivateMessage.{private_message}
use Rattle.mls_private_message.specs.Sealing.{open_sender_data, open_content}
use Rattle.mls_exchange.specs.declared.open.Opened.{Opened}
use Rattle.mls_exchange.specs.State.{State, member_at, after_draft}
use Rattle.mls_exchange.specs.Contents.{application_content, signed_text, within_limit}

-- `OtherGroup` (111) another group, `OtherEpoch` (112) another epoch (RFC 9420, 6)
unfoldable pub checks_of_place : State → List ℕ → ℕ → Result Passed ℕ
checks_of_place s group_id epoch =
    require 111 (bytes_eq group_id s.group_id) >> require 112 (epoch == s.epoch)

-- the same of a message
abbrev pub place_checks : State → PrivateMessage → Result Passed ℕ
place_checks s m = checks_of_place s m.group_id m.epoch

-- the group's identifier and the epoch, behind the version and the wire format (RFC 9420, 6 and 6.3)
unfoldable pub place_at : List ℕ → Result (List ℕ × ℕ) ℕ
place_at bytes = do
  version ← uint_at w16 bytes
  wire_format ← uint_at w16 version.1
  group_id ← opaque_at wire_format.1
  epoch ← uint_at w64 group_id.1
  Ok (group_id.0, epoch.0)

-- the checks of bytes that take no memory: the first fault where they are no PrivateMessage with application data,
-- another group or epoch (`OtherGroup` (111), `OtherEpoch` (112))
unfoldable pub arrival_checks : State → List ℕ → Result Passed ℕ
arrival_checks s bytes = whole private_message input_limit bytes >>= λ m. place_checks s m

-- `BadMessageSignature` (119) where the signature of a content doesn't verify by the sender's leaf (RFC 9420, 6.1)
unfoldable pub signature_check : Crypto → State → PrivateMessage → ℕ → LeafNode → List ℕ → List ℕ →
    Result Passed ℕ
signature_check c s m sender leaf application_data signature = do
  text ← signed_text
      (application_content m.group_id m.epoch sender m.authenticated_data application_data)
      s.context
  require 119 (verify_with_label c leaf.signature_key (codes "FramedContentTBS") text signature)

-- the data of a PrivateMessageContent: `TooLong` (6) where that is longer than an input may be, its first fault,
-- `PaddingNotZero` (118), and the check of its signature (RFC 9420, 6.3.1)
unfoldable pub data_of : Crypto → State → PrivateMessage → ℕ → LeafNode → List ℕ → Result (List ℕ) ℕ
data_of c s m sender leaf content = do
  bytes ← within_limit content
  said ← private_content_at bytes
  signature_check c s m sender leaf said.0 said.1
  Ok said.0

-- what was opened of a message
unfoldable pub opened : PrivateMessage → SenderData → LeafNode → List ℕ → Opened
opened m sender leaf application_data = record {
  leaf_index = sender.leaf_index;
  identity = leaf.credential.identity;
  generation = sender.generation;
  application_data = application_data;
  authenticated_data = m.authenticated_data;
}

-- what a message of the group and epoch says, and the state once its key was used: sender data that doesn't open
-- (`SenderDataUnreadable`, 113), a sender without a leaf (`SenderWithoutLeaf`, 114), a generation that is too far ahead
-- (`GenerationTooFar`, 115) or whose key was used (`KeyUsed`, 116), a content that doesn't open (`ContentUnreadable`,
-- 117), and the checks of the content (RFC 9420, 6.3)
unfoldable pub open_here : Crypto → State → PrivateMessage → Result (Opened × State) ℕ
open_here c s m = do
  sender ← open_sender_data c s.sender_data_secret m
  leaf ← require_some 114 (member_at s.nodes sender.leaf_index)
  draft ← draft_key s.keys sender.leaf_index sender.generation
  content ← open_content c draft.key sender.reuse_guard m
  application_data ← data_of c s m sender.leaf_index leaf content
  Ok (opened m sender leaf application_data, after_draft s draft)

-- the same of a message that was read, after the checks of its group and epoch
unfoldable pub open_read : Crypto → State → PrivateMessage → Result (Opened × State) ℕ
open_read c s m = place_checks s m >> open_here c s m

-- what any bytes say: the first fault where they are no PrivateMessage with application data, else what that says
unfoldable pub open_message : Crypto → State → List ℕ → Result (Opened × State) ℕ
open_message c s bytes = whole private_message input_limit bytes >>= λ m. open_read c s m
