-- The conversation of a member in its epoch (RFC 9420, 6.3 and 9).
use Rattle.std.specs.Prelude.{◌≡◌, ℕ, not, Result, Ok, Err, IsErrAnd, MatchResult}
use Rattle.mls_wire.specs.Reading.{◌>>=◌}
use Rattle.mls_wire.specs.Checks.{Answers, require, require_some, ◌>>◌}
use Rattle.mls_types.specs.GroupContext.{group_context}
use Rattle.mls_treemath.specs.Steps.{height_of}
use Rattle.mls_tree_model.specs.Term.{width}
use Rattle.mls_tree_model.specs.Arrays.{to_nodes}
use Rattle.mls_schedule.specs.Epoch.{sender_data_secret, encryption_secret}
use Rattle.mls_secret_tree.specs.SecretTree.{Tree, first_tree}
use Rattle.mls_model.specs.Member.{Member}
use Rattle.mls_exchange.specs.declared.exchange.Parts.{Parts}
use Rattle.mls_exchange.specs.State.{State}
use Rattle.mls_exchange.specs.Parts.{state_of as state_of_parts}
use Rattle.mls_conversation.specs.declared.error.ConversationError.{ConversationError}
use Rattle.mls_conversation.specs.declared.error.ConversationError.TheVariants.{OutOfMemory}
use Rattle.mls_conversation.specs.Faults.{number_of}

-- what a member exchanges application messages of its epoch with, over a secret tree: the place and the context of the
-- epoch, its sender data secret, the ratchet tree, the own leaf and signature key
unfoldable pub state_with : Member → Tree → State
state_with m keys = record {
  group_id = m.public.context.group_id;
  epoch = m.public.context.epoch;
  context = group_context.spell m.public.context;
  sender_data_secret = sender_data_secret m.epoch_secret;
  keys = keys;
  nodes = to_nodes m.public.tree;
  leaf = m.keys.leaf;
  signing = m.signing;
}

-- the conversation of a member, with the epoch's secret tree at first (RFC 9420, 9): `Gone` (40) where it was removed,
-- `TreeShape` (20) where its tree has no height
unfoldable pub conversation_of : Member → Result State ℕ
conversation_of m = do
  require 40 (not m.gone)
  height ← require_some 20 (height_of (width m.public.tree))
  Ok (state_with m (first_tree (encryption_secret m.epoch_secret) height))

-- a call makes the conversation of a member, or refuses with the number of the first check that fails
abbrev pub MakesConversation : Member → Result State ConversationError → Type 0
MakesConversation m result = Answers (λ s. s) number_of (conversation_of m) result

-- it refuses so also when an allocation fails
abbrev pub RefusesConversation : Member → Result State ConversationError → Type 0
RefusesConversation m result = (n : ℕ) → conversation_of m ≡ Err n
    → IsErrAnd result (λ e. number_of e ≡ n)

-- a call takes out of a member what it exchanges messages with, or finds no memory
abbrev pub TakesParts : Member → Tree → Result Parts ConversationError → Type 0
TakesParts m keys result =
    MatchResult result (λ p. state_of_parts p ≡ state_with m keys) (λ e. e ≡ OutOfMemory)
