-- The laws of conversations: good members that share an epoch have ones that arrive at each other (RFC 9420, 6.3).
use Rattle.std.specs.Prelude.{◌≡◌, ℕ, ◌<◌, ◌≤◌, ◌^◌, List, Some, Ok}
use Rattle.mls_wire.specs.Checks.{passed}
use Rattle.mls_leaf.specs.declared.leaf.LeafNode.{LeafNode}
use Rattle.mls_suite.specs.Crypto.{Crypto}
use Rattle.mls_schedule.specs.Epoch.{encryption_secret}
use Rattle.mls_tree_model.specs.Term.{leaf_of}
use Rattle.mls_secret_tree.specs.Ratchet.{window}
use Rattle.mls_secret_tree.specs.SecretTree.{next_generation}
use Rattle.mls_model.specs.Member.{Member}
use Rattle.mls_model.specs.Sharing.{ShareEpoch}
use Rattle.mls_exchange.specs.State.{State}
use Rattle.mls_exchange.specs.Saved.{restore, RestoresAsWas}
use Rattle.mls_exchange.specs.Sealing.{seal_message}
use Rattle.mls_exchange.specs.Laws.{OfOneEpoch, IsOwnLeaf, IsInRange, CanOpen, Arrives, Call, after_calls}
use Rattle.mls_conversation.specs.Conversation.{conversation_of}

-- the conversation of a good member: there is one, its own leaf stands in it, and its numbers are in range
pub record HasConversation (c : Crypto) (m : Member) : Type 0 where
  pub state : State
  pub is : conversation_of m ≡ Ok state
  pub leaf : LeafNode
  pub stands : leaf_of m.public.tree m.keys.leaf ≡ Some leaf
  pub own : IsOwnLeaf c state leaf
  pub range : IsInRange state

-- members that share an epoch have conversations of one epoch
pub record ConversationsShare (c : Crypto) (m n : Member) : Type 0 where
  pub first : HasConversation c m
  pub second : HasConversation c n
  pub of_one : OfOneEpoch (encryption_secret m.epoch_secret) first.state second.state

-- so it is of all members that share an epoch
abbrev pub MembersShare : Crypto → Type 0
MembersShare c = (m n : Member) → ShareEpoch c m n → ConversationsShare c m n

-- the state is one that calls on another leave
abbrev pub IsLaterThan : Crypto → State → State → Type 0
IsLaterThan c first s = (calls : List Call) × (s ≡ after_calls c first calls)

-- a conversation at first can open each generation up to the window
abbrev pub FreshCanOpen : Type 0
FreshCanOpen = (m : Member) (s : State) (leaf generation : ℕ) → conversation_of m ≡ Ok s
    → leaf < 2 ^ s.keys.height → generation ≤ window
    → CanOpen s leaf generation

-- what a member seals in an epoch opens at each member that shares the epoch: with the sender's leaf and identity, the
-- generation and the very data, in whatever states their conversations are, as long as the key can be derived there
abbrev pub ArrivesAtMembers : Crypto → Type 0
ArrivesAtMembers c =
    (m n : Member) (shared : ConversationsShare c m n) (s after r : State)
    (application_data authenticated_data : List ℕ)
    (padding : ℕ) (seed bytes : List ℕ) (generation : ℕ)
    → IsLaterThan c shared.first.state s → IsLaterThan c shared.second.state r
    → seal_message c s application_data authenticated_data padding seed ≡ Ok (bytes, after)
    → next_generation s.keys s.leaf ≡ Some generation → CanOpen r s.leaf generation
    → Arrives c s r shared.first.leaf generation application_data authenticated_data bytes

-- by the bytes that a conversation is saved as, whatever it sealed and opened before, the conversation at first of its
-- member goes on as it was
abbrev pub SavedGoOn : Crypto → Type 0
SavedGoOn c = (m : Member) (first s : State) (bytes : List ℕ) → conversation_of m ≡ Ok first
    → IsLaterThan c first s → RestoresAsWas s bytes → restore first bytes ≡ Ok (passed, s)
