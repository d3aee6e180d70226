-- In whatever order messages come, each arrives once at each member that shares the epoch (RFC 9420, 6.3 and 9.2).
use Rattle.std.specs.Prelude.{◌≡◌, ℕ, ◌+◌, ◌≤◌, List, Some, Ok}
use Rattle.mls_suite.specs.Crypto.{Crypto}
use Rattle.mls_secret_tree.specs.Generations.{next_of}
use Rattle.mls_secret_tree.specs.Ratchet.{window}
use Rattle.mls_secret_tree.specs.SecretTree.{next_generation}
use Rattle.mls_model.specs.Member.{Member}
use Rattle.mls_exchange.specs.State.{State}
use Rattle.mls_exchange.specs.Sealing.{seal_message}
use Rattle.mls_exchange.specs.Generations.{AllSpare, ArrivesOnce}
use Rattle.mls_exchange.specs.Laws.{Call, after_calls}
use Rattle.mls_conversation.specs.Laws.{ConversationsShare, IsLaterThan}

-- of two members that share an epoch: what the first seals opens at the second, once, after whatever that sealed and
-- opened in between, as long as it spared the message's key and the message isn't further ahead than the window
abbrev pub ArriveOnce : (c : Crypto) (m n : Member) → ConversationsShare c m n → Type 0
ArriveOnce c m n shared =
    (s after : State) (between : List Call) (application_data authenticated_data : List ℕ)
    (padding : ℕ) (seed bytes : List ℕ) (generation : ℕ)
    → IsLaterThan c shared.first.state s
    → seal_message c s application_data authenticated_data padding seed ≡ Ok (bytes, after)
    → next_generation s.keys s.leaf ≡ Some generation
    → AllSpare c s.leaf generation shared.second.state between
    → generation ≤ next_of (after_calls c shared.second.state between).keys s.leaf + window
    → ArrivesOnce c s (after_calls c shared.second.state between) shared.first.leaf generation
    application_data authenticated_data bytes

-- so it is of all members that share an epoch
abbrev pub ArriveOnceAtMembers : Crypto → Type 0
ArriveOnceAtMembers c = (m n : Member) (shared : ConversationsShare c m n) → ArriveOnce c m n shared
