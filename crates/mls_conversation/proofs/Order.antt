-- What a member seals arrives once at each member that shares its epoch, in whatever order.
use Rattle.std.proofs.Common.{◌≡◌, ℕ, ◌<◌, ◌^◌, true, inl, inr, [], Some, refl, sym, ◌∙◌, subst}
use Rattle.std.specs.Prelude.{nat_lt}
use Rattle.std.proofs.lemmas.Bool.{cases_lt, cond-false, le-ltb}
use Rattle.mls_suite.specs.Crypto.{Crypto, Lawful}
use Rattle.mls_schedule.specs.Epoch.{encryption_secret}
use Rattle.mls_secret_tree.specs.SecretTree.{Tree, next_generation}
use Rattle.mls_secret_tree.specs.Holding.{holds}
use Rattle.mls_model.specs.Member.{Member}
use Rattle.mls_exchange.specs.State.{State}
use Rattle.mls_exchange.proofs.Generations.{arrives_in_any_order}
use Rattle.mls_conversation.specs.Laws.{ConversationsShare, IsLaterThan}
use Rattle.mls_conversation.specs.Order.{ArriveOnce}
use Rattle.mls_conversation.proofs.Sharing.{later, IsSender, is_sender, fresh_holds}

-- a leaf with a next generation lies in the tree
next_inside : (t : Tree) (leaf g : ℕ) → next_generation t leaf ≡ Some g → leaf < 2 ^ t.height
unfolding next_generation
next_inside t leaf g e = elim (cases_lt leaf (2 ^ t.height)) [
  | inl low ↦ low
  | inr high ↦ (let wrong = sym (cond-false (nat_lt leaf (2 ^ t.height)) _ _ (le-ltb leaf (2 ^ t.height) high)) ∙ e in absurd cc)
]

-- at first a conversation holds the keys of whoever sends to it
sender_held : (c : Crypto) (m n : Member) (shared : ConversationsShare c m n) (s : State) (g : ℕ) → IsLaterThan c shared.first.state s
    → next_generation s.keys s.leaf ≡ Some g → holds shared.second.state.keys s.leaf g ≡ true
sender_held c m n shared s g since next =
    let one = shared.of_one in
    let x = later c (encryption_secret m.epoch_secret) shared.first.state s since one.of in
    let same : s.keys.height ≡ shared.second.state.keys.height = x.share.height ∙ sym one.height in
    let inside : s.leaf < 2 ^ shared.second.state.keys.height = subst (λ (h : ℕ). s.leaf < 2 ^ h) same (next_inside s.keys s.leaf g next) in
    fresh_holds n shared.second.state s.leaf g shared.second.is inside

pub arrive_once : (c : Crypto) → Lawful c → (m n : Member) (shared : ConversationsShare c m n) → ArriveOnce c m n shared
arrive_once c laws m n shared s after between d a padding seed bytes generation since e next spare near =
    let r = shared.second.state in
    let x : IsSender c (encryption_secret m.epoch_secret) s r shared.first.leaf = is_sender c m n shared s r since ([], refl) in
    arrives_in_any_order c laws (encryption_secret m.epoch_secret) s after r shared.first.leaf d a padding seed bytes generation between x.range x.both x.own e next
    (sender_held c m n shared s generation since next) spare near
