-- A conversation goes on as it was saved.
use Rattle.std.proofs.Common.{◌≡◌, ℕ, true, not, List, Ok, refl, sym, subst}
use Rattle.mls_wire.specs.Checks.{passed, require_some}
use Rattle.mls_wire.specs.Laws.{bind_ok, ok_is}
use Rattle.mls_wire.proofs.CheckLaws.{require_ok}
use Rattle.mls_suite.specs.Crypto.{Crypto}
use Rattle.mls_treemath.specs.Steps.{height_of}
use Rattle.mls_schedule.specs.Epoch.{encryption_secret}
use Rattle.mls_tree_model.specs.Term.{width}
use Rattle.mls_secret_tree.specs.Held.{is_whole}
use Rattle.mls_secret_tree.specs.SecretTree.{first_tree, is_fresh}
use Rattle.mls_secret_tree.specs.Holding.{IsTreeOf}
use Rattle.mls_secret_tree.proofs.TreeLaws.{first_is_fresh}
use Rattle.mls_model.specs.Member.{Member}
use Rattle.mls_exchange.specs.State.{State}
use Rattle.mls_exchange.specs.Laws.{StaysInEpoch}
use Rattle.mls_exchange.specs.Saved.{restore, IsStartOf, RestoresAsWas}
use Rattle.mls_conversation.specs.Conversation.{state_with, conversation_of}
use Rattle.mls_conversation.specs.Laws.{IsLaterThan}
use Rattle.mls_conversation.proofs.Sharing.{state_of, later}

-- a conversation at first used no key, and has the secret tree of its member's epoch
record IsFirst (m : Member) (first : State) : Type 0 where
  fresh : is_fresh first.keys ≡ true
  of : IsTreeOf (encryption_secret m.epoch_secret) first.keys

state_is_first : (m : Member) (h : ℕ) → IsFirst m (state_of m h)
unfolding state_of state_with first_tree is_fresh is_whole
state_is_first m h =
    record { fresh = refl; of = (first_is_fresh (encryption_secret m.epoch_secret) h).is }

is_first : (m : Member) (first : State) → conversation_of m ≡ Ok first → IsFirst m first
unfolding conversation_of state_of
is_first m first e =
    let active = require_ok 40 (not m.gone) _ _ e in
    let h = bind_ok (require_some 20 (height_of (width m.public.tree))) _ _ active.1 in
    subst (IsFirst m) (ok_is (state_of m h.0) first h.2) (state_is_first m h.0)

starts : (secret : List ℕ) (first s : State) → is_fresh first.keys ≡ true → StaysInEpoch secret first s → IsStartOf s first
starts secret first s fresh stays = record {
  same = rw (stays.share.group_id, stays.share.epoch, stays.share.context, stays.share.sender_data_secret, stays.share.nodes, stays.own_leaf, stays.own_key) refl;
  fresh = fresh;
  height = sym stays.share.height;
}

pub saved_go_on : (c : Crypto) (m : Member) (first s : State) (bytes : List ℕ) → conversation_of m ≡ Ok first → IsLaterThan c first s → RestoresAsWas s bytes
    → restore first bytes ≡ Ok (passed, s)
saved_go_on c m first s bytes e l restores =
    let is = is_first m first e in
    restores first (starts (encryption_secret m.epoch_secret) first s is.fresh (later c (encryption_secret m.epoch_secret) first s l is.of))
