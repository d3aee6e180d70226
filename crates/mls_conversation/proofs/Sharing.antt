-- Conversations of good members that share an epoch.
use Rattle.std.proofs.Common.{◌≡◌, ℕ, suc, ◌<◌, ◌≤◌, ◌^◌, true, false, not, inl, inr, List, Some, Ok, refl, sym, ap, ◌∙◌, subst, arith}
use Rattle.std.specs.Prelude.{nat_lt}
use Rattle.std.proofs.Math.Pow.{pow_mono}
use Rattle.std.proofs.lemmas.Bool.{cases_lt, cond-false, le-ltb, leb-true}
use Rattle.mls_wire.specs.Checks.{require_some}
use Rattle.mls_wire.specs.Laws.{bind_ok, ok_is}
use Rattle.mls_wire.proofs.CheckLaws.{require_ok}
use Rattle.mls_leaf.specs.declared.leaf.LeafNode.{LeafNode}
use Rattle.mls_suite.specs.Crypto.{Crypto, Lawful}
use Rattle.mls_types.specs.GroupContext.{group_context}
use Rattle.mls_types.specs.declared.group_context.GroupContext.{GroupContext}
use Rattle.mls_treemath.specs.Limits.{max_height}
use Rattle.mls_treemath.specs.Steps.{height_of}
use Rattle.mls_treemath.proofs.Heights.{height_of-pow}
use Rattle.mls_schedule.specs.Epoch.{encryption_secret, sender_data_secret}
use Rattle.mls_tree_model.specs.Term.{Term, height, width, leaf_of}
use Rattle.mls_tree_model.specs.Arrays.{to_nodes}
use Rattle.mls_tree_model.specs.Good.{is_within}
use Rattle.mls_tree_model.proofs.ShapeLaws.{width-perfect}
use Rattle.mls_secret_tree.specs.Ratchet.{window}
use Rattle.mls_secret_tree.specs.SecretTree.{first_tree, next_generation}
use Rattle.mls_secret_tree.specs.Holding.{holds, IsTreeOf}
use Rattle.mls_secret_tree.proofs.TreeLaws.{first_is_fresh}
use Rattle.mls_model.specs.Member.{Member}
use Rattle.mls_model.specs.MemberInvariant.{IsGoodMember}
use Rattle.mls_model.specs.Sharing.{ShareEpoch}
use Rattle.mls_exchange.specs.State.{State, member_at}
use Rattle.mls_exchange.specs.Sealing.{seal_message}
use Rattle.mls_exchange.specs.Laws.{OfOneEpoch, IsOwnLeaf, IsInRange, CanOpen, Arrives, StaysInEpoch}
use Rattle.mls_exchange.proofs.Uses.{calls_stay}
use Rattle.mls_exchange.proofs.Arriving.{sealed_arrives}
use Rattle.mls_conversation.specs.Conversation.{state_with, conversation_of}
use Rattle.mls_conversation.specs.Laws.{HasConversation, ConversationsShare, IsLaterThan}
use Rattle.mls_conversation.proofs.Nodes.{member_is}
use Rattle.mls_conversation.proofs.Made.{is_made}

-- ---- one member

-- the epoch's number of a context that has a spelling
epoch_fits : (v : GroupContext) → group_context.Fits v → v.epoch < 2 ^ 64
unfolding group_context
epoch_fits v fits = fits.1.1.0

-- a tree that isn't too large is no higher than a tree may be
not_higher : (d : ℕ) → 2 ^ d ≤ 2 ^ max_height → d ≤ max_height
not_higher d le = elim (cases_lt max_height d) [
  | inr within ↦ within
  | inl past ↦ (let more : 2 ^ suc max_height ≤ 2 ^ d = pow_mono past in absurd (omega arith))
]

record HasHeight (t : Term) : Type 0 where
  is : height_of (width t) ≡ Some (height t)
  leaves : width t ≡ 2 ^ height t
  low : height t ≤ max_height

has_height : (c : Crypto) (m : Member) → IsGoodMember c m → HasHeight m.public.tree
unfolding is_within
has_height c m good =
    let t = m.public.tree in
    let w : width t ≡ 2 ^ height t = width-perfect (height t) t good.tree.perfect in
    let le : width t ≤ 2 ^ max_height = leb-true (width t) (2 ^ max_height) good.tree.within in
    let h : height t ≤ max_height = not_higher (height t) (subst (λ (n : ℕ). n ≤ 2 ^ max_height) w le) in
    record { is = ap height_of w ∙ height_of-pow (height t) h; leaves = w; low = h }

-- what a member exchanges messages with at first, where its tree has this height
unfoldable pub state_of : Member → ℕ → State
state_of m h = state_with m (first_tree (encryption_secret m.epoch_secret) h)

-- a leaf of the tree lies in it
leaf_inside : (t : Term) (i : ℕ) (leaf : LeafNode) → leaf_of t i ≡ Some leaf → i < width t
unfolding leaf_of
leaf_inside t i leaf e = elim (cases_lt i (width t)) [
  | inl inside ↦ inside
  | inr past ↦ (let wrong = sym (cond-false (nat_lt i (width t)) _ _ (le-ltb i (width t) past)) ∙ e in absurd cc)
]

pub has_conversation : (c : Crypto) (m : Member) → IsGoodMember c m → m.gone ≡ false → HasConversation c m
unfolding state_of state_with
has_conversation c m good active =
    let t = m.public.tree in
    let h = has_height c m good in
    let inside : m.keys.leaf < width t = leaf_inside t m.keys.leaf good.own good.is_own in
    let most : 2 ^ height t ≤ 2 ^ max_height = pow_mono h.low in
    record {
      state = state_of m (height t);
      is = is_made m (height t) active h.is;
      leaf = good.own;
      stands = good.is_own;
      own = record { stands = member_is (height t) t m.keys.leaf good.tree.perfect ∙ good.is_own; signature_key = good.signing };
      range = record { epoch = epoch_fits m.public.context good.context; leaf = (let w = h.leaves in omega arith) };
    }

-- ---- members that share an epoch

state_shared : (m n : Member) (h k : ℕ) → m.public.tree ≡ n.public.tree → m.public.context ≡ n.public.context → m.epoch_secret ≡ n.epoch_secret → k ≡ h
    → OfOneEpoch (encryption_secret m.epoch_secret) (state_of m h) (state_of n k)
unfolding state_of state_with first_tree
state_shared m n h k tree context epoch same = record {
  group_id = ap (λ (v : GroupContext). v.group_id) (sym context);
  epoch = ap (λ (v : GroupContext). v.epoch) (sym context);
  context = ap group_context.spell (sym context);
  sender_data_secret = ap sender_data_secret (sym epoch);
  nodes = ap to_nodes (sym tree);
  height = same;
  of = refl;
  other_of = ap encryption_secret (sym epoch);
}

pub members_share : (c : Crypto) (m n : Member) → ShareEpoch c m n → ConversationsShare c m n
unfolding has_conversation
members_share c m n s = record {
  first = has_conversation c m s.good s.active;
  second = has_conversation c n s.other_good s.other_active;
  of_one = state_shared m n (height m.public.tree) (height n.public.tree) s.agree.tree s.agree.context s.secret.epoch (ap height (sym s.agree.tree));
}

-- ---- keys at first

height_is : (m : Member) (h : ℕ) → (state_of m h).keys.height ≡ h
unfolding state_of state_with first_tree
height_is m h = refl

state_holds : (m : Member) (h leaf g : ℕ) → leaf < 2 ^ h → holds (state_of m h).keys leaf g ≡ true
unfolding state_of state_with first_tree
state_holds m h leaf g inside = (first_is_fresh (encryption_secret m.epoch_secret) h).all leaf g inside

pub fresh_holds : (m : Member) (s : State) (leaf g : ℕ) → conversation_of m ≡ Ok s → leaf < 2 ^ s.keys.height → holds s.keys leaf g ≡ true
unfolding conversation_of state_of
fresh_holds m s leaf g e inside =
    let active = require_ok 40 (not m.gone) _ _ e in
    let h = bind_ok (require_some 20 (height_of (width m.public.tree))) _ _ active.1 in
    let same : state_of m h.0 ≡ s = ok_is (state_of m h.0) s h.2 in
    let low : leaf < 2 ^ h.0 = subst (λ (n : ℕ). leaf < 2 ^ n) (ap (λ (x : State). x.keys.height) (sym same) ∙ height_is m h.0) inside in
    subst (λ (x : State). holds x.keys leaf g ≡ true) same (state_holds m h.0 leaf g low)

pub fresh_can_open : (m : Member) (s : State) (leaf g : ℕ) → conversation_of m ≡ Ok s → leaf < 2 ^ s.keys.height → g ≤ window → CanOpen s leaf g
fresh_can_open m s leaf g e inside near = record { held = fresh_holds m s leaf g e inside; near = omega arith }

-- ---- arriving

pub later : (c : Crypto) (secret : List ℕ) (first s : State) → IsLaterThan c first s → IsTreeOf secret first.keys → StaysInEpoch secret first s
later c secret first s l of = subst (StaysInEpoch secret first) (sym l.1) (calls_stay c secret first l.0 of)

-- a state of a sender and one of a receiver in one epoch
pub record IsSender (c : Crypto) (secret : List ℕ) (s r : State) (leaf : LeafNode) : Type 0 where
  pub range : IsInRange s
  pub both : OfOneEpoch secret s r
  pub own : IsOwnLeaf c s leaf

pub is_sender : (c : Crypto) (m n : Member) (shared : ConversationsShare c m n) (s r : State) → IsLaterThan c shared.first.state s
    → IsLaterThan c shared.second.state r → IsSender c (encryption_secret m.epoch_secret) s r shared.first.leaf
is_sender c m n shared s r since since' =
    let secret = encryption_secret m.epoch_secret in
    let one = shared.of_one in
    let x = later c secret shared.first.state s since one.of in
    let y = later c secret shared.second.state r since' one.other_of in
    record {
      range = record {
        epoch = subst (λ (k : ℕ). k < 2 ^ 64) (sym x.share.epoch) shared.first.range.epoch;
        leaf = subst (λ (k : ℕ). k < 2 ^ 32) (sym x.own_leaf) shared.first.range.leaf;
      };
      both = record {
        group_id = y.share.group_id ∙ one.group_id ∙ sym x.share.group_id;
        epoch = y.share.epoch ∙ one.epoch ∙ sym x.share.epoch;
        context = y.share.context ∙ one.context ∙ sym x.share.context;
        sender_data_secret = y.share.sender_data_secret ∙ one.sender_data_secret ∙ sym x.share.sender_data_secret;
        nodes = y.share.nodes ∙ one.nodes ∙ sym x.share.nodes;
        height = y.share.height ∙ one.height ∙ sym x.share.height;
        of = x.share.other_of;
        other_of = y.share.other_of;
      };
      own = record {
        stands = ap (λ i. member_at s.nodes i) x.own_leaf ∙ ap (λ ns. member_at ns shared.first.state.leaf) x.share.nodes ∙ shared.first.own.stands;
        signature_key = shared.first.own.signature_key ∙ ap c.sig_public (sym x.own_key);
      };
    }

pub arrives_at_members : (c : Crypto) → Lawful c → (m n : Member) (shared : ConversationsShare c m n) (s after r : State) (application_data authenticated_data : List ℕ)
    (padding : ℕ) (seed bytes : List ℕ) (generation : ℕ)
    → IsLaterThan c shared.first.state s → IsLaterThan c shared.second.state r
    → seal_message c s application_data authenticated_data padding seed ≡ Ok (bytes, after)
    → next_generation s.keys s.leaf ≡ Some generation → CanOpen r s.leaf generation
    → Arrives c s r shared.first.leaf generation application_data authenticated_data bytes
arrives_at_members c laws m n shared s after r d a padding seed bytes generation since since' e next can =
    let x : IsSender c (encryption_secret m.epoch_secret) s r shared.first.leaf = is_sender c m n shared s r since since' in
    sealed_arrives c laws (encryption_secret m.epoch_secret) s after r shared.first.leaf d a padding seed bytes generation x.range x.both x.own e next can
