-- No generation falls, none opens twice, and messages open in whatever order.
use Rattle.std.proofs.Common.{◌≡◌, ◌≢◌, ℕ, ◌+◌, ◌<◌, ◌≤◌, ◌^◌, true, inl, inr, List, [], ◌∷◌, Option, Some, None, Result, Ok, Err, refl, sym, ap, ◌∙◌, subst, arith}
use Rattle.std.specs.Prelude.{nat_lt}
use Rattle.std.proofs.lemmas.Bool.{cases_eq}
use Rattle.mls_wire.specs.Laws.{chosen}
use Rattle.mls_leaf.specs.declared.leaf.LeafNode.{LeafNode}
use Rattle.mls_suite.specs.Crypto.{Crypto, Lawful}
use Rattle.mls_treemath.specs.Paths.{leaf_path}
use Rattle.mls_secret_tree.specs.Ratchet.{window}
use Rattle.mls_secret_tree.specs.Held.{next_below}
use Rattle.mls_secret_tree.specs.SecretTree.{Tree, Drafted, draft_key, next_generation, in_32_bits}
use Rattle.mls_secret_tree.specs.Holding.{holds, IsTreeOf}
use Rattle.mls_secret_tree.specs.Generations.{next_of, MovesOn}
use Rattle.mls_secret_tree.proofs.TreeLaws.{each_is_answered, is_drafted}
use Rattle.mls_secret_tree.proofs.Generations.{use_moves_on, rises}
use Rattle.mls_private_message.specs.Sealing.{open_sender_data}
use Rattle.mls_exchange.specs.declared.open.Opened.{Opened}
use Rattle.mls_exchange.specs.State.{State, member_at, after_draft}
use Rattle.mls_exchange.specs.Sealing.{seal_message}
use Rattle.mls_exchange.specs.Opening.{open_message}
use Rattle.mls_exchange.specs.Laws.{IsInRange, OfOneEpoch, IsOwnLeaf, UsesKey, Call, Seal, Open, kept_state, after_call, after_calls}
use Rattle.mls_exchange.specs.Generations.{sealed_under, opened_under, key_of, Spares, AllSpare, ArrivesOnce}
use Rattle.mls_exchange.proofs.Steps.{no_key, opened_here}
use Rattle.mls_exchange.proofs.Genuine.{is_opening}
use Rattle.mls_exchange.proofs.Sealed.{is_sealing, some_is}
use Rattle.mls_exchange.proofs.Uses.{uses, opening_uses, call_stays, calls_stay, stays_on, use_stays, stays_gone}
use Rattle.mls_exchange.proofs.Arriving.{here, sealed_arrives}

-- ---- next generations

small_is : (n g : ℕ) → in_32_bits n ≡ Some g → n ≡ g
unfolding in_32_bits
small_is n g e = elim (chosen (nat_lt n (2 ^ 32)) (Some n) None (Some g) e) [
  | inl right ↦ some_is n g right.1
  | inr wrong ↦ (let impossible = wrong.1 in absurd cc)
]

-- a generation that is taken is the next of its leaf
next_is : (t : Tree) (leaf g : ℕ) → next_generation t leaf ≡ Some g → next_of t leaf ≡ g
unfolding next_generation
next_is t leaf g e = elim (chosen (nat_lt leaf (2 ^ t.height)) (in_32_bits (next_below t.root (leaf_path t.height leaf))) None (Some g) e) [
  | inl right ↦ small_is (next_below t.root (leaf_path t.height leaf)) g right.1
  | inr wrong ↦ (let impossible = wrong.1 in absurd cc)
]

moved : (secret : List ℕ) (s : State) (leaf g : ℕ) (d : Drafted) → IsTreeOf secret s.keys → draft_key s.keys leaf g ≡ Ok d
    → MovesOn s.keys leaf g (after_draft s d).keys
unfolding after_draft
moved secret s leaf g d of e = use_moves_on secret s.keys leaf g d of e

opening_moves : (c : Crypto) (secret : List ℕ) (s after : State) (bytes : List ℕ) (o : Opened) → IsTreeOf secret s.keys
    → open_message c s bytes ≡ Ok (o, after) → MovesOn s.keys o.leaf_index o.generation after.keys
opening_moves c secret s after bytes o of e =
    let x = is_opening c s bytes o after e in
    let P : State → Type 0 = λ y. MovesOn s.keys o.leaf_index o.generation y.keys in
    subst P x.is_after (moved secret s o.leaf_index o.generation x.genuine.draft of x.genuine.drafted)

-- what sealing did
record Sealed (s : State) (generation : ℕ) (after : State) : Type 0 where
  uses : UsesKey s s.leaf generation after
  moves : MovesOn s.keys s.leaf generation after.keys
  low : s.leaf < 2 ^ s.keys.height

sealing_moves : (c : Crypto) (secret : List ℕ) (s after : State) (d a : List ℕ) (padding : ℕ) (seed bytes : List ℕ) (generation : ℕ) → IsTreeOf secret s.keys
    → seal_message c s d a padding seed ≡ Ok (bytes, after) → next_of s.keys s.leaf ≡ generation → Sealed s generation after
sealing_moves c secret s after d a padding seed bytes generation of e next =
    let x = is_sealing c s d a padding seed bytes after e in
    let same : x.generation ≡ generation = sym (next_is s.keys s.leaf x.generation x.next) ∙ next in
    let made : Sealed s x.generation (after_draft s x.draft) = record {
      uses = uses secret s s.leaf x.generation x.draft of x.drafted;
      moves = moved secret s s.leaf x.generation x.draft of x.drafted;
      low = (is_drafted s.keys s.leaf x.generation x.draft x.drafted).low;
    } in
    subst (λ (g : ℕ). Sealed s g after) same (subst (Sealed s x.generation) x.is_after made)

-- ---- one call

-- the key of a call is used, or nothing changes
abbrev Moves : State → Option (ℕ × ℕ) → State → Type 0
Moves s None after = s ≡ after
Moves s (Some key) after = UsesKey s key.0 key.1 after × MovesOn s.keys key.0 key.1 after.keys

by_sealing : (c : Crypto) (secret : List ℕ) (s : State) (d a : List ℕ) (padding : ℕ) (seed : List ℕ) (r : Result (List ℕ × State) ℕ)
    → seal_message c s d a padding seed ≡ r → IsTreeOf secret s.keys → Moves s (sealed_under s r) (kept_state s r)
by_sealing c secret s d a padding seed (Ok x) e of =
    let m = sealing_moves c secret s x.1 d a padding seed x.0 (next_of s.keys s.leaf) of e refl in
    (m.uses, m.moves)
by_sealing c secret s d a padding seed (Err n) e of = refl

by_opening : (c : Crypto) (secret : List ℕ) (s : State) (bytes : List ℕ) (r : Result (Opened × State) ℕ) → open_message c s bytes ≡ r
    → IsTreeOf secret s.keys → Moves s (opened_under r) (kept_state s r)
by_opening c secret s bytes (Ok x) e of = (opening_uses c secret s x.1 bytes x.0 of e, opening_moves c secret s x.1 bytes x.0 of e)
by_opening c secret s bytes (Err n) e of = refl

call_moves : (c : Crypto) (secret : List ℕ) (s : State) (call : Call) → IsTreeOf secret s.keys → Moves s (key_of c s call) (after_call c s call)
call_moves c secret s (Seal d a padding seed) of = by_sealing c secret s d a padding seed _ refl of
call_moves c secret s (Open bytes) of = by_opening c secret s bytes _ refl of

-- ---- none falls

one_rises : (s after : State) (key : Option (ℕ × ℕ)) (leaf : ℕ) → Moves s key after → leaf < 2 ^ s.keys.height → next_of s.keys leaf ≤ next_of after.keys leaf
one_rises s after None leaf m low = subst (λ (x : State). next_of s.keys leaf ≤ next_of x.keys leaf) m (omega arith)
one_rises s after (Some key) leaf m low = rises s.keys after.keys key.0 key.1 leaf m.1 low

pub next_never_falls : (c : Crypto) (secret : List ℕ) (s : State) (calls : List Call) (leaf : ℕ) → IsTreeOf secret s.keys → leaf < 2 ^ s.keys.height
    → next_of s.keys leaf ≤ next_of (after_calls c s calls).keys leaf
next_never_falls c secret s [] leaf of low = omega arith
next_never_falls c secret s (call ∷ calls) leaf of low =
    let stays = call_stays c secret s call of in
    let one = one_rises s (after_call c s call) (key_of c s call) leaf (call_moves c secret s call of) low in
    let inside = subst (λ (h : ℕ). leaf < 2 ^ h) (sym stays.share.height) low in
    let rest = next_never_falls c secret (after_call c s call) calls leaf stays.share.other_of inside in
    omega (arith, one, rest)

pub opened_lies_behind : (c : Crypto) (secret : List ℕ) (s after : State) (bytes : List ℕ) (o : Opened) → IsTreeOf secret s.keys
    → open_message c s bytes ≡ Ok (o, after) → o.generation < next_of after.keys o.leaf_index
opened_lies_behind c secret s after bytes o of e = let m = (opening_moves c secret s after bytes o of e).own in omega (arith, m)

pub seals_later : (c : Crypto) (secret : List ℕ) (s after : State) (d a : List ℕ) (padding : ℕ) (seed bytes : List ℕ) (calls : List Call) (generation later : ℕ)
    → IsTreeOf secret s.keys → seal_message c s d a padding seed ≡ Ok (bytes, after) → next_generation s.keys s.leaf ≡ Some generation
    → next_generation (after_calls c after calls).keys s.leaf ≡ Some later → generation < later
seals_later c secret s after d a padding seed bytes calls generation later of e next then =
    let m = sealing_moves c secret s after d a padding seed bytes generation of e (next_is s.keys s.leaf generation next) in
    let share = m.uses.share secret of in
    let own = m.moves.own in
    let low = subst (λ (h : ℕ). s.leaf < 2 ^ h) (sym share.height) m.low in
    let rest = next_never_falls c secret after calls s.leaf share.other_of low in
    let last = next_is (after_calls c after calls).keys s.leaf later then in
    omega (arith, own, rest, last)

-- ---- none opens twice

pub opens_once : (c : Crypto) (secret : List ℕ) (s after : State) (bytes : List ℕ) (o : Opened) (calls : List Call) → IsTreeOf secret s.keys
    → open_message c s bytes ≡ Ok (o, after) → open_message c (after_calls c after calls) bytes ≡ Err 116
opens_once c secret s after bytes o calls of e =
    let v = after_calls c after calls in
    let x = (is_opening c s bytes o after e).genuine in
    let u = opening_uses c secret s after bytes o of e in
    let first = use_stays secret o.leaf_index o.generation s after of u in
    let share = (stays_on secret s after v first (calls_stay c secret after calls first.share.other_of)).share in
    let gone = (stays_gone c secret after calls o.leaf_index o.generation first.share.other_of u.keys.gone).gone in
    let low = subst (λ (h : ℕ). o.leaf_index < 2 ^ h) (sym share.height) (is_drafted s.keys o.leaf_index o.generation x.draft x.drafted).low in
    let shut : draft_key v.keys o.leaf_index o.generation ≡ Err 116 = (each_is_answered secret v.keys o.leaf_index o.generation share.other_of).used low gone in
    let sent : open_sender_data c v.sender_data_secret x.message ≡ Ok x.sender = ap (λ (z : List ℕ). open_sender_data c z x.message) share.sender_data_secret ∙ x.is_sent in
    let stands : member_at v.nodes x.sender.leaf_index ≡ Some x.leaf =
    ap (λ n. member_at n x.sender.leaf_index) share.nodes ∙ subst (λ (i : ℕ). member_at s.nodes i ≡ Some x.leaf) x.from_leaf x.stands in
    let at_leaf = subst (λ (i : ℕ). draft_key v.keys i o.generation ≡ Err 116) x.from_leaf shut in
    let refused = subst (λ (g : ℕ). draft_key v.keys x.sender.leaf_index g ≡ Err 116) x.in_generation at_leaf in
    opened_here c v bytes x.message x.is_read (here v x.message (x.in_group ∙ sym share.group_id) (x.in_epoch ∙ sym share.epoch))
    ∙ no_key c v x.message x.sender x.leaf 116 sent stands refused

-- ---- in whatever order

spared_key : (s after : State) (leaf g at k : ℕ) → UsesKey s at k after → (at ≡ leaf → (k ≢ g) × (k ≤ g + window)) → holds after.keys leaf g ≡ holds s.keys leaf g
spared_key s after leaf g at k u spares = elim (cases_eq at leaf) [
  | inl same ↦
      let p = spares same in
      let own : UsesKey s leaf k after = subst (λ (i : ℕ). UsesKey s i k after) same u in
      own.keys.near g (λ e. p.0 (sym e)) p.1
  | inr ne ↦ u.keys.others leaf g (λ e. ne (sym e))
]

spared : (s after : State) (key : Option (ℕ × ℕ)) (leaf g : ℕ) → Moves s key after → Spares leaf g key → holds s.keys leaf g ≡ true
    → holds after.keys leaf g ≡ true
spared s after None leaf g m spares held = subst (λ (x : State). holds x.keys leaf g ≡ true) m held
spared s after (Some key) leaf g m spares held = spared_key s after leaf g key.0 key.1 m.0 spares ∙ held

pub stays_held : (c : Crypto) (secret : List ℕ) (s : State) (calls : List Call) (leaf g : ℕ) → IsTreeOf secret s.keys → holds s.keys leaf g ≡ true
    → AllSpare c leaf g s calls → holds (after_calls c s calls).keys leaf g ≡ true
stays_held c secret s [] leaf g of held spare = held
stays_held c secret s (call ∷ calls) leaf g of held spare =
    let stays = call_stays c secret s call of in
    let one = spared s (after_call c s call) (key_of c s call) leaf g (call_moves c secret s call of) spare.0 held in
    stays_held c secret (after_call c s call) calls leaf g stays.share.other_of one spare.1

shared_on : (secret : List ℕ) (s r v : State) → OfOneEpoch secret s r → OfOneEpoch secret r v → OfOneEpoch secret s v
shared_on secret s r v a b = record {
  group_id = b.group_id ∙ a.group_id;
  epoch = b.epoch ∙ a.epoch;
  context = b.context ∙ a.context;
  sender_data_secret = b.sender_data_secret ∙ a.sender_data_secret;
  nodes = b.nodes ∙ a.nodes;
  height = b.height ∙ a.height;
  of = a.of;
  other_of = b.other_of;
}

pub arrives_in_any_order : (c : Crypto) → Lawful c → (secret : List ℕ) (s after r : State) (leaf : LeafNode) (d a : List ℕ) (padding : ℕ) (seed bytes : List ℕ)
    (generation : ℕ) (between : List Call) → IsInRange s → OfOneEpoch secret s r → IsOwnLeaf c s leaf → seal_message c s d a padding seed ≡ Ok (bytes, after)
    → next_generation s.keys s.leaf ≡ Some generation → holds r.keys s.leaf generation ≡ true → AllSpare c s.leaf generation r between
    → generation ≤ next_of (after_calls c r between).keys s.leaf + window → ArrivesOnce c s (after_calls c r between) leaf generation d a bytes
arrives_in_any_order c laws secret s after r leaf d a padding seed bytes generation between range share own e next held spare near =
    let v = after_calls c r between in
    let stays = calls_stay c secret r between share.other_of in
    let still = stays_held c secret r between s.leaf generation share.other_of held spare in
    let arrived = sealed_arrives c laws secret s after v leaf d a padding seed bytes generation range (shared_on secret s r v share stays.share) own e next
    (record { held = still; near = near }) in
    record { arrives = arrived; again = λ later. opens_once c secret v arrived.after bytes _ later stays.share.other_of arrived.opens }
