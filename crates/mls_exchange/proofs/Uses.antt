-- A key that was used is gone, and stays so.
use Rattle.std.proofs.Common.{◌≡◌, ℕ, ◌<◌, ◌^◌, true, false, ◌&&◌, inl, inr, List, [], ◌∷◌, Some, Result, Ok, Err, refl, sym, ap, ◌∙◌, subst}
use Rattle.std.proofs.lemmas.Bool.{cases_lt, le-ltb, false_from_ne_true}
use Rattle.mls_suite.specs.Crypto.{Crypto}
use Rattle.mls_treemath.specs.Paths.{leaf_path}
use Rattle.mls_secret_tree.specs.SecretTree.{Tree, Drafted, draft_key, keep_draft, next_generation}
use Rattle.mls_secret_tree.specs.Holding.{holds, holds_below, IsTreeOf}
use Rattle.mls_secret_tree.specs.Laws.{IsAnswered}
use Rattle.mls_secret_tree.proofs.TreeLaws.{keys_are_derived, each_is_answered, used_is_gone}
use Rattle.mls_exchange.specs.declared.open.Opened.{Opened}
use Rattle.mls_exchange.specs.State.{State, after_draft}
use Rattle.mls_exchange.specs.Sealing.{seal_message}
use Rattle.mls_exchange.specs.Opening.{open_message}
use Rattle.mls_exchange.specs.Laws.{UsesKey, Call, Seal, Open, kept_state, after_call, after_calls, StaysInEpoch, IsGone, StaysGone}
use Rattle.mls_exchange.proofs.Genuine.{is_opening}
use Rattle.mls_exchange.proofs.Sealed.{is_sealing, some_is}

-- ---- one use

pub uses : (secret : List ℕ) (s : State) (leaf g : ℕ) (d : Drafted) → IsTreeOf secret s.keys → draft_key s.keys leaf g ≡ Ok d
    → UsesKey s leaf g (after_draft s d)
unfolding after_draft keep_draft
uses secret s leaf g d of e = record {
  share = λ x is. record {
    group_id = refl;
    epoch = refl;
    context = refl;
    sender_data_secret = refl;
    nodes = refl;
    height = refl;
    of = is;
    other_of = (keys_are_derived x s.keys leaf g d is e).behind;
  };
  own_leaf = refl;
  own_key = refl;
  keys = used_is_gone secret s.keys leaf g d of e;
}

pub opening_uses : (c : Crypto) (secret : List ℕ) (s after : State) (bytes : List ℕ) (o : Opened) → IsTreeOf secret s.keys
    → open_message c s bytes ≡ Ok (o, after) → UsesKey s o.leaf_index o.generation after
opening_uses c secret s after bytes o of e =
    let x = is_opening c s bytes o after e in
    let P : State → Type 0 = UsesKey s o.leaf_index o.generation in
    subst P x.is_after (uses secret s o.leaf_index o.generation x.genuine.draft of x.genuine.drafted)

pub sealing_uses : (c : Crypto) (secret : List ℕ) (s after : State) (application_data authenticated_data : List ℕ) (padding : ℕ) (seed bytes : List ℕ)
    → IsTreeOf secret s.keys → seal_message c s application_data authenticated_data padding seed ≡ Ok (bytes, after)
    → (generation : ℕ) × (next_generation s.keys s.leaf ≡ Some generation) × UsesKey s s.leaf generation after
sealing_uses c secret s after application_data authenticated_data padding seed bytes of e =
    let x = is_sealing c s application_data authenticated_data padding seed bytes after e in
    let P : State → Type 0 = UsesKey s s.leaf x.generation in
    (x.generation, x.next, subst P x.is_after (uses secret s s.leaf x.generation x.draft of x.drafted))

-- ---- what is gone

-- what is held is held inside the tree
pub held_inside : (t : Tree) (leaf g : ℕ) → holds t leaf g ≡ true → leaf < 2 ^ t.height
unfolding holds
held_inside t leaf g h = elim (cases_lt leaf (2 ^ t.height)) [
  | inl low ↦ low
  | inr high ↦ (let wrong = sym (ap (λ b. b && holds_below t.root (leaf_path t.height leaf) g) (le-ltb leaf (2 ^ t.height) high)) ∙ h in absurd cc)
]

-- no key is drafted that is gone
not_drafted : (secret : List ℕ) (t : Tree) (leaf g : ℕ) (d : Drafted) → IsTreeOf secret t → holds t leaf g ≡ false → draft_key t leaf g ≡ Ok d → ⊥
not_drafted secret t leaf g d of gone e =
    let a : IsAnswered t leaf g = each_is_answered secret t leaf g of in
    elim (cases_lt leaf (2 ^ t.height)) [
      | inl low ↦ (let wrong = sym (a.used low gone) ∙ e in cc)
      | inr high ↦ (let wrong = sym (a.outside high) ∙ e in cc)
    ]

-- ---- the epoch stays

stays_here : (secret : List ℕ) (s : State) → IsTreeOf secret s.keys → StaysInEpoch secret s s
stays_here secret s of = record {
  share = record { group_id = refl; epoch = refl; context = refl; sender_data_secret = refl; nodes = refl; height = refl; of = of; other_of = of };
  own_leaf = refl;
  own_key = refl;
}

pub stays_on : (secret : List ℕ) (s r u : State) → StaysInEpoch secret s r → StaysInEpoch secret r u → StaysInEpoch secret s u
stays_on secret s r u a b = record {
  share = record {
    group_id = b.share.group_id ∙ a.share.group_id;
    epoch = b.share.epoch ∙ a.share.epoch;
    context = b.share.context ∙ a.share.context;
    sender_data_secret = b.share.sender_data_secret ∙ a.share.sender_data_secret;
    nodes = b.share.nodes ∙ a.share.nodes;
    height = b.share.height ∙ a.share.height;
    of = a.share.of;
    other_of = b.share.other_of;
  };
  own_leaf = b.own_leaf ∙ a.own_leaf;
  own_key = b.own_key ∙ a.own_key;
}

pub use_stays : (secret : List ℕ) (leaf g : ℕ) (s after : State) → IsTreeOf secret s.keys → UsesKey s leaf g after → StaysInEpoch secret s after
use_stays secret leaf g s after of u = record { share = u.share secret of; own_leaf = u.own_leaf; own_key = u.own_key }

sealing_stays : (c : Crypto) (secret : List ℕ) (s : State) (application_data authenticated_data : List ℕ) (padding : ℕ) (seed : List ℕ)
    (r : Result (List ℕ × State) ℕ) → seal_message c s application_data authenticated_data padding seed ≡ r → IsTreeOf secret s.keys
    → StaysInEpoch secret s (kept_state s r)
sealing_stays c secret s application_data authenticated_data padding seed (Ok x) e of =
    let u = sealing_uses c secret s x.1 application_data authenticated_data padding seed x.0 of e in
    use_stays secret s.leaf u.0 s x.1 of u.2
sealing_stays c secret s application_data authenticated_data padding seed (Err n) e of = stays_here secret s of

opening_stays : (c : Crypto) (secret : List ℕ) (s : State) (bytes : List ℕ) (r : Result (Opened × State) ℕ) → open_message c s bytes ≡ r
    → IsTreeOf secret s.keys → StaysInEpoch secret s (kept_state s r)
opening_stays c secret s bytes (Ok x) e of =
    use_stays secret x.0.leaf_index x.0.generation s x.1 of (opening_uses c secret s x.1 bytes x.0 of e)
opening_stays c secret s bytes (Err n) e of = stays_here secret s of

pub call_stays : (c : Crypto) (secret : List ℕ) (s : State) (call : Call) → IsTreeOf secret s.keys → StaysInEpoch secret s (after_call c s call)
call_stays c secret s (Seal application_data authenticated_data padding seed) of =
    sealing_stays c secret s application_data authenticated_data padding seed _ refl of
call_stays c secret s (Open bytes) of = opening_stays c secret s bytes _ refl of

pub calls_stay : (c : Crypto) (secret : List ℕ) (s : State) (calls : List Call) → IsTreeOf secret s.keys → StaysInEpoch secret s (after_calls c s calls)
calls_stay c secret s [] of = stays_here secret s of
calls_stay c secret s (call ∷ calls) of =
    let one = call_stays c secret s call of in
    stays_on secret s (after_call c s call) _ one (calls_stay c secret (after_call c s call) calls one.share.other_of)

-- ---- what is gone stays so

-- a state of an encryption secret, at which a key is gone
record Lacks (secret : List ℕ) (leaf g : ℕ) (s : State) : Type 0 where
  of : IsTreeOf secret s.keys
  gone : IsGone s leaf g

still_lacks : (secret : List ℕ) (leaf g used at : ℕ) (s after : State) → Lacks secret leaf g s → UsesKey s used at after → Lacks secret leaf g after
still_lacks secret leaf g used at s after l u = record {
  of = (u.share secret l.of).other_of;
  gone = false_from_ne_true (holds after.keys leaf g) (λ held. let wrong = sym l.gone ∙ u.keys.no_more leaf g held in cc);
}

by_sealing : (c : Crypto) (secret : List ℕ) (leaf g : ℕ) (s : State) (application_data authenticated_data : List ℕ) (padding : ℕ) (seed : List ℕ)
    (r : Result (List ℕ × State) ℕ) → seal_message c s application_data authenticated_data padding seed ≡ r → Lacks secret leaf g s → Lacks secret leaf g (kept_state s r)
by_sealing c secret leaf g s application_data authenticated_data padding seed (Ok x) e l =
    let u = sealing_uses c secret s x.1 application_data authenticated_data padding seed x.0 l.of e in
    still_lacks secret leaf g s.leaf u.0 s x.1 l u.2
by_sealing c secret leaf g s application_data authenticated_data padding seed (Err n) e l = l

by_opening : (c : Crypto) (secret : List ℕ) (leaf g : ℕ) (s : State) (bytes : List ℕ) (r : Result (Opened × State) ℕ)
    → open_message c s bytes ≡ r → Lacks secret leaf g s → Lacks secret leaf g (kept_state s r)
by_opening c secret leaf g s bytes (Ok x) e l =
    still_lacks secret leaf g x.0.leaf_index x.0.generation s x.1 l (opening_uses c secret s x.1 bytes x.0 l.of e)
by_opening c secret leaf g s bytes (Err n) e l = l

after_one : (c : Crypto) (secret : List ℕ) (leaf g : ℕ) (s : State) (call : Call) → Lacks secret leaf g s → Lacks secret leaf g (after_call c s call)
after_one c secret leaf g s (Seal application_data authenticated_data padding seed) l =
    by_sealing c secret leaf g s application_data authenticated_data padding seed _ refl l
after_one c secret leaf g s (Open bytes) l = by_opening c secret leaf g s bytes _ refl l

after_all : (c : Crypto) (secret : List ℕ) (leaf g : ℕ) (s : State) (calls : List Call) → Lacks secret leaf g s → Lacks secret leaf g (after_calls c s calls)
after_all c secret leaf g s [] l = l
after_all c secret leaf g s (call ∷ calls) l = after_all c secret leaf g (after_call c s call) calls (after_one c secret leaf g s call l)

pub stays_gone : (c : Crypto) (secret : List ℕ) (s : State) (calls : List Call) (leaf g : ℕ) → IsTreeOf secret s.keys → IsGone s leaf g
    → StaysGone c (after_calls c s calls) leaf g
stays_gone c secret s calls leaf g of gone =
    let v = after_calls c s calls in
    let l : Lacks secret leaf g v = after_all c secret leaf g s calls (record { of = of; gone = gone }) in
    record {
      gone = l.gone;
      never_opens = λ bytes o after e at_leaf in_generation.
          let x = is_opening c v bytes o after e in
          let D : ℕ → ℕ → Type 0 = λ i k. draft_key v.keys i k ≡ Ok x.genuine.draft in
          let one : D leaf o.generation = subst (λ (i : ℕ). D i o.generation) at_leaf x.genuine.drafted in
          not_drafted secret v.keys leaf g x.genuine.draft l.of l.gone (subst (λ (k : ℕ). D leaf k) in_generation one);
      never_seals = λ application_data authenticated_data padding seed bytes after e at_leaf next.
          let x = is_sealing c v application_data authenticated_data padding seed bytes after e in
          let same : x.generation ≡ g = some_is x.generation g (sym x.next ∙ next) in
          let D : ℕ → ℕ → Type 0 = λ i k. draft_key v.keys i k ≡ Ok x.draft in
          let one : D leaf x.generation = subst (λ (i : ℕ). D i x.generation) at_leaf x.drafted in
          not_drafted secret v.keys leaf g x.draft l.of l.gone (subst (λ (k : ℕ). D leaf k) same one);
    }
