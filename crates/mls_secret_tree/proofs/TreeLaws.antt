-- The laws of secret trees.
use Rattle.std.proofs.Common.{◌≡◌, ℕ, ◌*◌, ◌^◌, ◌<◌, ◌≤◌, true, false, ◌&&◌, inl, inr, List, [], ◌∷◌, Result, Ok, Err, refl, sym, ap, ◌∙◌, subst, arith}
use Rattle.std.proofs.lemmas.Bool.{cond-true, cond-false, lt-ltb, le-ltb, cases_lt, false_from_ne_true}
use Rattle.mls_wire.specs.Reading.{◌>>=◌}
use Rattle.mls_wire.specs.Laws.{bind_ok}
use Rattle.mls_treemath.specs.Paths.{index_of, leaf_path}
use Rattle.mls_treemath.proofs.Leaves.{length-leaf_path, index_of-leaf}
use Rattle.mls_treemath.proofs.Sizes.{width_perfect}
use Rattle.mls_secret_tree.specs.Secrets.{application_key}
use Rattle.mls_secret_tree.specs.Held.{Held, Taken, take_below, put_below}
use Rattle.mls_secret_tree.specs.SecretTree.{Tree, Drafted, first_tree, draft_key, keep_draft}
use Rattle.mls_secret_tree.specs.Holding.{holds, holds_below, IsTreeOf}
use Rattle.mls_secret_tree.specs.Laws.{IsFresh, IsDraftOf, IsAnswered, LosesOne, use_key, use_keys, IsSpent}
use Rattle.mls_secret_tree.proofs.HeldLaws.{IsTakenBelow, below_is, IsAnsweredBelow, answered_below, LosesOneBelow, loses_below}

-- ---- ways of leaves

pub ways_differ : (h i j : ℕ) → i < 2 ^ h → j < 2 ^ h → (i ≡ j → ⊥) → leaf_path h i ≡ leaf_path h j → ⊥
ways_differ h i j low low' ne e =
    let w = width_perfect h in
    let a : index_of h (leaf_path h i) ≡ 2 * i = index_of-leaf h i (omega arith) in
    let b : index_of h (leaf_path h j) ≡ 2 * j = index_of-leaf h j (omega arith) in
    let same : 2 * i ≡ 2 * j = sym a ∙ ap (index_of h) e ∙ b in
    ne (omega arith)

-- ---- drafts

drafted : Tree → ℕ → ℕ → Result Drafted ℕ
drafted t leaf g = take_below t.root (leaf_path t.height leaf) g >>= λ x. Ok (record { leaf = leaf; key = x.0; held = x.1 })

draft_inside : (t : Tree) (leaf g : ℕ) → leaf < 2 ^ t.height → draft_key t leaf g ≡ drafted t leaf g
unfolding draft_key drafted
draft_inside t leaf g h = cond-true _ _ _ (lt-ltb leaf (2 ^ t.height) h)

draft_outside : (t : Tree) (leaf g : ℕ) → 2 ^ t.height ≤ leaf → draft_key t leaf g ≡ Err 114
unfolding draft_key
draft_outside t leaf g h = cond-false _ _ _ (le-ltb leaf (2 ^ t.height) h)

pub record IsDrafted (t : Tree) (leaf g : ℕ) (d : Drafted) : Type 0 where
  pub low : leaf < 2 ^ t.height
  pub taken : Taken
  pub is : take_below t.root (leaf_path t.height leaf) g ≡ Ok taken
  pub value : record { leaf = leaf; key = taken.0; held = taken.1 } ≡ d

pub same_value : {A : Type 0} (x y : A) → (let ok : A → Result A ℕ = λ z. Ok z in ok x ≡ ok y) → x ≡ y
same_value x y e = cc

pub is_drafted : (t : Tree) (leaf g : ℕ) (d : Drafted) → draft_key t leaf g ≡ Ok d → IsDrafted t leaf g d
unfolding drafted
is_drafted t leaf g d e = elim (cases_lt leaf (2 ^ t.height)) [
  | inr past ↦ (let wrong = sym (draft_outside t leaf g past) ∙ e in absurd cc)
  | inl low ↦
      let b = bind_ok (take_below t.root (leaf_path t.height leaf) g) (λ x. Ok (record { leaf = leaf; key = x.0; held = x.1 })) d (sym (draft_inside t leaf g low) ∙ e) in
      record { low = low; taken = b.0; is = b.1; value = same_value _ _ b.2 }
]

-- ---- one key

pub first_is_fresh : (s : List ℕ) (h : ℕ) → IsFresh s (first_tree s h)
unfolding first_tree holds holds_below
first_is_fresh s h = record { is = refl; all = λ leaf g low. ap (λ b. b && true) (lt-ltb leaf (2 ^ h) low) }

pub keys_are_derived : (s : List ℕ) (t : Tree) (leaf g : ℕ) (d : Drafted) → IsTreeOf s t → draft_key t leaf g ≡ Ok d → IsDraftOf s t leaf g d
unfolding application_key keep_draft
keys_are_derived s t leaf g d is e =
    let f = is_drafted t leaf g d e in
    let b : IsTakenBelow t.height s (leaf_path t.height leaf) g f.taken.0 (put_below t.root (leaf_path t.height leaf) f.taken.1) =
    below_is t.root t.height s (leaf_path t.height leaf) g f.taken (length-leaf_path t.height leaf) is f.is in
    let P : Drafted → Type 0 = IsDraftOf s t leaf g in
    subst P f.value (record { key = b.key; behind = b.behind })

pub each_is_answered : (s : List ℕ) (t : Tree) (leaf g : ℕ) → IsTreeOf s t → IsAnswered t leaf g
unfolding holds drafted
each_is_answered s t leaf g is =
    let a : IsAnsweredBelow t.root (leaf_path t.height leaf) g = answered_below t.root t.height s (leaf_path t.height leaf) g (length-leaf_path t.height leaf) is in
    record {
      outside = draft_outside t leaf g;
      too_far = λ low far. draft_inside t leaf g low ∙ ap (λ r. r >>= λ x. Ok (record { leaf = leaf; key = x.0; held = x.1 })) (a.too_far far);
      used = λ low h. draft_inside t leaf g low
          ∙ ap (λ r. r >>= λ x. Ok (record { leaf = leaf; key = x.0; held = x.1 }))
          (a.used (sym (ap (λ b. b && holds_below t.root (leaf_path t.height leaf) g) (lt-ltb leaf (2 ^ t.height) low)) ∙ h));
      drafted = λ low near h. (let x = a.taken near (sym (ap (λ b. b && holds_below t.root (leaf_path t.height leaf) g) (lt-ltb leaf (2 ^ t.height) low)) ∙ h) in
          (record { leaf = leaf; key = x.0.0; held = x.0.1 }, draft_inside t leaf g low ∙ ap (λ r. r >>= λ x. Ok (record { leaf = leaf; key = x.0; held = x.1 })) x.1));
    }

-- ---- what is gone

inside : (t : Tree) (leaf g : ℕ) → leaf < 2 ^ t.height → holds t leaf g ≡ holds_below t.root (leaf_path t.height leaf) g
unfolding holds
inside t leaf g low = ap (λ b. b && holds_below t.root (leaf_path t.height leaf) g) (lt-ltb leaf (2 ^ t.height) low)

outside : (t : Tree) (leaf g : ℕ) → 2 ^ t.height ≤ leaf → holds t leaf g ≡ false
unfolding holds
outside t leaf g high = ap (λ b. b && holds_below t.root (leaf_path t.height leaf) g) (le-ltb leaf (2 ^ t.height) high)

loses_one : (t : Tree) (leaf g : ℕ) (new : Held) → leaf < 2 ^ t.height → LosesOneBelow t.root (leaf_path t.height leaf) g new
    → LosesOne t leaf g (record { height = t.height; root = new })
loses_one t leaf g new low l =
    let u : Tree = record { height = t.height; root = new } in
    record {
      gone = inside u leaf g low ∙ l.gone;
      others = λ other k ne. elim (cases_lt other (2 ^ t.height)) [
        | inr high ↦ outside u other k high ∙ sym (outside t other k high)
        | inl in_tree ↦
            inside u other k in_tree
            ∙ l.others (leaf_path t.height other) k (length-leaf_path t.height other ∙ sym (length-leaf_path t.height leaf)) (ways_differ t.height other leaf in_tree low ne)
            ∙ sym (inside t other k in_tree)
      ];
      near = λ k ne w. inside u leaf k low ∙ l.near k ne w ∙ sym (inside t leaf k low);
      no_more = λ other k h. elim (cases_lt other (2 ^ t.height)) [
        | inr high ↦ (let wrong = sym (outside u other k high) ∙ h in absurd cc)
        | inl in_tree ↦ inside t other k in_tree ∙ l.no_more (leaf_path t.height other) k (sym (inside u other k in_tree) ∙ h)
      ];
    }

pub used_is_gone : (s : List ℕ) (t : Tree) (leaf g : ℕ) (d : Drafted) → IsTreeOf s t → draft_key t leaf g ≡ Ok d → LosesOne t leaf g (keep_draft t d)
unfolding keep_draft
used_is_gone s t leaf g d is e =
    let f = is_drafted t leaf g d e in
    let P : Drafted → Type 0 = λ x. LosesOne t leaf g (keep_draft t x) in
    subst P f.value
    (loses_one t leaf g (put_below t.root (leaf_path t.height leaf) f.taken.1) f.low
    (loses_below t.root t.height s (leaf_path t.height leaf) g f.taken (length-leaf_path t.height leaf) is f.is))

-- ---- many keys

pub same_height : (t : Tree) (d : Drafted) → (keep_draft t d).height ≡ t.height
unfolding keep_draft
same_height t d = refl

record IsUse (s : List ℕ) (t : Tree) (leaf g : ℕ) (u : Tree) : Type 0 where
  draft : Drafted
  is : draft_key t leaf g ≡ Ok draft
  of : IsTreeOf s u
  height : u.height ≡ t.height
  loses : LosesOne t leaf g u

is_use : (s : List ℕ) (t : Tree) (leaf g : ℕ) (u : Tree) → IsTreeOf s t → use_key t (leaf, g) ≡ Ok u → IsUse s t leaf g u
is_use s t leaf g u is e =
    let b = bind_ok (draft_key t leaf g) (λ d. Ok (keep_draft t d)) u e in
    let P : Tree → Type 0 = IsUse s t leaf g in
    subst P (same_value _ _ b.2) (record {
      draft = b.0;
      is = b.1;
      of = (keys_are_derived s t leaf g b.0 is b.1).behind;
      height = same_height t b.0;
      loses = used_is_gone s t leaf g b.0 is b.1;
    })

record AreUses (s : List ℕ) (t v : Tree) : Type 0 where
  of : IsTreeOf s v
  height : v.height ≡ t.height
  no_more : (leaf k : ℕ) → holds t leaf k ≡ false → holds v leaf k ≡ false

are_uses : (s : List ℕ) (us : List (ℕ × ℕ)) (t v : Tree) → IsTreeOf s t → use_keys t us ≡ Ok v → AreUses s t v
are_uses s [] t v is e =
    let P : Tree → Type 0 = AreUses s t in
    subst P (same_value _ _ e) (record { of = is; height = refl; no_more = λ leaf k h. h })
are_uses s (u ∷ us) t v is e =
    let b = bind_ok (use_key t u) (λ w. use_keys w us) v e in
    let one = is_use s t u.0 u.1 b.0 is b.1 in
    let rest = are_uses s us b.0 v one.of b.2 in
    record {
      of = rest.of;
      height = rest.height ∙ one.height;
      no_more = λ leaf k h. rest.no_more leaf k (false_from_ne_true (holds b.0 leaf k) (λ held. let wrong = sym h ∙ one.loses.no_more leaf k held in cc));
    }

first_height : (s : List ℕ) (h : ℕ) → (first_tree s h).height ≡ h
unfolding first_tree
first_height s h = refl

pub whatever_order : (s : List ℕ) (h : ℕ) (before : List (ℕ × ℕ)) (t : Tree) (leaf g : ℕ) (d : Drafted)
    → use_keys (first_tree s h) before ≡ Ok t → draft_key t leaf g ≡ Ok d → d.key ≡ application_key s h leaf g
whatever_order s h before t leaf g d e f =
    let u = are_uses s before (first_tree s h) t (first_is_fresh s h).is e in
    (keys_are_derived s t leaf g d u.of f).key ∙ ap (λ n. application_key s n leaf g) (u.height ∙ first_height s h)

pub never_twice : (s : List ℕ) (h : ℕ) (before after : List (ℕ × ℕ)) (leaf g : ℕ) (t u v : Tree)
    → use_keys (first_tree s h) before ≡ Ok t → use_key t (leaf, g) ≡ Ok u → use_keys u after ≡ Ok v → IsSpent v leaf g
never_twice s h before after leaf g t u v e f a =
    let past = are_uses s before (first_tree s h) t (first_is_fresh s h).is e in
    let one = is_use s t leaf g u past.of f in
    let later = are_uses s after u v one.of a in
    let gone = later.no_more leaf g one.loses.gone in
    let low = (is_drafted t leaf g one.draft one.is).low in
    let same : v.height ≡ t.height = later.height ∙ one.height in
    record { refused = (each_is_answered s v leaf g later.of).used (subst (λ (n : ℕ). leaf < 2 ^ n) (sym same) low) gone; gone = gone }
