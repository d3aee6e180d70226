-- Laws of what is held below a node: which keys it gives, and what it holds afterwards.
use Rattle.std.proofs.Common.{◌≡◌, ℕ, zero, suc, ◌+◌, ◌<◌, ◌≤◌, Bool, true, false, not, List, [], ◌∷◌, length, Result, Ok, Err, refl, sym, ap, ◌∙◌, subst, arith}
use Rattle.std.proofs.lemmas.List.{nil_from_length}
use Rattle.mls_wire.specs.Reading.{◌>>=◌}
use Rattle.mls_wire.specs.Laws.{bind_ok}
use Rattle.mls_treemath.specs.Paths.{Path}
use Rattle.mls_secret_tree.specs.declared.secrets.MessageKey.{MessageKey}
use Rattle.mls_secret_tree.specs.Secrets.{child_secret, node_secret, application_secret, leaf_key}
use Rattle.mls_secret_tree.specs.Ratchet.{window, Ratcheting, first_ratchet, take_key}
use Rattle.mls_secret_tree.specs.Held.{Held, Whole, LeafRatchet, Parted, Taken, beside, take_from_ratchet, take_whole, take_below, put_below, next_below}
use Rattle.mls_secret_tree.specs.Holding.{holds_below, ratchet_holds, IsRatchetOf, IsHeldOf}
use Rattle.mls_secret_tree.proofs.RatchetLaws.{first_is, IsTaken, is_taken, IsAnsweredHere, answered_here, LosesOneHere, loses_one_here, holds_next}

same_value : {A : Type 0} (x y : A) → (let ok : A → Result A ℕ = λ z. Ok z in ok x ≡ ok y) → x ≡ y
same_value x y e = cc

-- what a key was taken from a ratchet as
pub record FromRatchet (r : Ratcheting) (g : ℕ) (x : Taken) : Type 0 where
  pub taken : MessageKey × Ratcheting
  pub is : take_key r g ≡ Ok taken
  pub value : (taken.0, LeafRatchet taken.1) ≡ x

pub from_ratchet : (r : Ratcheting) (g : ℕ) (x : Taken) → take_from_ratchet r g ≡ Ok x → FromRatchet r g x
unfolding take_from_ratchet
from_ratchet r g x e =
    let b = bind_ok (take_key r g) (λ t. Ok (t.0, LeafRatchet t.1)) x e in
    record { taken = b.0; is = b.1; value = same_value _ _ b.2 }

-- what a key was taken from a whole node as
pub record FromWhole (s : List ℕ) (b : Bool) (p : Path) (g : ℕ) (x : Taken) : Type 0 where
  pub taken : Taken
  pub is : take_whole (child_secret b s) p g ≡ Ok taken
  pub value : beside b (Whole (child_secret (not b) s)) taken ≡ x

pub from_whole : (s : List ℕ) (b : Bool) (p : Path) (g : ℕ) (x : Taken) → take_whole s (b ∷ p) g ≡ Ok x → FromWhole s b p g x
unfolding take_whole
from_whole s b p g x e =
    let c = bind_ok (take_whole (child_secret b s) p g) (λ t. Ok (beside b (Whole (child_secret (not b) s)) t)) x e in
    record { taken = c.0; is = c.1; value = same_value _ _ c.2 }

-- ---- which keys

pub record IsTakenBelow (h : ℕ) (s : List ℕ) (way : Path) (g : ℕ) (given : MessageKey) (new : Held) : Type 0 where
  pub key : given ≡ leaf_key (node_secret s way) g
  pub behind : IsHeldOf new h s

beside_is : (b : Bool) (h : ℕ) (s : List ℕ) (p : Path) (g : ℕ) (t : Taken) → IsTakenBelow h (child_secret b s) p g t.0 t.1
    → (let x = beside b (Whole (child_secret (not b) s)) t in IsTakenBelow (suc h) s (b ∷ p) g x.0 x.1)
unfolding beside node_secret
beside_is false h s p g t is = record { key = is.key; behind = (is.behind, refl) }
beside_is true h s p g t is = record { key = is.key; behind = (refl, is.behind) }

ratchet_is : (s : List ℕ) (r : Ratcheting) (g : ℕ) (x : Taken) → IsRatchetOf (application_secret s) r → take_from_ratchet r g ≡ Ok x
    → IsTakenBelow zero s [] g x.0 x.1
unfolding node_secret leaf_key
ratchet_is s r g x is e =
    let f = from_ratchet r g x e in
    let t : IsTaken (application_secret s) g f.taken = is_taken (application_secret s) r g f.taken is f.is in
    let P : Taken → Type 0 = λ y. IsTakenBelow zero s [] g y.0 y.1 in
    subst P f.value (record { key = t.key; behind = t.behind })

pub whole_is : (h : ℕ) (s : List ℕ) (way : Path) (g : ℕ) (x : Taken) → length way ≡ h → take_whole s way g ≡ Ok x → IsTakenBelow h s way g x.0 x.1
unfolding take_whole
whole_is zero s [] g x len e = ratchet_is s (first_ratchet s) g x (first_is s) e
whole_is (suc h) s [] g x len e = absurd (omega arith)
whole_is zero s (b ∷ p) g x len e = absurd (omega arith)
whole_is (suc h) s (b ∷ p) g x len e =
    let f = from_whole s b p g x e in
    let P : Taken → Type 0 = λ y. IsTakenBelow (suc h) s (b ∷ p) g y.0 y.1 in
    subst P f.value (beside_is b h s p g f.taken (whole_is h (child_secret b s) p g f.taken (omega arith) f.is))

pub below_is : (held : Held) (h : ℕ) (s : List ℕ) (way : Path) (g : ℕ) (x : Taken) → length way ≡ h → IsHeldOf held h s → take_below held way g ≡ Ok x
    → IsTakenBelow h s way g x.0 (put_below held way x.1)
unfolding take_below put_below node_secret
below_is (Whole z) h s way g x len is e = whole_is h s way g x len (ap (λ q. take_whole q way g) (sym is) ∙ e)
below_is (LeafRatchet r) zero s [] g x len is e = ratchet_is s r g x is e
below_is (LeafRatchet r) zero s (b ∷ way) g x len is e = absurd (omega arith)
below_is (LeafRatchet r) (suc h) s way g x len is e = absurd is
below_is (Parted left right) zero s way g x len is e = absurd is
below_is (Parted left right) (suc h) s [] g x len is e = absurd (omega arith)
below_is (Parted left right) (suc h) s (false ∷ way) g x len is e =
    let i = below_is left h (child_secret false s) way g x (omega arith) is.0 e in
    record { key = i.key; behind = (i.behind, is.1) }
below_is (Parted left right) (suc h) s (true ∷ way) g x len is e =
    let i = below_is right h (child_secret true s) way g x (omega arith) is.1 e in
    record { key = i.key; behind = (is.0, i.behind) }

-- ---- when a key is refused

pub record IsAnsweredBelow (held : Held) (way : Path) (g : ℕ) : Type 0 where
  pub too_far : next_below held way + window < g → take_below held way g ≡ Err 115
  pub used : holds_below held way g ≡ false → take_below held way g ≡ Err 116
  pub taken : g ≤ next_below held way + window → holds_below held way g ≡ true → (x : Taken) × (take_below held way g ≡ Ok x)

answered_ratchet : (r : Ratcheting) (way : Path) (g : ℕ) → IsAnsweredBelow (LeafRatchet r) way g
unfolding take_below take_from_ratchet next_below holds_below
answered_ratchet r way g =
    let a : IsAnsweredHere r g = answered_here r g in
    record {
      too_far = λ h. ap (λ d. d >>= λ t. Ok (t.0, LeafRatchet t.1)) (a.too_far h);
      used = λ h. ap (λ d. d >>= λ t. Ok (t.0, LeafRatchet t.1)) (a.used h);
      taken = λ w h. (let t = a.taken w h in ((t.0.0, LeafRatchet t.0.1), ap (λ d. d >>= λ t. Ok (t.0, LeafRatchet t.1)) t.1));
    }

pub first_next : (s : List ℕ) → (first_ratchet s).next ≡ 0
unfolding first_ratchet
first_next s = refl

first_holds : (s : List ℕ) (g : ℕ) → ratchet_holds (first_ratchet s) g ≡ true
first_holds s g = holds_next (first_ratchet s) g (let z = first_next s in omega arith)

whole_too_far : (s : List ℕ) (way : Path) (g : ℕ) → window < g → take_whole s way g ≡ Err 115
unfolding take_whole take_from_ratchet
whole_too_far s [] g h =
    let z : (first_ratchet s).next ≡ 0 = first_next s in
    ap (λ d. d >>= λ t. Ok (t.0, LeafRatchet t.1)) ((answered_here (first_ratchet s) g).too_far (omega arith))
whole_too_far s (b ∷ p) g h =
    ap (λ d. d >>= λ t. Ok (beside b (Whole (child_secret (not b) s)) t)) (whole_too_far (child_secret b s) p g h)

whole_taken : (s : List ℕ) (way : Path) (g : ℕ) → g ≤ window → (x : Taken) × (take_whole s way g ≡ Ok x)
unfolding take_whole take_from_ratchet
whole_taken s [] g h =
    let z : (first_ratchet s).next ≡ 0 = first_next s in
    let t = (answered_here (first_ratchet s) g).taken (omega arith) (first_holds s g) in
    ((t.0.0, LeafRatchet t.0.1), ap (λ d. d >>= λ t. Ok (t.0, LeafRatchet t.1)) t.1)
whole_taken s (b ∷ p) g h =
    let t = whole_taken (child_secret b s) p g h in
    (beside b (Whole (child_secret (not b) s)) t.0, ap (λ d. d >>= λ t. Ok (beside b (Whole (child_secret (not b) s)) t)) t.1)

answered_whole : (s : List ℕ) (way : Path) (g : ℕ) → IsAnsweredBelow (Whole s) way g
unfolding take_below next_below holds_below
answered_whole s way g = record {
  too_far = λ h. whole_too_far s way g (omega arith);
  used = λ h. absurd cc;
  taken = λ w h. whole_taken s way g (omega arith);
}

pub answered_below : (held : Held) (h : ℕ) (s : List ℕ) (way : Path) (g : ℕ) → length way ≡ h → IsHeldOf held h s → IsAnsweredBelow held way g
unfolding take_below next_below holds_below
answered_below (Whole z) h s way g len is = answered_whole z way g
answered_below (LeafRatchet r) h s way g len is = answered_ratchet r way g
answered_below (Parted left right) zero s way g len is = absurd is
answered_below (Parted left right) (suc h) s [] g len is = absurd (omega arith)
answered_below (Parted left right) (suc h) s (false ∷ way) g len is =
    let a = answered_below left h (child_secret false s) way g (omega arith) is.0 in
    record { too_far = a.too_far; used = a.used; taken = a.taken }
answered_below (Parted left right) (suc h) s (true ∷ way) g len is =
    let a = answered_below right h (child_secret true s) way g (omega arith) is.1 in
    record { too_far = a.too_far; used = a.used; taken = a.taken }

-- ---- what is held afterwards

pub record LosesOneBelow (held : Held) (way : Path) (g : ℕ) (new : Held) : Type 0 where
  pub gone : holds_below new way g ≡ false
  pub others : (q : Path) (k : ℕ) → length q ≡ length way → (q ≡ way → ⊥) → holds_below new q k ≡ holds_below held q k
  pub near : (k : ℕ) → (k ≡ g → ⊥) → g ≤ k + window → holds_below new way k ≡ holds_below held way k
  pub no_more : (q : Path) (k : ℕ) → holds_below new q k ≡ true → holds_below held q k ≡ true

-- from a ratchet, held where the old one or the leaf's node was
loses_leaf : (first : List ℕ) (held : Held) (r : Ratcheting) (g : ℕ) (x : Taken) → ((q : Path) (k : ℕ) → holds_below held q k ≡ ratchet_holds r k)
    → IsRatchetOf first r → take_from_ratchet r g ≡ Ok x → LosesOneBelow held [] g x.1
unfolding holds_below
loses_leaf first held r g x old is e =
    let f = from_ratchet r g x e in
    let l : LosesOneHere r g f.taken.1 = loses_one_here first r g f.taken is f.is in
    let P : Taken → Type 0 = λ y. LosesOneBelow held [] g y.1 in
    subst P f.value (record {
      gone = l.gone;
      others = λ q k len ne. absurd (ne (nil_from_length q len));
      near = λ k ne w. l.near k ne w ∙ sym (old [] k);
      no_more = λ q k h. old q k ∙ l.no_more k h;
    })

loses_beside : (b : Bool) (s z own : List ℕ) (p : Path) (g : ℕ) (t : Taken) → LosesOneBelow (Whole own) p g t.1
    → LosesOneBelow (Whole s) (b ∷ p) g (beside b (Whole z) t).1
unfolding beside holds_below
loses_beside false s z own p g t l = record {
  gone = l.gone;
  others = λ q k len ne. elim q as (λ q. length q ≡ suc (length p) → (q ≡ false ∷ p → ⊥) → holds_below (Parted t.1 (Whole z)) q k ≡ true) [
    | [] ↦ λ len ne. absurd (omega arith)
    | false ∷ q ↦ λ len ne. l.others q k (omega arith) (λ e. ne (ap (λ (r : Path). false ∷ r) e))
    | true ∷ q ↦ λ len ne. refl
  ] len ne;
  near = λ k ne w. l.near k ne w;
  no_more = λ q k h. refl;
}
loses_beside true s z own p g t l = record {
  gone = l.gone;
  others = λ q k len ne. elim q as (λ q. length q ≡ suc (length p) → (q ≡ true ∷ p → ⊥) → holds_below (Parted (Whole z) t.1) q k ≡ true) [
    | [] ↦ λ len ne. absurd (omega arith)
    | false ∷ q ↦ λ len ne. refl
    | true ∷ q ↦ λ len ne. l.others q k (omega arith) (λ e. ne (ap (λ (r : Path). true ∷ r) e))
  ] len ne;
  near = λ k ne w. l.near k ne w;
  no_more = λ q k h. refl;
}

whole_holds : (s : List ℕ) (q : Path) (k : ℕ) → holds_below (Whole s) q k ≡ ratchet_holds (first_ratchet s) k
unfolding holds_below
whole_holds s q k = sym (first_holds s k)

pub loses_whole : (s : List ℕ) (way : Path) (g : ℕ) (x : Taken) → take_whole s way g ≡ Ok x → LosesOneBelow (Whole s) way g x.1
unfolding take_whole
loses_whole s [] g x e = loses_leaf (application_secret s) (Whole s) (first_ratchet s) g x (whole_holds s) (first_is s) e
loses_whole s (b ∷ p) g x e =
    let f = from_whole s b p g x e in
    let P : Taken → Type 0 = λ y. LosesOneBelow (Whole s) (b ∷ p) g y.1 in
    subst P f.value (loses_beside b s (child_secret (not b) s) (child_secret b s) p g f.taken (loses_whole (child_secret b s) p g f.taken f.is))

ratchet_below : (r : Ratcheting) (q : Path) (k : ℕ) → holds_below (LeafRatchet r) q k ≡ ratchet_holds r k
unfolding holds_below
ratchet_below r q k = refl

loses_left : (left right new : Held) (p : Path) (g : ℕ) → LosesOneBelow left p g new → LosesOneBelow (Parted left right) (false ∷ p) g (Parted new right)
unfolding holds_below
loses_left left right new p g l = record {
  gone = l.gone;
  others = λ q k len ne. elim q as (λ q. length q ≡ suc (length p) → (q ≡ false ∷ p → ⊥) → holds_below (Parted new right) q k ≡ holds_below (Parted left right) q k) [
    | [] ↦ λ len ne. refl
    | false ∷ q ↦ λ len ne. l.others q k (omega arith) (λ e. ne (ap (λ (r : Path). false ∷ r) e))
    | true ∷ q ↦ λ len ne. refl
  ] len ne;
  near = λ k ne w. l.near k ne w;
  no_more = λ q k. elim q as (λ q. holds_below (Parted new right) q k ≡ true → holds_below (Parted left right) q k ≡ true) [
    | [] ↦ λ h. h
    | false ∷ q ↦ λ h. l.no_more q k h
    | true ∷ q ↦ λ h. h
  ];
}

loses_right : (left right new : Held) (p : Path) (g : ℕ) → LosesOneBelow right p g new → LosesOneBelow (Parted left right) (true ∷ p) g (Parted left new)
unfolding holds_below
loses_right left right new p g l = record {
  gone = l.gone;
  others = λ q k len ne. elim q as (λ q. length q ≡ suc (length p) → (q ≡ true ∷ p → ⊥) → holds_below (Parted left new) q k ≡ holds_below (Parted left right) q k) [
    | [] ↦ λ len ne. refl
    | false ∷ q ↦ λ len ne. refl
    | true ∷ q ↦ λ len ne. l.others q k (omega arith) (λ e. ne (ap (λ (r : Path). true ∷ r) e))
  ] len ne;
  near = λ k ne w. l.near k ne w;
  no_more = λ q k. elim q as (λ q. holds_below (Parted left new) q k ≡ true → holds_below (Parted left right) q k ≡ true) [
    | [] ↦ λ h. h
    | false ∷ q ↦ λ h. h
    | true ∷ q ↦ λ h. l.no_more q k h
  ];
}

pub loses_below : (held : Held) (h : ℕ) (s : List ℕ) (way : Path) (g : ℕ) (x : Taken) → length way ≡ h → IsHeldOf held h s → take_below held way g ≡ Ok x
    → LosesOneBelow held way g (put_below held way x.1)
unfolding take_below put_below
loses_below (Whole z) h s way g x len is e = loses_whole z way g x e
loses_below (LeafRatchet r) zero s [] g x len is e = loses_leaf (application_secret s) (LeafRatchet r) r g x (ratchet_below r) is e
loses_below (LeafRatchet r) zero s (b ∷ way) g x len is e = absurd (omega arith)
loses_below (LeafRatchet r) (suc h) s way g x len is e = absurd is
loses_below (Parted left right) zero s way g x len is e = absurd is
loses_below (Parted left right) (suc h) s [] g x len is e = absurd (omega arith)
loses_below (Parted left right) (suc h) s (false ∷ way) g x len is e =
    loses_left left right (put_below left way x.1) way g (loses_below left h (child_secret false s) way g x (omega arith) is.0 e)
loses_below (Parted left right) (suc h) s (true ∷ way) g x len is e =
    loses_right left right (put_below right way x.1) way g (loses_below right h (child_secret true s) way g x (omega arith) is.1 e)
