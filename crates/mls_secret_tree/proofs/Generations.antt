-- No leaf's next generation ever falls.
use Rattle.std.proofs.Common.{◌≡◌, ℕ, zero, suc, max, ◌^◌, ◌<◌, ◌≤◌, Bool, true, false, not, inl, inr, List, [], ◌∷◌, length, Ok, refl, sym, ap, ◌∙◌, subst, arith}
use Rattle.std.proofs.lemmas.Bool.{cases_eq}
use Rattle.std.proofs.lemmas.List.{nil_from_length}
use Rattle.mls_wire.specs.Laws.{bind_ok}
use Rattle.mls_treemath.specs.Paths.{Path, leaf_path}
use Rattle.mls_treemath.proofs.Leaves.{length-leaf_path}
use Rattle.mls_secret_tree.specs.declared.secrets.MessageKey.{MessageKey}
use Rattle.mls_secret_tree.specs.Secrets.{child_secret}
use Rattle.mls_secret_tree.specs.Ratchet.{Ratcheting, first_ratchet, take_key}
use Rattle.mls_secret_tree.specs.Held.{Held, Whole, LeafRatchet, Parted, Taken, beside, take_from_ratchet, take_whole, take_below, put_below, next_below}
use Rattle.mls_secret_tree.specs.SecretTree.{Tree, Drafted, draft_key, keep_draft}
use Rattle.mls_secret_tree.specs.Holding.{IsHeldOf, IsTreeOf}
use Rattle.mls_secret_tree.specs.Laws.{use_key, use_keys}
use Rattle.mls_secret_tree.specs.Generations.{next_of, MovesOn}
use Rattle.mls_secret_tree.proofs.RatchetLaws.{TookKept, TookAhead, took}
use Rattle.mls_secret_tree.proofs.HeldLaws.{from_ratchet, from_whole, first_next}
use Rattle.mls_secret_tree.proofs.TreeLaws.{ways_differ, same_value, is_drafted, keys_are_derived, same_height}

-- ---- one ratchet

moves_kept : (r : Ratcheting) (g : ℕ) (t : MessageKey × Ratcheting) → TookKept r g t → t.1.next ≡ max r.next (suc g)
moves_kept r g t took = let low : g < r.next = took.before in took.next ∙ omega arith

moves_ahead : (r : Ratcheting) (g : ℕ) (t : MessageKey × Ratcheting) → TookAhead r g t → t.1.next ≡ max r.next (suc g)
moves_ahead r g t took = let low : r.next ≤ g = took.from in took.next ∙ omega arith

moves_here : (r : Ratcheting) (g : ℕ) (t : MessageKey × Ratcheting) → take_key r g ≡ Ok t → t.1.next ≡ max r.next (suc g)
moves_here r g t e = elim (took r g t e) [
  | inl kept ↦ moves_kept r g t kept
  | inr ahead ↦ moves_ahead r g t ahead
]

-- ---- what is held below a node

pub record MovesBelow (held : Held) (way : Path) (g : ℕ) (new : Held) : Type 0 where
  pub own : next_below new way ≡ max (next_below held way) (suc g)
  pub others : (q : Path) → length q ≡ length way → (q ≡ way → ⊥) → next_below new q ≡ next_below held q

moves_leaf : (held : Held) (r : Ratcheting) (g : ℕ) (x : Taken) → next_below held [] ≡ r.next → take_from_ratchet r g ≡ Ok x → MovesBelow held [] g x.1
unfolding next_below
moves_leaf held r g x old e =
    let f = from_ratchet r g x e in
    let P : Taken → Type 0 = λ y. MovesBelow held [] g y.1 in
    subst P f.value (record {
      own = moves_here r g f.taken f.is ∙ ap (λ n. max n (suc g)) (sym old);
      others = λ q len ne. absurd (ne (nil_from_length q len));
    })

moves_beside : (b : Bool) (s z own : List ℕ) (p : Path) (g : ℕ) (t : Taken) → MovesBelow (Whole own) p g t.1
    → MovesBelow (Whole s) (b ∷ p) g (beside b (Whole z) t).1
unfolding beside next_below
moves_beside false s z own p g t m = record {
  own = m.own;
  others = λ q len ne. elim q as (λ q. length q ≡ suc (length p) → (q ≡ false ∷ p → ⊥) → next_below (Parted t.1 (Whole z)) q ≡ 0) [
    | [] ↦ λ len ne. absurd (omega arith)
    | false ∷ q ↦ λ len ne. m.others q (omega arith) (λ e. ne (ap (λ (r : Path). false ∷ r) e))
    | true ∷ q ↦ λ len ne. refl
  ] len ne;
}
moves_beside true s z own p g t m = record {
  own = m.own;
  others = λ q len ne. elim q as (λ q. length q ≡ suc (length p) → (q ≡ true ∷ p → ⊥) → next_below (Parted (Whole z) t.1) q ≡ 0) [
    | [] ↦ λ len ne. absurd (omega arith)
    | false ∷ q ↦ λ len ne. refl
    | true ∷ q ↦ λ len ne. m.others q (omega arith) (λ e. ne (ap (λ (r : Path). true ∷ r) e))
  ] len ne;
}

whole_next : (s : List ℕ) → next_below (Whole s) [] ≡ (first_ratchet s).next
unfolding next_below
whole_next s = sym (first_next s)

moves_whole : (s : List ℕ) (way : Path) (g : ℕ) (x : Taken) → take_whole s way g ≡ Ok x → MovesBelow (Whole s) way g x.1
unfolding take_whole
moves_whole s [] g x e = moves_leaf (Whole s) (first_ratchet s) g x (whole_next s) e
moves_whole s (b ∷ p) g x e =
    let f = from_whole s b p g x e in
    let P : Taken → Type 0 = λ y. MovesBelow (Whole s) (b ∷ p) g y.1 in
    subst P f.value (moves_beside b s (child_secret (not b) s) (child_secret b s) p g f.taken (moves_whole (child_secret b s) p g f.taken f.is))

ratchet_next : (r : Ratcheting) → next_below (LeafRatchet r) [] ≡ r.next
unfolding next_below
ratchet_next r = refl

moves_left : (left right new : Held) (p : Path) (g : ℕ) → MovesBelow left p g new → MovesBelow (Parted left right) (false ∷ p) g (Parted new right)
unfolding next_below
moves_left left right new p g m = record {
  own = m.own;
  others = λ q len ne. elim q as (λ q. length q ≡ suc (length p) → (q ≡ false ∷ p → ⊥) → next_below (Parted new right) q ≡ next_below (Parted left right) q) [
    | [] ↦ λ len ne. refl
    | false ∷ q ↦ λ len ne. m.others q (omega arith) (λ e. ne (ap (λ (r : Path). false ∷ r) e))
    | true ∷ q ↦ λ len ne. refl
  ] len ne;
}

moves_right : (left right new : Held) (p : Path) (g : ℕ) → MovesBelow right p g new → MovesBelow (Parted left right) (true ∷ p) g (Parted left new)
unfolding next_below
moves_right left right new p g m = record {
  own = m.own;
  others = λ q len ne. elim q as (λ q. length q ≡ suc (length p) → (q ≡ true ∷ p → ⊥) → next_below (Parted left new) q ≡ next_below (Parted left right) q) [
    | [] ↦ λ len ne. refl
    | false ∷ q ↦ λ len ne. refl
    | true ∷ q ↦ λ len ne. m.others q (omega arith) (λ e. ne (ap (λ (r : Path). true ∷ r) e))
  ] len ne;
}

moves_below : (held : Held) (h : ℕ) (s : List ℕ) (way : Path) (g : ℕ) (x : Taken) → length way ≡ h → IsHeldOf held h s → take_below held way g ≡ Ok x
    → MovesBelow held way g (put_below held way x.1)
unfolding take_below put_below
moves_below (Whole z) h s way g x len is e = moves_whole z way g x e
moves_below (LeafRatchet r) zero s [] g x len is e = moves_leaf (LeafRatchet r) r g x (ratchet_next r) e
moves_below (LeafRatchet r) zero s (b ∷ way) g x len is e = absurd (omega arith)
moves_below (LeafRatchet r) (suc h) s way g x len is e = absurd is
moves_below (Parted left right) zero s way g x len is e = absurd is
moves_below (Parted left right) (suc h) s [] g x len is e = absurd (omega arith)
moves_below (Parted left right) (suc h) s (false ∷ way) g x len is e =
    moves_left left right (put_below left way x.1) way g (moves_below left h (child_secret false s) way g x (omega arith) is.0 e)
moves_below (Parted left right) (suc h) s (true ∷ way) g x len is e =
    moves_right left right (put_below right way x.1) way g (moves_below right h (child_secret true s) way g x (omega arith) is.1 e)

-- ---- one key

moves_on : (t : Tree) (leaf g : ℕ) (new : Held) → leaf < 2 ^ t.height → MovesBelow t.root (leaf_path t.height leaf) g new
    → MovesOn t leaf g (record { height = t.height; root = new })
moves_on t leaf g new low m = record {
  own = m.own;
  others = λ other in_tree ne.
      m.others (leaf_path t.height other) (length-leaf_path t.height other ∙ sym (length-leaf_path t.height leaf)) (ways_differ t.height other leaf in_tree low ne);
}

pub use_moves_on : (s : List ℕ) (t : Tree) (leaf g : ℕ) (d : Drafted) → IsTreeOf s t → draft_key t leaf g ≡ Ok d → MovesOn t leaf g (keep_draft t d)
unfolding keep_draft
use_moves_on s t leaf g d is e =
    let f = is_drafted t leaf g d e in
    let P : Drafted → Type 0 = λ x. MovesOn t leaf g (keep_draft t x) in
    subst P f.value
    (moves_on t leaf g (put_below t.root (leaf_path t.height leaf) f.taken.1) f.low
    (moves_below t.root t.height s (leaf_path t.height leaf) g f.taken (length-leaf_path t.height leaf) is f.is))

pub rises : (t u : Tree) (leaf g other : ℕ) → MovesOn t leaf g u → other < 2 ^ t.height → next_of t other ≤ next_of u other
rises t u leaf g other m low = elim (cases_eq other leaf) [
  | inl same ↦ (let at : (i : ℕ) → i ≡ leaf → next_of t i ≤ next_of u i = λ i e. subst (λ (j : ℕ). next_of t j ≤ next_of u j) (sym e) (let o = m.own in omega arith) in at other same)
  | inr ne ↦ (let o = m.others other low ne in omega arith)
]

-- ---- many keys

record Rises (s : List ℕ) (t u : Tree) : Type 0 where
  of : IsTreeOf s u
  height : u.height ≡ t.height
  next : (leaf : ℕ) → leaf < 2 ^ t.height → next_of t leaf ≤ next_of u leaf

one_rises : (s : List ℕ) (t : Tree) (x : ℕ × ℕ) (u : Tree) → IsTreeOf s t → use_key t x ≡ Ok u → Rises s t u
one_rises s t x u is e =
    let b = bind_ok (draft_key t x.0 x.1) (λ d. Ok (keep_draft t d)) u e in
    let P : Tree → Type 0 = Rises s t in
    subst P (same_value _ _ b.2) (record {
      of = (keys_are_derived s t x.0 x.1 b.0 is b.1).behind;
      height = same_height t b.0;
      next = λ leaf low. rises t (keep_draft t b.0) x.0 x.1 leaf (use_moves_on s t x.0 x.1 b.0 is b.1) low;
    })

all_rise : (s : List ℕ) (us : List (ℕ × ℕ)) (t v : Tree) → IsTreeOf s t → use_keys t us ≡ Ok v → Rises s t v
all_rise s [] t v is e =
    let P : Tree → Type 0 = Rises s t in
    subst P (same_value _ _ e) (record { of = is; height = refl; next = λ leaf low. omega arith })
all_rise s (u ∷ us) t v is e =
    let b = bind_ok (use_key t u) (λ w. use_keys w us) v e in
    let one = one_rises s t u b.0 is b.1 in
    let rest = all_rise s us b.0 v one.of b.2 in
    record {
      of = rest.of;
      height = rest.height ∙ one.height;
      next = λ leaf low.
          let first = one.next leaf low in
          let then = rest.next leaf (subst (λ (n : ℕ). leaf < 2 ^ n) (sym one.height) low) in
          omega arith;
    }

pub next_never_falls : (s : List ℕ) (t u : Tree) (used : List (ℕ × ℕ)) (leaf : ℕ) → IsTreeOf s t → use_keys t used ≡ Ok u → leaf < 2 ^ t.height
    → next_of t leaf ≤ next_of u leaf
next_never_falls s t u used leaf is e low = (all_rise s used t u is e).next leaf low
