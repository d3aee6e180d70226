-- One pass over the edited tree follows all edits.
use Rattle.std.proofs.Common.{◌≡◌, ℕ, suc, ◌+◌, ◌*◌, ◌<◌, ◌≤◌, Bool, true, false, ◌==◌, if◌then◌else◌, List, [], ◌∷◌, length, Option, Some, None, IsSome, refl, ap, sym, ◌∙◌, subst, inl, inr, arith, eqb-true, eq-eqb, ne_eqb, is_some}
use Rattle.std.proofs.lemmas.Bool.{cases_lt, eqb-false, true≢false}
use Rattle.mls_leaf.specs.Parent.{Parent}
use Rattle.mls_leaf.specs.declared.leaf.LeafNode.{LeafNode}
use Rattle.mls_tree_model.specs.Term.{Term, Leaf, Branch, width, size, height, leaf_at, has_leaf, blanks}
use Rattle.mls_tree_model.specs.Way.{Step, step_at, way}
use Rattle.mls_tree_model.specs.Edits.{put, grow, trim}
use Rattle.mls_tree_model.proofs.Equations.{way_left, way_right, leaf_at_left, leaf_at_right, put_left, put_right}
use Rattle.mls_tree_model.specs.Laws.{IsIn}
use Rattle.mls_tree_model.proofs.ShapeLaws.{width-put}
use Rattle.mls_tree_model.proofs.MemberLaws.{leaf_taken}
use Rattle.mls_suite.specs.Crypto.{Crypto}
use Rattle.mls_treekem_model.specs.Keys.{Keys, HoldsDueKey, IsOwnKey, AreKeysAlong, key_above}
use Rattle.mls_treekem_model.specs.Follow.{follow_edit}
use Rattle.mls_treekem_model.proofs.FollowLaws.{tame_at_same, tame_at_trans, fits_follow}
use Rattle.mls_treekem_model.specs.Laws.{FollowEdit, FollowOwnEdit, FollowsGrow, FollowsTame, FollowsTrans, FollowsTrim}
use Rattle.mls_treekem_model.specs.Tame.{TameAt, TameAlong, parent_above, TameEdits}

-- ---- keys by their height

own_length : (c : Crypto) (x : Option LeafNode) (ks : Keys) → IsOwnKey c x ks → length ks ≡ 1
own_length c (Some x) [] h = absurd h
own_length c (Some x) (None ∷ ks) h = absurd h
own_length c (Some x) (Some k ∷ []) h = refl
own_length c (Some x) (Some k ∷ o ∷ ks) h = absurd h
own_length c None ks h = absurd h

pub along_length : (c : Crypto) (F : Option Parent → Option (List ℕ) → Type 0) (ss : List Step) (x : Option LeafNode) (ks : Keys) → AreKeysAlong c F ss x ks → length ks ≡ suc (length ss)
unfolding AreKeysAlong
along_length c F [] x ks h = own_length c x ks h
along_length c F (s ∷ ss) x [] h = absurd h
along_length c F (s ∷ ss) x (o ∷ ks) h = ap suc (along_length c F ss x ks h.1)

pub no_key_above : (n : ℕ) (ks : Keys) → length ks ≤ n → key_above n ks ≡ None
unfolding key_above
no_key_above n [] h = refl
no_key_above n (o ∷ ks) h = let e = ne_eqb (length ks) n (λ e. omega arith) in rw e (no_key_above n ks (omega arith))

no_parent_above : (n : ℕ) (ss : List Step) → length ss ≤ n → parent_above n ss ≡ None
unfolding parent_above
no_parent_above n [] h = refl
no_parent_above n (s ∷ ss) h = let e = ne_eqb (length ss) n (λ e. omega arith) in rw e (no_parent_above n ss (omega arith))

fits_above : (c : Crypto) (j : ℕ) (ss : List Step) (x : Option LeafNode) (ks : Keys) → AreKeysAlong c (HoldsDueKey c j) ss x ks → (n : ℕ) → HoldsDueKey c j (parent_above n ss) (key_above (suc n) ks)
unfolding AreKeysAlong parent_above key_above
fits_above c j [] x ks h n = let e = no_key_above (suc n) ks (omega (arith, own_length c x ks h)) in rw e tt
fits_above c j (s ∷ ss) x [] h n = absurd h
fits_above c j (s ∷ ss) x (o ∷ ks) h n = by_test (length ss == n) refl (fits_above c j ss x ks h.1 n)
  where
    size : length ks ≡ suc (length ss)
    size = along_length c (HoldsDueKey c j) ss x ks h.1

    by_test : (t : Bool) → (length ss == n) ≡ t → HoldsDueKey c j (parent_above n ss) (key_above (suc n) ks) → HoldsDueKey c j (parent_above n (s ∷ ss)) (key_above (suc n) (o ∷ ks))
    by_test true e rec =
        let is : length ss ≡ n = eqb-true (length ss) n e in
        let f = eq-eqb (length ks) (suc n) (omega (arith, size)) in
        rw (e, f) h.0
    by_test false e rec =
        let isnt : length ss ≡ n → ⊥ = eqb-false (length ss) n e in
        let f = ne_eqb (length ks) (suc n) (λ q. isnt (omega (arith, size))) in
        rw (e, f) rec

own_above : (c : Crypto) (x : Option LeafNode) (ks : Keys) → IsOwnKey c x ks → IsOwnKey c x (key_above 0 ks ∷ [])
unfolding key_above
own_above c (Some x) [] h = absurd h
own_above c (Some x) (None ∷ ks) h = absurd h
own_above c (Some x) (Some k ∷ []) h = h
own_above c (Some x) (Some k ∷ o ∷ ks) h = absurd h
own_above c None ks h = absurd h

leaf_above : (c : Crypto) (F : Option Parent → Option (List ℕ) → Type 0) (ss : List Step) (x : Option LeafNode) (ks : Keys) → AreKeysAlong c F ss x ks → IsOwnKey c x (key_above 0 ks ∷ [])
unfolding AreKeysAlong key_above
leaf_above c F [] x ks h = own_above c x ks h
leaf_above c F (s ∷ ss) x [] h = absurd h
leaf_above c F (s ∷ ss) x (o ∷ ks) h =
    let size = along_length c F ss x ks h.1 in
    let e = ne_eqb (length ks) 0 (λ q. omega arith) in
    rw e (leaf_above c F ss x ks h.1)

-- ---- the pass

module _ (c : Crypto) (j : ℕ) (x : Option LeafNode) (ks : Keys) (before : ℕ → Option Parent) (own : IsOwnKey c x (key_above 0 ks ∷ [])) (fits : (n : ℕ) → HoldsDueKey c j (before n) (key_above (suc n) ks)) where
  pass_along : (ts : List Step) → ((n : ℕ) → n < length ts → TameAt j (before n) (parent_above n ts)) → AreKeysAlong c (HoldsDueKey c j) ts x (follow_edit None ts ks)
  unfolding AreKeysAlong follow_edit parent_above
  pass_along [] tame = own
  pass_along (s ∷ ts) tame =
      let e = eq-eqb (length ts) (length ts) refl in
      let here : TameAt j (before (length ts)) s.parent = rw e at (tame (length ts) (omega arith)) in (
        fits_follow c j (before (length ts)) s.parent (key_above (suc (length ts)) ks) here (fits (length ts)),
        pass_along ts (λ (n : ℕ) (lt : n < length ts). let f = ne_eqb (length ts) n (λ q. omega arith) in rw f at (tame n (omega arith))),
      )

pub follow_edit_exact : FollowEdit
follow_edit_exact c t t' j ks h f =
    subst (λ (x : Option LeafNode). AreKeysAlong c (HoldsDueKey c j) (way 0 t' j) x (follow_edit None (way 0 t' j) ks)) f.leaf
    (pass_along c j (leaf_at 0 t j) ks (λ n. parent_above n (way 0 t j)) (leaf_above c (HoldsDueKey c j) (way 0 t j) (leaf_at 0 t j) ks h) (fits_above c j (way 0 t j) (leaf_at 0 t j) ks h)
    (way 0 t' j) (λ n _. f.above n))

-- ---- which edits it follows

pub follows_refl : (j : ℕ) (t : Term) → TameEdits j t t
follows_refl j t = record { above = λ n. tame_at_same j (parent_above n (way 0 t j)); leaf = refl }

pub follows_trans : FollowsTrans
follows_trans j t u v h k =
    record { above = λ n. tame_at_trans j (parent_above n (way 0 t j)) (parent_above n (way 0 u j)) (parent_above n (way 0 v j)) (h.above n) (k.above n); leaf = h.leaf ∙ k.leaf }

tame_length : (j : ℕ) (ss ts : List Step) → TameAlong j ss ts → length ss ≡ length ts
unfolding TameAlong
tame_length j [] [] h = refl
tame_length j [] (t ∷ ts) h = absurd h
tame_length j (s ∷ ss) [] h = absurd h
tame_length j (s ∷ ss) (t ∷ ts) h = ap suc (tame_length j ss ts h.1)

tame_above : (j : ℕ) (ss ts : List Step) → TameAlong j ss ts → (n : ℕ) → TameAt j (parent_above n ss) (parent_above n ts)
unfolding TameAlong parent_above
tame_above j [] [] h n = tt
tame_above j [] (t ∷ ts) h n = absurd h
tame_above j (s ∷ ss) [] h n = absurd h
tame_above j (s ∷ ss) (t ∷ ts) h n = let e = tame_length j ss ts h.1 in rw e (by_test (length ts == n) (tame_above j ss ts h.1 n))
  where
    by_test : (d : Bool) → TameAt j (parent_above n ss) (parent_above n ts) → TameAt j (if d then s.parent else parent_above n ss) (if d then t.parent else parent_above n ts)
    by_test true rec = h.0
    by_test false rec = rec

pub follows_tame : FollowsTame
follows_tame j t t' h = record { above = tame_above j (way 0 t j) (way 0 t' j) h.along; leaf = h.leaf }

-- under a new root, which is blank
over_above : (j : ℕ) (s : Step) (ss : List Step) → s.parent ≡ None → (n : ℕ) → TameAt j (parent_above n ss) (parent_above n (s ∷ ss))
unfolding parent_above
over_above j s ss blank n = rw blank (by_test (length ss == n))
  where
    by_test : (d : Bool) → TameAt j (parent_above n ss) (if d then None else parent_above n ss)
    by_test true = tt
    by_test false = tame_at_same j (parent_above n ss)

pub follows_grow : FollowsGrow
unfolding grow
follows_grow t j inside =
    record {
      above = λ n. rw (way_left 0 None t (blanks (height t)) j inside.high) (over_above j (step_at None (2 * 0 + size t) (0 + width t) (blanks (height t))) (way 0 t j) refl n);
      leaf = sym (leaf_at_left 0 None t (blanks (height t)) j inside.high);
    }

-- without the highest parent
cut_above : (j : ℕ) (s : Step) (ss : List Step) (n : ℕ) → TameAt j (parent_above n (s ∷ ss)) (parent_above n ss)
unfolding parent_above
cut_above j s ss n = by_test (length ss == n) refl
  where
    by_test : (d : Bool) → (length ss == n) ≡ d → TameAt j (parent_above n (s ∷ ss)) (parent_above n ss)
    by_test true e = let f = no_parent_above n ss (omega (arith, eqb-true (length ss) n e)) in rw f tt
    by_test false e = rw e (tame_at_same j (parent_above n ss))

pub follows_trim : FollowsTrim
unfolding trim
follows_trim (Leaf v) j inside taken = follows_refl j (Leaf v)
follows_trim (Branch p l r) j inside taken = by_right (has_leaf r) refl (follows_trim l j)
  where
    by_right : (d : Bool) → has_leaf r ≡ d → (IsIn 0 l j → IsSome (leaf_at 0 l j) → TameEdits j l (trim l)) → TameEdits j (Branch p l r) (if d then Branch p l r else trim l)
    by_right true e rec = follows_refl j (Branch p l r)
    by_right false e rec = elim (cases_lt j (0 + width l)) [
      | inl lj ↦
          let cut : TameEdits j (Branch p l r) l = record {
            above = λ n. rw (way_left 0 p l r j lj) (cut_above j (step_at p (2 * 0 + size l) (0 + width l) r) (way 0 l j) n);
            leaf = leaf_at_left 0 p l r j lj;
          } in
          follows_trans j (Branch p l r) l (trim l) cut (rec (record { low = inside.low; high = lj }) (sym (ap is_some (leaf_at_left 0 p l r j lj)) ∙ taken))
      | inr rj ↦
          let z = leaf_taken (0 + width l) r j (sym (ap is_some (leaf_at_right 0 p l r j rj)) ∙ taken) in
          absurd (true≢false (sym z ∙ e))
    ]

-- ---- after an own update

none_or : (s : Step) (ss : List Step) (n : ℕ) → s.parent ≡ None → parent_above n ss ≡ None → parent_above n (s ∷ ss) ≡ None
unfolding parent_above
none_or s ss n blank h = by_test (length ss == n)
  where
    by_test : (d : Bool) → (if d then s.parent else parent_above n ss) ≡ None
    by_test true = blank
    by_test false = h

none_at_leaf : (b : ℕ) (v : Option LeafNode) (i n : ℕ) → parent_above n (way b (Leaf v) i) ≡ None
unfolding way parent_above
none_at_leaf b v i n = refl

pub blank_above : (b : ℕ) (t : Term) (i : ℕ) (x : Option LeafNode) (n : ℕ) → parent_above n (way b (put b t i x) i) ≡ None
unfolding put
blank_above b (Leaf v) i x n = none_at_leaf b x i n
blank_above b (Branch p l r) i x n = elim (cases_lt i (b + width l)) [
  | inl li ↦
      let w = width-put b l i x in
      let k : i < b + width (put b l i x) = omega arith in
      rw (put_left b p l r i x li, way_left b None (put b l i x) r i k) (none_or (step_at None _ _ r) (way b (put b l i x) i) n refl (blank_above b l i x n))
  | inr ri ↦
      rw (put_right b p l r i x ri, way_right b None l (put (b + width l) r i x) i ri) (none_or (step_at None _ _ l) (way (b + width l) (put (b + width l) r i x) i) n refl (blank_above (b + width l) r i x n))
]

pub own_leaf : (b : ℕ) (t : Term) (i : ℕ) (x : Option LeafNode) → leaf_at b (put b t i x) i ≡ x
own_leaf b (Leaf v) i x = unfold put leaf_at in refl
own_leaf b (Branch p l r) i x = elim (cases_lt i (b + width l)) [
  | inl li ↦
      let w = width-put b l i x in
      rw (put_left b p l r i x li) (leaf_at_left b None (put b l i x) r i (omega arith) ∙ own_leaf b l i x)
  | inr ri ↦ rw (put_right b p l r i x ri) (leaf_at_right b None l (put (b + width l) r i x) i ri ∙ own_leaf (b + width l) r i x)
]

blank_from : (j : ℕ) (p q : Option Parent) → p ≡ None → TameAt j p q → q ≡ None
blank_from j p None e h = refl
blank_from j None (Some q) e h = absurd h
blank_from j (Some p) (Some q) e h = cc

blank_along : (c : Crypto) (j : ℕ) (x : LeafNode) (k : List ℕ) (ks : Keys) → c.public k ≡ x.encryption_key → (ts : List Step) → ((n : ℕ) → n < length ts → parent_above n ts ≡ None) →
    AreKeysAlong c (HoldsDueKey c j) ts (Some x) (follow_edit (Some k) ts ks)
unfolding AreKeysAlong follow_edit parent_above
blank_along c j x k ks h [] blank = h
blank_along c j x k ks h (s ∷ ts) blank =
    let e = eq-eqb (length ts) (length ts) refl in
    let here : s.parent ≡ None = rw e at (blank (length ts) (omega arith)) in
    (rw here tt, blank_along c j x k ks h ts (λ (n : ℕ) (lt : n < length ts). let f = ne_eqb (length ts) n (λ q. omega arith) in rw f at (blank n (omega arith))))

pub own_edit_exact : FollowOwnEdit
own_edit_exact c t t' j x k ks h f =
    let leaf : Some x ≡ leaf_at 0 t' j = sym (own_leaf 0 t j (Some x)) ∙ f.leaf in
    subst (λ (y : Option LeafNode). AreKeysAlong c (HoldsDueKey c j) (way 0 t' j) y (follow_edit (Some k) (way 0 t' j) ks)) leaf
    (blank_along c j x k ks h (way 0 t' j)
    (λ n _. blank_from j (parent_above n (way 0 (put 0 t j (Some x)) j)) (parent_above n (way 0 t' j)) (blank_above 0 t j (Some x) n) (f.above n)))

-- so two trees are alike for a leaf that was put into both
pub follows_put : (t u : Term) (j : ℕ) (x : Option LeafNode) → TameEdits j (put 0 t j x) (put 0 u j x)
follows_put t u j x =
    record {
      above = λ n. subst (TameAt j (parent_above n (way 0 (put 0 t j x) j))) (sym (blank_above 0 u j x n)) tt;
      leaf = own_leaf 0 t j x ∙ sym (own_leaf 0 u j x);
    }
