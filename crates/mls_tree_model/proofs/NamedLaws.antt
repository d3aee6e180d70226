-- Where the leaves are that right lists name.
use Rattle.std.proofs.Common.{◌≡◌, ℕ, ◌+◌, ◌<◌, ◌≤◌, nat_lt, nat_le, true, false, ◌&&◌, cond, Option, Some, None, is_some, refl, sym, ◌∙◌, ap, arith, subst, inl, inr, lt-ltb, le-ltb, ltb-true, leb-true, le-leb, eqb-true, Bool}
use Rattle.std.proofs.lemmas.Bool.{true≢false, and_parts, and_from, or_cases, or_left, or_right, cond-true, cond-false, cases_lt, false_from_ne_true}
use Rattle.mls_leaf.specs.Parent.{Parent, rising_with}
use Rattle.mls_leaf.proofs.ParentLaws.{rises_from-rising_with}
use Rattle.mls_leaf.specs.declared.leaf.LeafNode.{LeafNode}
use Rattle.mls_tree_model.proofs.Equations.{enter_left, enter_right, leaf_at_left, leaf_at_right}
use Rattle.mls_tree_model.specs.Term.{Term, Leaf, Branch, width, leaf_at}
use Rattle.mls_tree_model.specs.Sets.{has}
use Rattle.mls_tree_model.specs.Edits.{enter, list_leaf}
use Rattle.mls_tree_model.specs.Lists.{parent_passes, all_parents, may_list, is_listed, may_be_listed, lists_here, rises_here, lists, is_listed_anywhere}
use Rattle.mls_tree_model.proofs.SetLaws.{all_at, all_from, has-with, eqb_refl}
use Rattle.mls_tree_model.proofs.ShapeLaws.{width-enter}
use Rattle.mls_tree_model.proofs.ParentLaws.{parents_parts, parents_from}

module _ (b : ℕ) (c : Option Parent) (l r : Term) (u : ℕ) where
  listed_left : u < b + width l → is_listed b (Branch c l r) u ≡ (may_list c u && is_listed b l u)
  unfolding is_listed
  listed_left h = ap (λ v. may_list c u && v) (cond-true _ _ _ (lt-ltb u (b + width l) h))

  listed_right : b + width l ≤ u → is_listed b (Branch c l r) u ≡ (may_list c u && is_listed (b + width l) r u)
  unfolding is_listed
  listed_right h = ap (λ v. may_list c u && v) (cond-false _ _ _ (le-ltb u (b + width l) h))

-- what a parent may list
module _ (b : ℕ) (l r : Term) (u : ℕ) where
  may_parts : may_be_listed b l r u ≡ true → (b ≤ u) × (u < b + (width l + width r)) × (cond (nat_lt u (b + width l)) (is_listed b l u) (is_listed (b + width l) r u) ≡ true)
  unfolding may_be_listed
  may_parts h =
      let p = and_parts (nat_le b u) _ h in
      let w = and_parts (nat_lt u (b + (width l + width r))) _ p.1 in
      (leb-true b u p.0, ltb-true u _ w.0, w.1)

  may_left : b ≤ u → u < b + width l → is_listed b l u ≡ true → may_be_listed b l r u ≡ true
  unfolding may_be_listed
  may_left low high e =
      and_from (nat_le b u) _ (le-leb b u low) (and_from (nat_lt u (b + (width l + width r))) _ (lt-ltb u _ (omega arith)) (cond-true _ _ _ (lt-ltb u (b + width l) high) ∙ e))

  may_right : b + width l ≤ u → u < b + (width l + width r) → is_listed (b + width l) r u ≡ true → may_be_listed b l r u ≡ true
  unfolding may_be_listed
  may_right low high e =
      and_from (nat_le b u) _ (le-leb b u (omega arith)) (and_from (nat_lt u (b + (width l + width r))) _ (lt-ltb u _ high) (cond-false _ _ _ (le-ltb u (b + width l) low) ∙ e))

listed_taken : (b : ℕ) (t : Term) (u : ℕ) → is_listed b t u ≡ true → is_some (leaf_at b t u) ≡ true
unfolding is_listed leaf_at
listed_taken b (Leaf v) u h = h
listed_taken b (Branch c l r) u h =
    elim (cases_lt u (b + width l)) [
      | inl k ↦ ap is_some (leaf_at_left b c l r u k) ∙ listed_taken b l u (and_parts (may_list c u) _ (sym (listed_left b c l r u k) ∙ h)).1
      | inr k ↦ ap is_some (leaf_at_right b c l r u k) ∙ listed_taken (b + width l) r u (and_parts (may_list c u) _ (sym (listed_right b c l r u k) ∙ h)).1
    ]

-- that a test lets a parent list only leaves below it
abbrev pub IsBound : (ℕ → Parent → Term → Term → Bool) → Type 0
IsBound test = (b : ℕ) (p : Parent) (l r : Term) (u : ℕ) → test b p l r ≡ true → has p.unmerged_leaves u ≡ true → (b ≤ u) × (u < b + (width l + width r))

pub lists_bound : IsBound lists_here
unfolding lists_here
lists_bound b p l r u h e = let f = may_parts b l r u (all_at (may_be_listed b l r) p.unmerged_leaves u h e) in (f.0, f.1)

-- a leaf that some parent lists is below it, and taken
pub named_range : (b : ℕ) (t : Term) (u : ℕ) → all_parents lists_here b t ≡ true → is_listed_anywhere t u ≡ true → (b ≤ u) × (u < b + width t) × (is_some (leaf_at b t u) ≡ true)
unfolding is_listed_anywhere width lists_here
named_range b (Leaf v) u h e = absurd (true≢false (sym e))
named_range b (Branch c l r) u h e =
    let p = parents_parts lists_here b c l r h in
    elim (or_cases (lists c u) _ e) [
      | inl k ↦
          let f = may_parts b l r u (at c p.0 k) in (
            f.0,
            f.1,
            elim (cases_lt u (b + width l)) [
              | inl lt ↦ ap is_some (leaf_at_left b c l r u lt) ∙ listed_taken b l u (sym (cond-true _ _ _ (lt-ltb u (b + width l) lt)) ∙ f.2)
              | inr ge ↦ ap is_some (leaf_at_right b c l r u ge) ∙ listed_taken (b + width l) r u (sym (cond-false _ _ _ (le-ltb u (b + width l) ge)) ∙ f.2)
            ],
          )
      | inr k ↦ elim (or_cases (is_listed_anywhere l u) _ k) [
        | inl m ↦ let f = named_range b l u p.1 m in (f.0, let g = f.1 in omega arith, ap is_some (leaf_at_left b c l r u f.1) ∙ f.2)
        | inr m ↦ let f = named_range (b + width l) r u p.2 m in (let g = f.0 in omega arith, let g = f.1 in omega arith, ap is_some (leaf_at_right b c l r u f.0) ∙ f.2)
      ]
    ]
  where
    at : (c : Option Parent) → parent_passes lists_here b c l r ≡ true → lists c u ≡ true → may_be_listed b l r u ≡ true
    at None h k = absurd (true≢false (sym k))
    at (Some p) h k = all_at (may_be_listed b l r) p.unmerged_leaves u h k

-- a blank leaf is in no right list
pub fresh : (b : ℕ) (t : Term) (i : ℕ) → all_parents lists_here b t ≡ true → leaf_at b t i ≡ None → is_listed_anywhere t i ≡ false
fresh b t i h e =
    false_from_ne_true (is_listed_anywhere t i) (λ k. true≢false (sym (named_range b t i h k).2 ∙ ap is_some e))

-- an added leaf is listed all the way down to it, and whoever was listed still is
pub listed-enter : (b : ℕ) (t : Term) (i : ℕ) (x : LeafNode) → is_listed b (enter b t i x) i ≡ true
unfolding is_listed enter
listed-enter b (Leaf v) i x = refl
listed-enter b (Branch c l r) i x =
    elim (cases_lt i (b + width l)) [
      | inl k ↦ rw (enter_left b c l r i x k, listed_left b (list_leaf i c) (enter b l i x) r i (subst (λ n. i < b + n) (sym (width-enter b l i x)) k)) (and_from (may_list (list_leaf i c) i) _ (own c) (listed-enter b l i x))
      | inr k ↦ rw (enter_right b c l r i x k, listed_right b (list_leaf i c) l (enter (b + width l) r i x) i k) (and_from (may_list (list_leaf i c) i) _ (own c) (listed-enter (b + width l) r i x))
    ]
  where
    own : (c : Option Parent) → may_list (list_leaf i c) i ≡ true
    own None = refl
    own (Some p) = has-with i p.unmerged_leaves i ∙ or_right (has p.unmerged_leaves i) _ (eqb_refl i)

may_list-list_leaf : (c : Option Parent) (i u : ℕ) → may_list c u ≡ true → may_list (list_leaf i c) u ≡ true
may_list-list_leaf None i u h = refl
may_list-list_leaf (Some p) i u h = has-with i p.unmerged_leaves u ∙ or_left (has p.unmerged_leaves u) _ h

pub listed_kept : (b : ℕ) (t : Term) (i : ℕ) (x : LeafNode) (u : ℕ) → is_listed b t u ≡ true → is_listed b (enter b t i x) u ≡ true
listed_kept b (Leaf v) i x u h = unfold is_listed enter in refl
listed_kept b (Branch c l r) i x u h =
    elim (cases_lt u (b + width l)) [
      | inl k ↦
          let p = and_parts (may_list c u) _ (sym (listed_left b c l r u k) ∙ h) in
          let m = may_list-list_leaf c i u p.0 in
          elim (cases_lt i (b + width l)) [
            | inl j ↦ rw (enter_left b c l r i x j, listed_left b (list_leaf i c) (enter b l i x) r u (subst (λ n. u < b + n) (sym (width-enter b l i x)) k)) (and_from (may_list (list_leaf i c) u) _ m (listed_kept b l i x u p.1))
            | inr j ↦ rw (enter_right b c l r i x j, listed_left b (list_leaf i c) l (enter (b + width l) r i x) u k) (and_from (may_list (list_leaf i c) u) _ m p.1)
          ]
      | inr k ↦
          let p = and_parts (may_list c u) _ (sym (listed_right b c l r u k) ∙ h) in
          let m = may_list-list_leaf c i u p.0 in
          elim (cases_lt i (b + width l)) [
            | inl j ↦ rw (enter_left b c l r i x j, listed_right b (list_leaf i c) (enter b l i x) r u (subst (λ n. b + n ≤ u) (sym (width-enter b l i x)) k)) (and_from (may_list (list_leaf i c) u) _ m (ap (λ n. is_listed (b + n) r u) (width-enter b l i x) ∙ p.1))
            | inr j ↦ rw (enter_right b c l r i x j, listed_right b (list_leaf i c) l (enter (b + width l) r i x) u k) (and_from (may_list (list_leaf i c) u) _ m (listed_kept (b + width l) r i x u p.1))
          ]
    ]

-- right lists stay right when a leaf is added
module _ (b : ℕ) (l r : Term) (i : ℕ) (x : LeafNode) (u : ℕ) where
  kept_left : may_be_listed b l r u ≡ true → may_be_listed b (enter b l i x) r u ≡ true
  kept_left h =
      let f = may_parts b l r u h in
      let w = width-enter b l i x in
      let low = f.0 in
      let high = f.1 in
      elim (cases_lt u (b + width l)) [
        | inl k ↦ may_left b (enter b l i x) r u low (omega arith) (listed_kept b l i x u (sym (cond-true _ _ _ (lt-ltb u (b + width l) k)) ∙ f.2))
        | inr k ↦ may_right b (enter b l i x) r u (omega arith) (omega arith) (ap (λ n. is_listed (b + n) r u) w ∙ sym (cond-false _ _ _ (le-ltb u (b + width l) k)) ∙ f.2)
      ]

  kept_right : may_be_listed b l r u ≡ true → may_be_listed b l (enter (b + width l) r i x) u ≡ true
  kept_right h =
      let f = may_parts b l r u h in
      let w = width-enter (b + width l) r i x in
      let low = f.0 in
      let high = f.1 in
      elim (cases_lt u (b + width l)) [
        | inl k ↦ may_left b l (enter (b + width l) r i x) u low k (sym (cond-true _ _ _ (lt-ltb u (b + width l) k)) ∙ f.2)
        | inr k ↦ may_right b l (enter (b + width l) r i x) u k (omega arith) (listed_kept (b + width l) r i x u (sym (cond-false _ _ _ (le-ltb u (b + width l) k)) ∙ f.2))
      ]

asked_left : (b : ℕ) (c : Option Parent) (l r : Term) (i : ℕ) (x : LeafNode) → b ≤ i → i < b + width l → parent_passes lists_here b c l r ≡ true → parent_passes lists_here b (list_leaf i c) (enter b l i x) r ≡ true
unfolding lists_here
asked_left b None l r i x low high h = refl
asked_left b (Some p) l r i x low high h =
    let w = width-enter b l i x in
    all_from (may_be_listed b (enter b l i x) r) (rising_with i p.unmerged_leaves) (λ u e.
    elim (or_cases (has p.unmerged_leaves u) _ (sym (has-with i p.unmerged_leaves u) ∙ e)) [
      | inl k ↦ kept_left b l r i x u (all_at (may_be_listed b l r) p.unmerged_leaves u h k)
      | inr k ↦ subst (λ n. may_be_listed b (enter b l i x) r n ≡ true) (eqb-true i u k) (may_left b (enter b l i x) r i low (omega arith) (listed-enter b l i x))
    ])

asked_right : (b : ℕ) (c : Option Parent) (l r : Term) (i : ℕ) (x : LeafNode) → b + width l ≤ i → i < b + (width l + width r) → parent_passes lists_here b c l r ≡ true → parent_passes lists_here b (list_leaf i c) l (enter (b + width l) r i x) ≡ true
unfolding lists_here
asked_right b None l r i x low high h = refl
asked_right b (Some p) l r i x low high h =
    let w = width-enter (b + width l) r i x in
    all_from (may_be_listed b l (enter (b + width l) r i x)) (rising_with i p.unmerged_leaves) (λ u e.
    elim (or_cases (has p.unmerged_leaves u) _ (sym (has-with i p.unmerged_leaves u) ∙ e)) [
      | inl k ↦ kept_right b l r i x u (all_at (may_be_listed b l r) p.unmerged_leaves u h k)
      | inr k ↦ subst (λ n. may_be_listed b l (enter (b + width l) r i x) n ≡ true) (eqb-true i u k) (may_right b l (enter (b + width l) r i x) i low (omega arith) (listed-enter (b + width l) r i x))
    ])

pub lists-enter : (b : ℕ) (t : Term) (i : ℕ) (x : LeafNode) → b ≤ i → i < b + width t → all_parents lists_here b t ≡ true → all_parents lists_here b (enter b t i x) ≡ true
unfolding width
lists-enter b (Leaf v) i x low high h = unfold all_parents enter in refl
lists-enter b (Branch c l r) i x low high h =
    let p = parents_parts lists_here b c l r h in
    elim (cases_lt i (b + width l)) [
      | inl k ↦ rw (enter_left b c l r i x k) (parents_from lists_here b (b + width l) (list_leaf i c) (enter b l i x) r (asked_left b c l r i x low k p.0) (lists-enter b l i x low k p.1) (ap (λ n. b + n) (sym (width-enter b l i x))) p.2)
      | inr k ↦ rw (enter_right b c l r i x k) (parents_from lists_here b (b + width l) (list_leaf i c) l (enter (b + width l) r i x) (asked_right b c l r i x k high p.0) p.1 refl (lists-enter (b + width l) r i x k (omega arith) p.2))
    ]

-- and rising lists stay rising
asked_rises : (b i : ℕ) (c : Option Parent) (l r s t : Term) → parent_passes rises_here b c l r ≡ true → parent_passes rises_here b (list_leaf i c) s t ≡ true
unfolding rises_here
asked_rises b i None l r s t h = refl
asked_rises b i (Some p) l r s t h = rises_from-rising_with 0 i p.unmerged_leaves (omega arith) h

pub rises-enter : (b : ℕ) (t : Term) (i : ℕ) (x : LeafNode) → all_parents rises_here b t ≡ true → all_parents rises_here b (enter b t i x) ≡ true
rises-enter b (Leaf v) i x h = unfold all_parents enter in refl
rises-enter b (Branch c l r) i x h =
    let p = parents_parts rises_here b c l r h in
    elim (cases_lt i (b + width l)) [
      | inl k ↦ rw (enter_left b c l r i x k) (parents_from rises_here b (b + width l) (list_leaf i c) (enter b l i x) r (asked_rises b i c l r (enter b l i x) r p.0) (rises-enter b l i x p.1) (ap (λ n. b + n) (sym (width-enter b l i x))) p.2)
      | inr k ↦ rw (enter_right b c l r i x k) (parents_from rises_here b (b + width l) (list_leaf i c) l (enter (b + width l) r i x) (asked_rises b i c l r l (enter (b + width l) r i x) p.0) p.1 refl (rises-enter (b + width l) r i x p.2))
    ]
