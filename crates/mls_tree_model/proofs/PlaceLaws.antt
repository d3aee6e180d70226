-- Which leaves and members a tree has after each edit.
use Rattle.std.proofs.Common.{◌≡◌, ℕ, zero, suc, ◌+◌, ◌<◌, ◌≤◌, ◌==◌, nat_lt, true, false, cond, ◌⊎◌, List, [], ◌++◌, append-nil, Option, Some, None, is_some, IsSome, refl, sym, ◌∙◌, ap, ap₂, arith, inl, inr, eq-eqb, ne_eqb}
use Rattle.std.proofs.lemmas.Bool.{true≢false, and_parts, and_from, or_parts, or_left, or_right, cond-true, cond-false, cond_both, cases_lt}
use Rattle.mls_leaf.specs.declared.leaf.LeafNode.{LeafNode}
use Rattle.mls_tree_model.proofs.Equations.{enter_left, enter_right, leaf_at_left, leaf_at_right, merge_left, merge_right, put_left, put_right}
use Rattle.mls_tree_model.specs.Term.{Term, Leaf, Branch, width, height, is_perfect, blanks, has_leaf, is_full_width, leaf_at}
use Rattle.mls_tree_model.specs.Edits.{put, enter, grow, trim, list_leaf, or_else, first_blank}
use Rattle.mls_tree_model.specs.Resolution.{is_reached}
use Rattle.mls_tree_model.specs.Merge.{new_parent, keys_below, hash_below, merge}
use Rattle.mls_tree_model.specs.Keys.{members}
use Rattle.mls_tree_model.proofs.ShapeLaws.{width_pos, width-put, width-enter, height-perfect}
use Rattle.mls_tree_model.proofs.MergeLaws.{width-merge}

or_cases_option : (i : ℕ) (o p : Option ℕ) → or_else o p ≡ Some i → (o ≡ Some i) ⊎ (p ≡ Some i)
or_cases_option i None p e = inr e
or_cases_option i (Some j) p e = inl e

-- the first blank leaf is in the tree, and blank
pub first_blank_at : (b : ℕ) (t : Term) (i : ℕ) → first_blank b t ≡ Some i → (b ≤ i) × (i < b + width t) × (leaf_at b t i ≡ None)
unfolding first_blank width leaf_at
first_blank_at b (Leaf None) i e = let is : b ≡ i = cc in (omega arith, omega arith, refl)
first_blank_at b (Leaf (Some v)) i e = absurd (cc)
first_blank_at b (Branch c l r) i e =
    elim (or_cases_option i (first_blank b l) (first_blank (b + width l) r) e) [
      | inl k ↦
          let f = first_blank_at b l i k in
          let high = f.1 in
          (f.0, omega arith, leaf_at_left b c l r i f.1 ∙ f.2)
      | inr k ↦
          let f = first_blank_at (b + width l) r i k in
          let low = f.0 in
          let high = f.1 in
          (omega arith, omega arith, leaf_at_right b c l r i f.0 ∙ f.2)
    ]

pub first_blank_none : (b : ℕ) (t : Term) (j : ℕ) → first_blank b t ≡ None → b ≤ j → j < b + width t → IsSome (leaf_at b t j)
unfolding first_blank width leaf_at
first_blank_none b (Leaf None) j e low high = absurd (cc)
first_blank_none b (Leaf (Some v)) j e low high = refl
first_blank_none b (Branch c l r) j e low high =
    let p = neither (first_blank b l) (first_blank (b + width l) r) e in
    elim (cases_lt j (b + width l)) [
      | inl k ↦ ap is_some (leaf_at_left b c l r j k) ∙ first_blank_none b l j p.0 low k
      | inr k ↦ ap is_some (leaf_at_right b c l r j k) ∙ first_blank_none (b + width l) r j p.1 k (omega arith)
    ]
  where
    neither : (o p : Option ℕ) → or_else o p ≡ None → (o ≡ None) × (p ≡ None)
    neither None p e = (refl, e)
    neither (Some i) p e = absurd (cc)

pub first_blank_first : (b : ℕ) (t : Term) (i j : ℕ) → first_blank b t ≡ Some i → b ≤ j → j < i → IsSome (leaf_at b t j)
unfolding first_blank width leaf_at
first_blank_first b (Leaf None) i j e low high = let is : b ≡ i = cc in absurd (omega arith)
first_blank_first b (Leaf (Some v)) i j e low high = refl
first_blank_first b (Branch c l r) i j e low high =
    elim (which (first_blank b l) (first_blank (b + width l) r) e) [
      | inl k ↦
          let f = (first_blank_at b l i k).1 in
          ap is_some (leaf_at_left b c l r j (omega arith)) ∙ first_blank_first b l i j k low high
      | inr k ↦ elim (cases_lt j (b + width l)) [
        | inl lt ↦ ap is_some (leaf_at_left b c l r j lt) ∙ first_blank_none b l j k.0 low lt
        | inr ge ↦ ap is_some (leaf_at_right b c l r j ge) ∙ first_blank_first (b + width l) r i j k.1 ge high
      ]
    ]
  where
    which : (o p : Option ℕ) → or_else o p ≡ Some i → (o ≡ Some i) ⊎ ((o ≡ None) × (p ≡ Some i))
    which None p e = inr (refl, e)
    which (Some m) p e = inl e

-- beside a doubled tree there is a blank leaf
leaf_at-blanks : (b h i : ℕ) → leaf_at b (blanks h) i ≡ None
unfolding blanks leaf_at
leaf_at-blanks b zero i = refl
leaf_at-blanks b (suc h) i = cond_both (nat_lt i (b + width (blanks h))) _ _ (λ o. o ≡ None) (λ _. leaf_at-blanks b h i) (λ _. leaf_at-blanks (b + width (blanks h)) h i)

pub leaf_at-grow : (b : ℕ) (t : Term) (i : ℕ) → b + width t ≤ i → leaf_at b (grow t) i ≡ None
unfolding grow
leaf_at-grow b t i ge = leaf_at_right b None t (blanks (height t)) i ge ∙ leaf_at-blanks (b + width t) (height t) i

pub leaf_at-grown : (b : ℕ) (t : Term) (i : ℕ) → i < b + width t → leaf_at b (grow t) i ≡ leaf_at b t i
unfolding grow
leaf_at-grown b t i lt = leaf_at_left b None t (blanks (height t)) i lt

pub width-grow : (t : Term) → width t < width (grow t)
unfolding width grow
width-grow t = let e = width_pos (blanks (height t)) in omega arith

pub width-trim : (t : Term) → width (trim t) ≤ width t
unfolding width trim
width-trim (Leaf v) = omega arith
width-trim (Branch c l r) =
    cond_both (has_leaf r) _ _ (λ t. width t ≤ width l + width r)
    (λ _. omega arith)
    (λ _. let e = width-trim l in omega arith)

pub leaf_at-trim : (b : ℕ) (t : Term) (i : ℕ) → i < b + width (trim t) → leaf_at b (trim t) i ≡ leaf_at b t i
unfolding trim
leaf_at-trim b (Leaf v) i = λ lt. refl
leaf_at-trim b (Branch c l r) i =
    cond_both (has_leaf r) _ _ (λ t. i < b + width t → leaf_at b t i ≡ leaf_at b (Branch c l r) i)
    (λ _ lt. refl)
    (λ _ lt. let w = width-trim l in leaf_at-trim b l i lt ∙ sym (leaf_at_left b c l r i (omega arith)))

-- a leaf lands in the tree
pub has_leaf-put : (b : ℕ) (t : Term) (i : ℕ) (x : LeafNode) → has_leaf (put b t i (Some x)) ≡ true
unfolding has_leaf put
has_leaf-put b (Leaf v) i x = refl
has_leaf-put b (Branch c l r) i x =
    cond_both (nat_lt i (b + width l)) _ _ (λ t. has_leaf t ≡ true)
    (λ _. or_left _ (has_leaf r) (has_leaf-put b l i x))
    (λ _. or_right (has_leaf l) _ (has_leaf-put (b + width l) r i x))

pub has_leaf-enter : (b : ℕ) (t : Term) (i : ℕ) (x : LeafNode) → has_leaf (enter b t i x) ≡ true
unfolding has_leaf enter
has_leaf-enter b (Leaf v) i x = refl
has_leaf-enter b (Branch c l r) i x =
    cond_both (nat_lt i (b + width l)) _ _ (λ t. has_leaf t ≡ true)
    (λ _. or_left _ (has_leaf r) (has_leaf-enter b l i x))
    (λ _. or_right (has_leaf l) _ (has_leaf-enter (b + width l) r i x))

pub has_leaf-merge : (b : ℕ) (t : Term) (i : ℕ) (ks : List (List ℕ)) (h : List ℕ) (x : LeafNode) → has_leaf (merge b t i ks h x) ≡ true
unfolding has_leaf merge
has_leaf-merge b (Leaf v) i ks h x = refl
has_leaf-merge b (Branch c l r) i ks h x =
    cond_both (nat_lt i (b + width l)) _ _ (λ t. has_leaf t ≡ true)
    (λ _. or_left _ (has_leaf r) (has_leaf-merge b l i _ _ x))
    (λ _. or_right (has_leaf l) _ (has_leaf-merge (b + width l) r i _ _ x))

-- a tree that was of full width still is
pub full-put : (b : ℕ) (t : Term) (i : ℕ) (x : LeafNode) → is_full_width t ≡ true → is_full_width (put b t i (Some x)) ≡ true
unfolding is_full_width put
full-put b (Leaf v) i x e = refl
full-put b (Branch c l r) i x e =
    cond_both (nat_lt i (b + width l)) _ _ (λ t. is_full_width t ≡ true) (λ _. e) (λ _. has_leaf-put (b + width l) r i x)

pub full-enter : (b : ℕ) (t : Term) (i : ℕ) (x : LeafNode) → is_full_width t ≡ true → is_full_width (enter b t i x) ≡ true
unfolding is_full_width enter
full-enter b (Leaf v) i x e = refl
full-enter b (Branch c l r) i x e =
    cond_both (nat_lt i (b + width l)) _ _ (λ t. is_full_width t ≡ true) (λ _. e) (λ _. has_leaf-enter (b + width l) r i x)

pub full-merge : (b : ℕ) (t : Term) (i : ℕ) (ks : List (List ℕ)) (h : List ℕ) (x : LeafNode) → is_full_width t ≡ true → is_full_width (merge b t i ks h x) ≡ true
unfolding is_full_width merge
full-merge b (Leaf v) i ks h x e = refl
full-merge b (Branch c l r) i ks h x e =
    cond_both (nat_lt i (b + width l)) _ _ (λ t. is_full_width t ≡ true) (λ _. e) (λ _. has_leaf-merge (b + width l) r i _ _ x)

pub full-grow : (b : ℕ) (t : Term) (i : ℕ) (x : LeafNode) → b + width t ≤ i → is_full_width (enter b (grow t) i x) ≡ true
unfolding is_full_width grow
full-grow b t i x ge = rw (enter_right b None t (blanks (height t)) i x ge) (has_leaf-enter (b + width t) (blanks (height t)) i x)

pub perfect-merge : (d : ℕ) (b : ℕ) (t : Term) (i : ℕ) (ks : List (List ℕ)) (h : List ℕ) (x : LeafNode) → is_perfect d t ≡ true → is_perfect d (merge b t i ks h x) ≡ true
unfolding is_perfect merge
perfect-merge zero b (Leaf v) i ks h x e = refl
perfect-merge (suc d) b (Leaf v) i ks h x e = absurd (true≢false (sym e))
perfect-merge zero b (Branch c l r) i ks h x e = absurd (true≢false (sym e))
perfect-merge (suc d) b (Branch c l r) i ks h x e =
    let p = and_parts (is_perfect d l) (is_perfect d r) e in
    cond_both (nat_lt i (b + width l)) _ _ (λ t. is_perfect (suc d) t ≡ true)
    (λ _. and_from _ _ (perfect-merge d b l i _ _ x p.0) p.1)
    (λ _. and_from _ _ p.0 (perfect-merge d (b + width l) r i _ _ x p.1))

pub perfect_itself : (h : ℕ) (t : Term) → is_perfect h t ≡ true → is_perfect (height t) t ≡ true
perfect_itself h t e = ap (λ n. is_perfect n t) (height-perfect h t e) ∙ e

-- what is cut has no member
members-none : (b : ℕ) (t : Term) → has_leaf t ≡ false → members b t ≡ []
unfolding members has_leaf
members-none b (Leaf None) e = refl
members-none b (Leaf (Some v)) e = absurd (true≢false e)
members-none b (Branch c l r) e =
    let p = or_parts (has_leaf l) (has_leaf r) e in
    ap₂ ◌++◌ (members-none b l p.0) (members-none (b + width l) r p.1)

pub members-trim : (b : ℕ) (t : Term) → members b (trim t) ≡ members b t
unfolding members trim
members-trim b (Leaf v) = refl
members-trim b (Branch c l r) =
    cond_both (has_leaf r) _ _ (λ t. members b t ≡ members b l ++ members (b + width l) r)
    (λ _. refl)
    (λ e. members-trim b l ∙ sym (ap (λ xs. members b l ++ xs) (members-none (b + width l) r e) ∙ append-nil (members b l)))

has_leaf-blanks : (h : ℕ) → has_leaf (blanks h) ≡ false
unfolding has_leaf blanks
has_leaf-blanks zero = refl
has_leaf-blanks (suc h) = rw (has_leaf-blanks h) refl

pub members-grow : (b : ℕ) (t : Term) → members b (grow t) ≡ members b t
unfolding members grow
members-grow b t = ap (λ xs. members b t ++ xs) (members-none (b + width t) (blanks (height t)) (has_leaf-blanks (height t))) ∙ append-nil (members b t)

at_leaf : (b : ℕ) (v : Option LeafNode) (j : ℕ) → v ≡ leaf_at b (Leaf v) j
unfolding leaf_at
at_leaf b v j = refl

-- an edit at a leaf changes that leaf alone
same_leaf : (i j : ℕ) (x y : Option LeafNode) → i ≡ j → x ≡ cond (j == i) x y
same_leaf i j x y e = sym (cond-true _ _ _ (eq-eqb j i (sym e)))

other_leaf : (i j : ℕ) (x y : Option LeafNode) → (j ≡ i → ⊥) → y ≡ cond (j == i) x y
other_leaf i j x y n = sym (cond-false _ _ _ (ne_eqb j i n))

leaf_at-put_leaf : (b : ℕ) (v : Option LeafNode) (i : ℕ) (x : Option LeafNode) (j : ℕ) → i ≡ j → leaf_at b (put b (Leaf v) i x) j ≡ cond (j == i) x v
unfolding leaf_at put
leaf_at-put_leaf b v i x j e = same_leaf i j x v e

pub leaf_at-put : (b : ℕ) (t : Term) (i : ℕ) (x : Option LeafNode) (j : ℕ) → b ≤ i → i < b + width t → b ≤ j → j < b + width t → leaf_at b (put b t i x) j ≡ cond (j == i) x (leaf_at b t j)
unfolding width
leaf_at-put b (Leaf v) i x j il ih jl jh = leaf_at-put_leaf b v i x j (omega arith) ∙ ap (cond (j == i) x) (at_leaf b v j)
leaf_at-put b (Branch c l r) i x j il ih jl jh =
    elim (cases_lt i (b + width l)) [
      | inl k ↦ rw (put_left b c l r i x k) (
          let w = width-put b l i x in
          elim (cases_lt j (b + width l)) [
            | inl m ↦
                leaf_at_left b None (put b l i x) r j (omega arith)
                ∙ leaf_at-put b l i x j il k jl m
                ∙ ap (cond (j == i) x) (sym (leaf_at_left b c l r j m))
            | inr m ↦
                leaf_at_right b None (put b l i x) r j (omega arith)
                ∙ ap (λ n. leaf_at (b + n) r j) w
                ∙ sym (leaf_at_right b c l r j m)
                ∙ other_leaf i j x _ (λ e. absurd (omega arith))
          ])
      | inr k ↦ rw (put_right b c l r i x k) (
          elim (cases_lt j (b + width l)) [
            | inl m ↦
                leaf_at_left b None l (put (b + width l) r i x) j m
                ∙ sym (leaf_at_left b c l r j m)
                ∙ other_leaf i j x _ (λ e. absurd (omega arith))
            | inr m ↦
                leaf_at_right b None l (put (b + width l) r i x) j m
                ∙ leaf_at-put (b + width l) r i x j k (omega arith) m (omega arith)
                ∙ ap (cond (j == i) x) (sym (leaf_at_right b c l r j m))
          ])
    ]

leaf_at-enter_leaf : (b : ℕ) (v : Option LeafNode) (i : ℕ) (x : LeafNode) (j : ℕ) → i ≡ j → leaf_at b (enter b (Leaf v) i x) j ≡ cond (j == i) (Some x) v
unfolding leaf_at enter
leaf_at-enter_leaf b v i x j e = same_leaf i j (Some x) v e

pub leaf_at-enter : (b : ℕ) (t : Term) (i : ℕ) (x : LeafNode) (j : ℕ) → b ≤ i → i < b + width t → b ≤ j → j < b + width t → leaf_at b (enter b t i x) j ≡ cond (j == i) (Some x) (leaf_at b t j)
unfolding width
leaf_at-enter b (Leaf v) i x j il ih jl jh = leaf_at-enter_leaf b v i x j (omega arith) ∙ ap (cond (j == i) (Some x)) (at_leaf b v j)
leaf_at-enter b (Branch c l r) i x j il ih jl jh =
    elim (cases_lt i (b + width l)) [
      | inl k ↦ rw (enter_left b c l r i x k) (
          let w = width-enter b l i x in
          elim (cases_lt j (b + width l)) [
            | inl m ↦
                leaf_at_left b (list_leaf i c) (enter b l i x) r j (omega arith)
                ∙ leaf_at-enter b l i x j il k jl m
                ∙ ap (cond (j == i) (Some x)) (sym (leaf_at_left b c l r j m))
            | inr m ↦
                leaf_at_right b (list_leaf i c) (enter b l i x) r j (omega arith)
                ∙ ap (λ n. leaf_at (b + n) r j) w
                ∙ sym (leaf_at_right b c l r j m)
                ∙ other_leaf i j (Some x) _ (λ e. absurd (omega arith))
          ])
      | inr k ↦ rw (enter_right b c l r i x k) (
          elim (cases_lt j (b + width l)) [
            | inl m ↦
                leaf_at_left b (list_leaf i c) l (enter (b + width l) r i x) j m
                ∙ sym (leaf_at_left b c l r j m)
                ∙ other_leaf i j (Some x) _ (λ e. absurd (omega arith))
            | inr m ↦
                leaf_at_right b (list_leaf i c) l (enter (b + width l) r i x) j m
                ∙ leaf_at-enter (b + width l) r i x j k (omega arith) m (omega arith)
                ∙ ap (cond (j == i) (Some x)) (sym (leaf_at_right b c l r j m))
          ])
    ]

-- a merge has the leaves that the tree has with the leaf put
pub leaf_at-merge : (b : ℕ) (t : Term) (i : ℕ) (ks : List (List ℕ)) (h : List ℕ) (x : LeafNode) (j : ℕ) → leaf_at b (merge b t i ks h x) j ≡ leaf_at b (put b t i (Some x)) j
leaf_at-merge b (Leaf v) i ks h x j = at_merged b v i ks h x j
  where
    at_merged : (b : ℕ) (v : Option LeafNode) (i : ℕ) (ks : List (List ℕ)) (h : List ℕ) (x : LeafNode) (j : ℕ) → leaf_at b (merge b (Leaf v) i ks h x) j ≡ leaf_at b (put b (Leaf v) i (Some x)) j
    at_merged b v i ks h x j = unfold leaf_at merge put in refl
leaf_at-merge b (Branch c l r) i ks h x j =
    elim (cases_lt i (b + width l)) [
      | inl lt ↦ rw (merge_left b c l r i ks h x lt, put_left b c l r i (Some x) lt) (
          let e = is_reached (b + width l) r in
          let below = keys_below e ks in
          let passed = hash_below (new_parent e ks h) (b + width l) r h in
          let w = width-merge b l i below passed x in
          let v = width-put b l i (Some x) in
          elim (cases_lt j (b + width l)) [
            | inl m ↦
                leaf_at_left b (new_parent e ks h) (merge b l i below passed x) r j (omega arith)
                ∙ leaf_at-merge b l i below passed x j
                ∙ sym (leaf_at_left b None (put b l i (Some x)) r j (omega arith))
            | inr m ↦
                leaf_at_right b (new_parent e ks h) (merge b l i below passed x) r j (omega arith)
                ∙ ap (λ n. leaf_at (b + n) r j) (w ∙ sym v)
                ∙ sym (leaf_at_right b None (put b l i (Some x)) r j (omega arith))
          ])
      | inr ge ↦ rw (merge_right b c l r i ks h x ge, put_right b c l r i (Some x) ge) (
          let e = is_reached b l in
          let below = keys_below e ks in
          let passed = hash_below (new_parent e ks h) b l h in
          elim (cases_lt j (b + width l)) [
            | inl m ↦ leaf_at_left b (new_parent e ks h) l (merge (b + width l) r i below passed x) j m ∙ sym (leaf_at_left b None l (put (b + width l) r i (Some x)) j m)
            | inr m ↦
                leaf_at_right b (new_parent e ks h) l (merge (b + width l) r i below passed x) j m
                ∙ leaf_at-merge (b + width l) r i below passed x j
                ∙ sym (leaf_at_right b None l (put (b + width l) r i (Some x)) j m)
          ])
    ]
