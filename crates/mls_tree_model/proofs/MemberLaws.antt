-- What holds of each member and of each key, under each edit.
use Rattle.std.proofs.Common.{◌≡◌, ℕ, zero, suc, ◌+◌, ◌<◌, ◌≤◌, nat_lt, Bool, true, false, List, [], ◌∷◌, ◌++◌, Option, Some, None, is_some, IsSome, refl, sym, ◌∙◌, ap, arith, inl, inr, eq-eqb, ne_eqb}
use Rattle.std.specs.List.{list_all}
use Rattle.std.proofs.lemmas.Bool.{true≢false, and_parts, and_from, or_left, or_right, cond-true, cond-false, cond_both, cases_lt}
use Rattle.std.proofs.lemmas.List.Folds.{list_all-append}
use Rattle.mls_leaf.specs.Parent.{Parent}
use Rattle.mls_leaf.specs.declared.leaf.LeafNode.{LeafNode}
use Rattle.mls_tree_model.proofs.Equations.{enter_left, enter_right, leaf_at_left, leaf_at_right, merge_left, merge_right, put_left, put_right, all_members_leaf}
use Rattle.mls_tree_model.specs.Term.{Term, Leaf, Branch, width, height, blanks, has_leaf, leaf_at}
use Rattle.mls_tree_model.specs.Sets.{has, less}
use Rattle.mls_tree_model.specs.Edits.{put, enter, grow, trim, list_leaf, first_blank, place_for, room_for, place_in, add, remove}
use Rattle.mls_tree_model.specs.Hashes.{original_tree, unlist_leaves}
use Rattle.mls_tree_model.specs.Resolution.{is_reached}
use Rattle.mls_tree_model.specs.Merge.{new_parent, keys_below, merge}
use Rattle.mls_tree_model.specs.Keys.{gather, leaf_key, parent_key, encryption_keys, passes, all_members}
use Rattle.mls_tree_model.proofs.ShapeLaws.{width-put, width-enter}
use Rattle.mls_tree_model.proofs.MergeLaws.{width-merge}
use Rattle.mls_tree_model.proofs.CountLaws.{key-list_leaf}
use Rattle.mls_tree_model.proofs.PlaceLaws.{first_blank_at, leaf_at-enter, leaf_at-put, leaf_at-grow, leaf_at-grown, leaf_at-trim, width-grow}

module _ (p : ℕ → LeafNode → Bool) where
  members_from : (b m : ℕ) (c : Option Parent) (l r : Term) → m ≡ b + width l → all_members p b l ≡ true → all_members p m r ≡ true → all_members p b (Branch c l r) ≡ true
  unfolding all_members
  members_from b m c l r e h g = and_from _ _ h (ap (λ n. all_members p n r) (sym e) ∙ g)

  members_parts : (b : ℕ) (c : Option Parent) (l r : Term) → all_members p b (Branch c l r) ≡ true → (all_members p b l ≡ true) × (all_members p (b + width l) r ≡ true)
  unfolding all_members
  members_parts b c l r h = and_parts _ _ h

  put_of_leaf : (b : ℕ) (v : Option LeafNode) (i : ℕ) (x : Option LeafNode) → b ≡ i → passes p i x ≡ true → all_members p b (put b (Leaf v) i x) ≡ true
  unfolding put
  put_of_leaf b v i x e h = all_members_leaf p b x ∙ ap (λ n. passes p n x) e ∙ h

  pub members-put : (b : ℕ) (t : Term) (i : ℕ) (x : Option LeafNode) → b ≤ i → i < b + width t → passes p i x ≡ true → all_members p b t ≡ true → all_members p b (put b t i x) ≡ true
  unfolding width
  members-put b (Leaf v) i x low high h a = put_of_leaf b v i x (omega arith) h
  members-put b (Branch c l r) i x low high h a =
      let m = members_parts b c l r a in
      elim (cases_lt i (b + width l)) [
        | inl k ↦ rw (put_left b c l r i x k) (members_from b (b + width l) None (put b l i x) r (ap (λ n. b + n) (sym (width-put b l i x))) (members-put b l i x low k h m.0) m.1)
        | inr k ↦ rw (put_right b c l r i x k) (members_from b (b + width l) None l (put (b + width l) r i x) refl m.0 (members-put (b + width l) r i x k (omega arith) h m.1))
      ]

  enter_of_leaf : (b : ℕ) (v : Option LeafNode) (i : ℕ) (x : LeafNode) → b ≡ i → p i x ≡ true → all_members p b (enter b (Leaf v) i x) ≡ true
  unfolding enter
  enter_of_leaf b v i x e h = all_members_leaf p b (Some x) ∙ ap (λ n. p n x) e ∙ h

  pub members-enter : (b : ℕ) (t : Term) (i : ℕ) (x : LeafNode) → b ≤ i → i < b + width t → p i x ≡ true → all_members p b t ≡ true → all_members p b (enter b t i x) ≡ true
  unfolding width
  members-enter b (Leaf v) i x low high h a = enter_of_leaf b v i x (omega arith) h
  members-enter b (Branch c l r) i x low high h a =
      let m = members_parts b c l r a in
      elim (cases_lt i (b + width l)) [
        | inl k ↦ rw (enter_left b c l r i x k) (members_from b (b + width l) (list_leaf i c) (enter b l i x) r (ap (λ n. b + n) (sym (width-enter b l i x))) (members-enter b l i x low k h m.0) m.1)
        | inr k ↦ rw (enter_right b c l r i x k) (members_from b (b + width l) (list_leaf i c) l (enter (b + width l) r i x) refl m.0 (members-enter (b + width l) r i x k (omega arith) h m.1))
      ]

  merge_of_leaf : (b : ℕ) (v : Option LeafNode) (i : ℕ) (ks : List (List ℕ)) (h : List ℕ) (x : LeafNode) → b ≡ i → p i x ≡ true → all_members p b (merge b (Leaf v) i ks h x) ≡ true
  unfolding merge
  merge_of_leaf b v i ks h x e g = all_members_leaf p b (Some x) ∙ ap (λ n. p n x) e ∙ g

  pub members-merge : (b : ℕ) (t : Term) (i : ℕ) (ks : List (List ℕ)) (h : List ℕ) (x : LeafNode) → b ≤ i → i < b + width t → p i x ≡ true → all_members p b t ≡ true → all_members p b (merge b t i ks h x) ≡ true
  unfolding width
  members-merge b (Leaf v) i ks h x low high g a = merge_of_leaf b v i ks h x (omega arith) g
  members-merge b (Branch c l r) i ks h x low high g a =
      let m = members_parts b c l r a in
      elim (cases_lt i (b + width l)) [
        | inl lt ↦ rw (merge_left b c l r i ks h x lt) (members_from b (b + width l) _ _ r (ap (λ n. b + n) (sym (width-merge b l i _ _ x))) (members-merge b l i _ _ x low lt g m.0) m.1)
        | inr ge ↦ rw (merge_right b c l r i ks h x ge) (members_from b (b + width l) _ l _ refl m.0 (members-merge (b + width l) r i _ _ x ge (omega arith) g m.1))
      ]

  members-blanks : (b h : ℕ) → all_members p b (blanks h) ≡ true
  unfolding all_members blanks
  members-blanks b zero = refl
  members-blanks b (suc h) = and_from _ _ (members-blanks b h) (members-blanks (b + width (blanks h)) h)

  pub all_members-grow : (b : ℕ) (t : Term) → all_members p b t ≡ true → all_members p b (grow t) ≡ true
  unfolding grow
  all_members-grow b t a = members_from b (b + width t) None t (blanks (height t)) refl a (members-blanks (b + width t) (height t))

  pub all_members-trim : (b : ℕ) (t : Term) → all_members p b t ≡ true → all_members p b (trim t) ≡ true
  unfolding trim
  all_members-trim b (Leaf v) a = a
  all_members-trim b (Branch c l r) a =
      cond_both (has_leaf r) _ _ (λ t. all_members p b t ≡ true)
      (λ _. a)
      (λ _. all_members-trim b l (members_parts b c l r a).0)

-- a test of each encryption key
module _ (q : List ℕ → Bool) where
  all_keys : Term → Bool
  all_keys t = list_all q (gather leaf_key parent_key t)

  keys_parts : (c : Option Parent) (l r : Term) → all_keys (Branch c l r) ≡ true → (all_keys l ≡ true) × (list_all q (parent_key c) ≡ true) × (all_keys r ≡ true)
  unfolding all_keys gather
  keys_parts c l r h =
      let a = and_parts _ _ (sym (list_all-append q (gather leaf_key parent_key l) (parent_key c ++ gather leaf_key parent_key r)) ∙ h) in
      let d = and_parts _ _ (sym (list_all-append q (parent_key c) (gather leaf_key parent_key r)) ∙ a.1) in
      (a.0, d.0, d.1)

  keys_from : (c : Option Parent) (l r : Term) → all_keys l ≡ true → list_all q (parent_key c) ≡ true → all_keys r ≡ true → all_keys (Branch c l r) ≡ true
  unfolding all_keys gather
  keys_from c l r h g j =
      list_all-append q (gather leaf_key parent_key l) (parent_key c ++ gather leaf_key parent_key r)
      ∙ and_from _ _ h (list_all-append q (parent_key c) (gather leaf_key parent_key r) ∙ and_from _ _ g j)

  key_of_leaf : (v : Option LeafNode) → list_all q (leaf_key v) ≡ true → all_keys (Leaf v) ≡ true
  unfolding all_keys gather
  key_of_leaf v h = h

  put_keys : (b : ℕ) (t : Term) (i : ℕ) (x : Option LeafNode) → list_all q (leaf_key x) ≡ true → all_keys t ≡ true → all_keys (put b t i x) ≡ true
  unfolding put
  put_keys b (Leaf v) i x h a = key_of_leaf x h
  put_keys b (Branch c l r) i x h a =
      let m = keys_parts c l r a in
      cond_both (nat_lt i (b + width l)) _ _ (λ t. all_keys t ≡ true)
      (λ _. keys_from None (put b l i x) r (put_keys b l i x h m.0) refl m.2)
      (λ _. keys_from None l (put (b + width l) r i x) m.0 refl (put_keys (b + width l) r i x h m.2))

  enter_keys : (b : ℕ) (t : Term) (i : ℕ) (x : LeafNode) → q x.encryption_key ≡ true → all_keys t ≡ true → all_keys (enter b t i x) ≡ true
  unfolding enter
  enter_keys b (Leaf v) i x h a = key_of_leaf (Some x) (and_from (q x.encryption_key) true h refl)
  enter_keys b (Branch c l r) i x h a =
      let m = keys_parts c l r a in
      let own = ap (list_all q) (key-list_leaf i c) ∙ m.1 in
      cond_both (nat_lt i (b + width l)) _ _ (λ t. all_keys t ≡ true)
      (λ _. keys_from (list_leaf i c) (enter b l i x) r (enter_keys b l i x h m.0) own m.2)
      (λ _. keys_from (list_leaf i c) l (enter (b + width l) r i x) m.0 own (enter_keys (b + width l) r i x h m.2))

  new_key : (e : Bool) (ks : List (List ℕ)) (h : List ℕ) → list_all q ks ≡ true → list_all q (parent_key (new_parent e ks h)) ≡ true
  new_key false ks h a = refl
  new_key true [] h a = refl
  new_key true (key ∷ ks) h a = and_from (q key) true (and_parts (q key) (list_all q ks) a).0 refl

  other_keys : (e : Bool) (ks : List (List ℕ)) → list_all q ks ≡ true → list_all q (keys_below e ks) ≡ true
  other_keys false ks a = a
  other_keys true [] a = refl
  other_keys true (key ∷ ks) a = (and_parts (q key) (list_all q ks) a).1

  merge_keys : (b : ℕ) (t : Term) (i : ℕ) (ks : List (List ℕ)) (h : List ℕ) (x : LeafNode) → list_all q ks ≡ true → q x.encryption_key ≡ true → all_keys t ≡ true → all_keys (merge b t i ks h x) ≡ true
  unfolding merge
  merge_keys b (Leaf v) i ks h x s g a = key_of_leaf (Some x) (and_from (q x.encryption_key) true g refl)
  merge_keys b (Branch c l r) i ks h x s g a =
      let m = keys_parts c l r a in
      cond_both (nat_lt i (b + width l)) _ _ (λ t. all_keys t ≡ true)
      (λ _. keys_from _ _ r (merge_keys b l i _ _ x (other_keys (is_reached (b + width l) r) ks s) g m.0) (new_key (is_reached (b + width l) r) ks h s) m.2)
      (λ _. keys_from _ l _ m.0 (new_key (is_reached b l) ks h s) (merge_keys (b + width l) r i _ _ x (other_keys (is_reached b l) ks s) g m.2))

  blanks_keys : (h : ℕ) → all_keys (blanks h) ≡ true
  unfolding blanks
  blanks_keys zero = key_of_leaf None refl
  blanks_keys (suc h) = keys_from None (blanks h) (blanks h) (blanks_keys h) refl (blanks_keys h)

  grow_keys : (t : Term) → all_keys t ≡ true → all_keys (grow t) ≡ true
  unfolding grow
  grow_keys t a = keys_from None t (blanks (height t)) a refl (blanks_keys (height t))

  trim_keys : (t : Term) → all_keys t ≡ true → all_keys (trim t) ≡ true
  unfolding trim
  trim_keys (Leaf v) a = a
  trim_keys (Branch c l r) a =
      cond_both (has_leaf r) _ _ (λ t. all_keys t ≡ true)
      (λ _. a)
      (λ _. trim_keys l (keys_parts c l r a).0)

  pub keys-put : (b : ℕ) (t : Term) (i : ℕ) (x : Option LeafNode) → list_all q (leaf_key x) ≡ true → list_all q (encryption_keys t) ≡ true → list_all q (encryption_keys (put b t i x)) ≡ true
  unfolding all_keys
  keys-put = put_keys

  pub keys-enter : (b : ℕ) (t : Term) (i : ℕ) (x : LeafNode) → q x.encryption_key ≡ true → list_all q (encryption_keys t) ≡ true → list_all q (encryption_keys (enter b t i x)) ≡ true
  unfolding all_keys
  keys-enter = enter_keys

  pub keys-merge : (b : ℕ) (t : Term) (i : ℕ) (ks : List (List ℕ)) (h : List ℕ) (x : LeafNode) → list_all q ks ≡ true → q x.encryption_key ≡ true → list_all q (encryption_keys t) ≡ true → list_all q (encryption_keys (merge b t i ks h x)) ≡ true
  unfolding all_keys
  keys-merge = merge_keys

  pub keys-grow : (t : Term) → list_all q (encryption_keys t) ≡ true → list_all q (encryption_keys (grow t)) ≡ true
  unfolding all_keys
  keys-grow = grow_keys

  pub keys-trim : (t : Term) → list_all q (encryption_keys t) ≡ true → list_all q (encryption_keys (trim t)) ≡ true
  unfolding all_keys
  keys-trim = trim_keys

-- an original with nobody taken out is the tree itself
less-none : (xs : List ℕ) → less [] xs ≡ xs
unfolding has
less-none [] = refl
less-none (x ∷ xs) = ap (λ ys. x ∷ ys) (less-none xs)

unlist_leaves-none : (c : Option Parent) → unlist_leaves [] c ≡ c
unlist_leaves-none None = refl
unlist_leaves-none (Some p) = ap (λ us. let r : Parent = record { encryption_key = p.encryption_key; parent_hash = p.parent_hash; unmerged_leaves = us } in Some r) (less-none p.unmerged_leaves)

pub original_tree-none : (b : ℕ) (t : Term) → original_tree [] b t ≡ t
unfolding original_tree has
original_tree-none b (Leaf v) = refl
original_tree-none b (Branch c l r) =
    ap (λ d. Branch d (original_tree [] b l) (original_tree [] (b + width l) r)) (unlist_leaves-none c)
    ∙ ap (λ t. Branch c t (original_tree [] (b + width l) r)) (original_tree-none b l)
    ∙ ap (λ t. Branch c l t) (original_tree-none (b + width l) r)

-- where an added leaf lands
add_place : (t : Term) (o : Option ℕ) → first_blank 0 t ≡ o → (place_for o t < width (room_for o t)) × (leaf_at 0 (room_for o t) (place_for o t) ≡ None) × (width t ≤ width (room_for o t)) × ((j : ℕ) → j < width t → leaf_at 0 (room_for o t) j ≡ leaf_at 0 t j)
add_place t (Some i) e =
    let f = first_blank_at 0 t i e in
    let high = f.1 in
    (omega arith, f.2, omega arith, λ j _. refl)
add_place t None e =
    let w = width-grow t in
    (w, leaf_at-grow 0 t (width t) (omega arith), omega arith, λ j lt. leaf_at-grown 0 t j (omega arith))

pub add_there : (t : Term) (x : LeafNode) → leaf_at 0 (add t x) (place_in t) ≡ Some x
unfolding add
add_there t x =
    let f = add_place t (first_blank 0 t) refl in
    let high = f.0 in
    leaf_at-enter 0 (room_for (first_blank 0 t) t) (place_in t) x (place_in t) (omega arith) (omega arith) (omega arith) (omega arith)
    ∙ cond-true _ _ _ (eq-eqb (place_in t) (place_in t) refl)

pub add_elsewhere : (t : Term) (x : LeafNode) (j : ℕ) → j < width t → (j ≡ place_in t → ⊥) → leaf_at 0 (add t x) j ≡ leaf_at 0 t j
unfolding add
add_elsewhere t x j lt ne =
    let f = add_place t (first_blank 0 t) refl in
    let high = f.0 in
    let wide = f.2 in
    leaf_at-enter 0 (room_for (first_blank 0 t) t) (place_in t) x j (omega arith) (omega arith) (omega arith) (omega arith)
    ∙ cond-false _ _ _ (ne_eqb j (place_in t) ne)
    ∙ f.3 j lt

pub add_wider : (t : Term) (x : LeafNode) → width t ≤ width (add t x)
unfolding add
add_wider t x =
    let f = (add_place t (first_blank 0 t) refl).2 in
    let w = width-enter 0 (room_for (first_blank 0 t) t) (place_in t) x in
    omega arith

-- a removal cuts no other member
pub leaf_taken : (b : ℕ) (t : Term) (j : ℕ) → IsSome (leaf_at b t j) → has_leaf t ≡ true
unfolding leaf_at has_leaf
leaf_taken b (Leaf v) j h = h
leaf_taken b (Branch c l r) j h =
    elim (cases_lt j (b + width l)) [
      | inl k ↦ or_left _ (has_leaf r) (leaf_taken b l j (sym (ap is_some (leaf_at_left b c l r j k)) ∙ h))
      | inr k ↦ or_right (has_leaf l) _ (leaf_taken (b + width l) r j (sym (ap is_some (leaf_at_right b c l r j k)) ∙ h))
    ]

trim_keeps : (b : ℕ) (t : Term) (j : ℕ) → b ≤ j → j < b + width t → IsSome (leaf_at b t j) → j < b + width (trim t)
unfolding trim width
trim_keeps b (Leaf v) j low high h = high
trim_keeps b (Branch c l r) j low high h =
    cond_both (has_leaf r) _ _ (λ t. j < b + width t)
    (λ _. high)
    (λ e. elim (cases_lt j (b + width l)) [
      | inl k ↦ trim_keeps b l j low k (sym (ap is_some (leaf_at_left b c l r j k)) ∙ h)
      | inr k ↦ absurd (true≢false (sym (leaf_taken (b + width l) r j (sym (ap is_some (leaf_at_right b c l r j k)) ∙ h)) ∙ e))
    ])

pub remove_elsewhere : (t : Term) (i j : ℕ) → i < width t → j < width t → (j ≡ i → ⊥) → IsSome (leaf_at 0 t j) → (j < width (remove t i)) × (leaf_at 0 (remove t i) j ≡ leaf_at 0 t j)
unfolding remove
remove_elsewhere t i j it jt ne h =
    let w = width-put 0 t i None in
    let same : leaf_at 0 (put 0 t i None) j ≡ leaf_at 0 t j = leaf_at-put 0 t i None j (omega arith) (omega arith) (omega arith) (omega arith) ∙ cond-false _ _ _ (ne_eqb j i ne) in
    let kept = trim_keeps 0 (put 0 t i None) j (omega arith) (omega arith) (ap is_some same ∙ h) in
    (omega arith, leaf_at-trim 0 (put 0 t i None) j kept ∙ same)
