-- What each definition gives in each case.
use Rattle.std.specs.Prelude.{◌≡◌, ℕ, suc, ◌+◌, ◌*◌, ◌<◌, ◌≤◌, Bool, true, false, ◌&&◌, ◌||◌, cond, if◌then◌else◌, List, [], ◌∷◌, ◌++◌, map, filter, reverse, length, Option, Some, None, is_some}
use Rattle.std.proofs.Common.{append-nil, refl, sym, ◌∙◌, ap, arith, lt-ltb, le-ltb, eq-eqb, ne_eqb}
use Rattle.std.proofs.lemmas.Bool.{cond-true, cond-false}
use Rattle.std.proofs.lemmas.List.{reverse-append}
use Rattle.mls_leaf.specs.Parent.{Parent}
use Rattle.mls_leaf.specs.declared.leaf.LeafNode.{LeafNode}
use Rattle.mls_tree_model.specs.Inputs.{leaf_hash, branch_hash}
use Rattle.mls_tree_model.specs.Sets.{has, leaf_numbers}
use Rattle.mls_tree_model.specs.Term.{Term, Leaf, Branch, width, size, height, blanks, has_leaf, is_full_width, leaf_at, leaf_of}
use Rattle.mls_tree_model.specs.Resolution.{resolution, is_reached}
use Rattle.mls_tree_model.specs.Way.{Step, step_at, way, is_filtered, filtered_way, filtered_path, path_length, target_count, ciphertext_counts}
use Rattle.mls_tree_model.specs.Places.{at_node}
use Rattle.mls_tree_model.specs.Edits.{put, enter, list_leaf, grow, trim, or_else, first_blank, place_in, room_for, add, update, remove}
use Rattle.mls_tree_model.specs.Lists.{parent_passes, all_parents}
use Rattle.mls_tree_model.specs.FirstParents.{first_parent}
use Rattle.mls_tree_model.specs.Hashes.{tree_hash, unlist_leaves, original_tree}
use Rattle.mls_tree_model.specs.Merge.{new_parent, keys_below, hash_below, merge, path_hash}
use Rattle.mls_tree_model.specs.Keys.{gather, members, passes, all_members}

-- ---- of a leaf

module _ (b : ℕ) (v : Option LeafNode) where
  pub leaf_at_leaf : (i : ℕ) → leaf_at b (Leaf v) i ≡ v
  unfolding leaf_at
  leaf_at_leaf i = refl

  pub tree_hash_leaf : tree_hash b (Leaf v) ≡ leaf_hash b v
  unfolding tree_hash
  tree_hash_leaf = refl

  pub put_leaf : (i : ℕ) (x : Option LeafNode) → put b (Leaf v) i x ≡ Leaf x
  unfolding put
  put_leaf i x = refl

  pub enter_leaf : (i : ℕ) (x : LeafNode) → enter b (Leaf v) i x ≡ Leaf (Some x)
  unfolding enter
  enter_leaf i x = refl

  pub merge_leaf : (i : ℕ) (ks : List (List ℕ)) (h : List ℕ) (x : LeafNode) → merge b (Leaf v) i ks h x ≡ Leaf (Some x)
  unfolding merge
  merge_leaf i ks h x = refl

  pub path_hash_leaf : (i : ℕ) (ks : List (List ℕ)) (h : List ℕ) → path_hash b (Leaf v) i ks h ≡ h
  unfolding path_hash
  path_hash_leaf i ks h = refl

  pub way_leaf : (i : ℕ) → way b (Leaf v) i ≡ []
  unfolding way
  way_leaf i = refl

  pub filtered_path_leaf : (i : ℕ) → filtered_path b (Leaf v) i ≡ []
  unfolding filtered_path filtered_way way
  filtered_path_leaf i = refl

  pub ciphertext_counts_leaf : (i : ℕ) (added : List ℕ) → ciphertext_counts b (Leaf v) i added ≡ []
  unfolding ciphertext_counts filtered_way way
  ciphertext_counts_leaf i added = refl

  pub path_length_leaf : (i : ℕ) → path_length b (Leaf v) i ≡ 0
  unfolding path_length filtered_way way
  path_length_leaf i = refl

  pub original_leaf : (us : List ℕ) → original_tree us b (Leaf v) ≡ Leaf (if has us b then None else v)
  unfolding original_tree
  original_leaf us = refl

  pub all_parents_leaf : (q : ℕ → Parent → Term → Term → Bool) → all_parents q b (Leaf v) ≡ true
  unfolding all_parents
  all_parents_leaf q = refl

  pub first_parent_leaf : (q : ℕ → Parent → Term → Term → Bool) → first_parent q b (Leaf v) ≡ None
  unfolding first_parent
  first_parent_leaf q = refl

  pub at_node_leaf : {A : Type 0} (none : A) (f : ℕ → Term → A) (n : ℕ) → n ≡ 2 * b → at_node none f b (Leaf v) n ≡ f b (Leaf v)
  unfolding at_node
  at_node_leaf none f n e = cond-true _ _ _ (eq-eqb n (2 * b) e)

  pub at_node_no_leaf : {A : Type 0} (none : A) (f : ℕ → Term → A) (n : ℕ) → (n ≡ 2 * b → ⊥) → at_node none f b (Leaf v) n ≡ none
  unfolding at_node
  at_node_no_leaf none f n e = cond-false _ _ _ (ne_eqb n (2 * b) e)

pub width_leaf : (v : Option LeafNode) → width (Leaf v) ≡ 1
unfolding width
width_leaf v = refl

pub size_leaf : (v : Option LeafNode) → size (Leaf v) ≡ 1
unfolding size
size_leaf v = refl

pub height_leaf : (v : Option LeafNode) → height (Leaf v) ≡ 0
unfolding height
height_leaf v = refl

pub has_leaf_leaf : (v : Option LeafNode) → has_leaf (Leaf v) ≡ is_some v
unfolding has_leaf
has_leaf_leaf v = refl

pub is_full_width_leaf : (v : Option LeafNode) → is_full_width (Leaf v) ≡ is_some v
unfolding is_full_width
is_full_width_leaf v = refl

pub trim_leaf : (v : Option LeafNode) → trim (Leaf v) ≡ Leaf v
unfolding trim
trim_leaf v = refl

pub gather_leaf : (f : Option LeafNode → List (List ℕ)) (g : Option Parent → List (List ℕ)) (v : Option LeafNode) → gather f g (Leaf v) ≡ f v
unfolding gather
gather_leaf f g v = refl

pub resolution_blank_leaf : (b : ℕ) → resolution b (Leaf None) ≡ []
unfolding resolution
resolution_blank_leaf b = refl

pub resolution_leaf : (b : ℕ) (x : LeafNode) → resolution b (Leaf (Some x)) ≡ 2 * b ∷ []
unfolding resolution
resolution_leaf b x = refl

pub first_blank_blank_leaf : (b : ℕ) → first_blank b (Leaf None) ≡ Some b
unfolding first_blank
first_blank_blank_leaf b = refl

pub first_blank_leaf : (b : ℕ) (x : LeafNode) → first_blank b (Leaf (Some x)) ≡ None
unfolding first_blank
first_blank_leaf b x = refl

pub members_blank_leaf : (b : ℕ) → members b (Leaf None) ≡ []
unfolding members
members_blank_leaf b = refl

pub members_leaf : (b : ℕ) (x : LeafNode) → members b (Leaf (Some x)) ≡ (b, x) ∷ []
unfolding members
members_leaf b x = refl

pub all_members_leaf : (p : ℕ → LeafNode → Bool) (b : ℕ) (v : Option LeafNode) → all_members p b (Leaf v) ≡ passes p b v
unfolding all_members
all_members_leaf p b None = refl
all_members_leaf p b (Some v) = refl

-- ---- of a branch

module _ (c : Option Parent) (l r : Term) where
  pub width_branch : width (Branch c l r) ≡ width l + width r
  unfolding width
  width_branch = refl

  pub size_branch : size (Branch c l r) ≡ size l + suc (size r)
  unfolding size
  size_branch = refl

  pub height_branch : height (Branch c l r) ≡ suc (height l)
  unfolding height
  height_branch = refl

  pub has_leaf_branch : has_leaf (Branch c l r) ≡ (has_leaf l || has_leaf r)
  unfolding has_leaf
  has_leaf_branch = refl

  pub is_full_width_branch : is_full_width (Branch c l r) ≡ has_leaf r
  unfolding is_full_width
  is_full_width_branch = refl

  pub trim_full : has_leaf r ≡ true → trim (Branch c l r) ≡ Branch c l r
  unfolding trim
  trim_full e = cond-true _ _ _ e

  pub trim_empty : has_leaf r ≡ false → trim (Branch c l r) ≡ trim l
  unfolding trim
  trim_empty e = cond-false _ _ _ e

  pub gather_branch : (f : Option LeafNode → List (List ℕ)) (g : Option Parent → List (List ℕ)) → gather f g (Branch c l r) ≡ gather f g l ++ (g c ++ gather f g r)
  unfolding gather
  gather_branch f g = refl

module _ (b : ℕ) (c : Option Parent) (l r : Term) where
  pub tree_hash_branch : tree_hash b (Branch c l r) ≡ branch_hash c (tree_hash b l) (tree_hash (b + width l) r)
  unfolding tree_hash
  tree_hash_branch = refl

  pub original_branch : (us : List ℕ) → original_tree us b (Branch c l r) ≡ Branch (unlist_leaves us c) (original_tree us b l) (original_tree us (b + width l) r)
  unfolding original_tree
  original_branch us = refl

  pub first_blank_branch : first_blank b (Branch c l r) ≡ or_else (first_blank b l) (first_blank (b + width l) r)
  unfolding first_blank
  first_blank_branch = refl

  pub members_branch : members b (Branch c l r) ≡ members b l ++ members (b + width l) r
  unfolding members
  members_branch = refl

  pub all_members_branch : (p : ℕ → LeafNode → Bool) → all_members p b (Branch c l r) ≡ (all_members p b l && all_members p (b + width l) r)
  unfolding all_members
  all_members_branch p = refl

  pub all_parents_branch : (q : ℕ → Parent → Term → Term → Bool) → all_parents q b (Branch c l r) ≡ (parent_passes q b c l r && (all_parents q b l && all_parents q (b + width l) r))
  unfolding all_parents
  all_parents_branch q = refl

  pub first_parent_branch : (q : ℕ → Parent → Term → Term → Bool) → first_parent q b (Branch c l r) ≡ or_else (first_parent q b l) (or_else (first_parent q (b + width l) r) (if parent_passes q b c l r then None else Some (2 * b + size l)))
  unfolding first_parent
  first_parent_branch q = refl

pub resolution_parent : (b : ℕ) (p : Parent) (l r : Term) → resolution b (Branch (Some p) l r) ≡ (2 * b + size l) ∷ leaf_numbers p.unmerged_leaves
unfolding resolution
resolution_parent b p l r = refl

pub resolution_blank : (b : ℕ) (l r : Term) → resolution b (Branch None l r) ≡ resolution b l ++ resolution (b + width l) r
unfolding resolution
resolution_blank b l r = refl

-- ---- of the side that a walk to leaf i takes

module _ (b : ℕ) (c : Option Parent) (l r : Term) (i : ℕ) where
  pub leaf_at_left : i < b + width l → leaf_at b (Branch c l r) i ≡ leaf_at b l i
  unfolding leaf_at
  leaf_at_left h = cond-true _ _ _ (lt-ltb i (b + width l) h)

  pub leaf_at_right : b + width l ≤ i → leaf_at b (Branch c l r) i ≡ leaf_at (b + width l) r i
  unfolding leaf_at
  leaf_at_right h = cond-false _ _ _ (le-ltb i (b + width l) h)

  pub put_left : (x : Option LeafNode) → i < b + width l → put b (Branch c l r) i x ≡ Branch None (put b l i x) r
  unfolding put
  put_left x h = cond-true _ _ _ (lt-ltb i (b + width l) h)

  pub put_right : (x : Option LeafNode) → b + width l ≤ i → put b (Branch c l r) i x ≡ Branch None l (put (b + width l) r i x)
  unfolding put
  put_right x h = cond-false _ _ _ (le-ltb i (b + width l) h)

  pub enter_left : (x : LeafNode) → i < b + width l → enter b (Branch c l r) i x ≡ Branch (list_leaf i c) (enter b l i x) r
  unfolding enter
  enter_left x h = cond-true _ _ _ (lt-ltb i (b + width l) h)

  pub enter_right : (x : LeafNode) → b + width l ≤ i → enter b (Branch c l r) i x ≡ Branch (list_leaf i c) l (enter (b + width l) r i x)
  unfolding enter
  enter_right x h = cond-false _ _ _ (le-ltb i (b + width l) h)

  pub way_left : i < b + width l → way b (Branch c l r) i ≡ step_at c (2 * b + size l) (b + width l) r ∷ way b l i
  unfolding way
  way_left h = cond-true _ _ _ (lt-ltb i (b + width l) h)

  pub way_right : b + width l ≤ i → way b (Branch c l r) i ≡ step_at c (2 * b + size l) b l ∷ way (b + width l) r i
  unfolding way
  way_right h = cond-false _ _ _ (le-ltb i (b + width l) h)

-- one more filtered parent at the top of a way
filtered_more : {A : Type 0} (g : Step → A) (s : Step) (f : Bool) (ss : List Step) → is_filtered s ≡ f → reverse (map g (filter is_filtered (s ∷ ss))) ≡ reverse (map g (filter is_filtered ss)) ++ (if f then g s ∷ [] else [])
filtered_more g s true ss e = rw e (reverse-append (g s ∷ []) (map g (filter is_filtered ss)))
filtered_more g s false ss e = rw e (sym (append-nil (reverse (map g (filter is_filtered ss)))))

longer_by : (s : Step) (f : Bool) (ss : List Step) → is_filtered s ≡ f → length (filter is_filtered (s ∷ ss)) ≡ cond f 1 0 + length (filter is_filtered ss)
longer_by s true ss e = rw e (omega arith)
longer_by s false ss e = rw e (omega arith)

module _ (b : ℕ) (c : Option Parent) (l r : Term) (i : ℕ) where
  pub filtered_path_left : i < b + width l → filtered_path b (Branch c l r) i ≡ filtered_path b l i ++ (if is_reached (b + width l) r then (2 * b + size l) ∷ [] else [])
  unfolding filtered_path filtered_way
  filtered_path_left h = ap (λ ss. reverse (map (λ s. s.node) (filter is_filtered ss))) (way_left b c l r i h) ∙ filtered_more (λ (s : Step). s.node) (step_at c (2 * b + size l) (b + width l) r) (is_reached (b + width l) r) (way b l i) refl

  pub filtered_path_right : b + width l ≤ i → filtered_path b (Branch c l r) i ≡ filtered_path (b + width l) r i ++ (if is_reached b l then (2 * b + size l) ∷ [] else [])
  unfolding filtered_path filtered_way
  filtered_path_right h = ap (λ ss. reverse (map (λ s. s.node) (filter is_filtered ss))) (way_right b c l r i h) ∙ filtered_more (λ (s : Step). s.node) (step_at c (2 * b + size l) b l) (is_reached b l) (way (b + width l) r i) refl

  pub ciphertext_counts_left : (added : List ℕ) → i < b + width l → ciphertext_counts b (Branch c l r) i added ≡ ciphertext_counts b l i added ++ (if is_reached (b + width l) r then target_count added (b + width l) r ∷ [] else [])
  unfolding ciphertext_counts filtered_way
  ciphertext_counts_left added h = ap (λ ss. reverse (map (λ (s : Step). target_count added s.first s.other) (filter is_filtered ss))) (way_left b c l r i h) ∙ filtered_more (λ (s : Step). target_count added s.first s.other) (step_at c (2 * b + size l) (b + width l) r) (is_reached (b + width l) r) (way b l i) refl

  pub ciphertext_counts_right : (added : List ℕ) → b + width l ≤ i → ciphertext_counts b (Branch c l r) i added ≡ ciphertext_counts (b + width l) r i added ++ (if is_reached b l then target_count added b l ∷ [] else [])
  unfolding ciphertext_counts filtered_way
  ciphertext_counts_right added h = ap (λ ss. reverse (map (λ (s : Step). target_count added s.first s.other) (filter is_filtered ss))) (way_right b c l r i h) ∙ filtered_more (λ (s : Step). target_count added s.first s.other) (step_at c (2 * b + size l) b l) (is_reached b l) (way (b + width l) r i) refl

  pub path_length_left : i < b + width l → path_length b (Branch c l r) i ≡ cond (is_reached (b + width l) r) 1 0 + path_length b l i
  unfolding path_length filtered_way
  path_length_left h = ap (λ ss. length (filter is_filtered ss)) (way_left b c l r i h) ∙ longer_by (step_at c (2 * b + size l) (b + width l) r) (is_reached (b + width l) r) (way b l i) refl

  pub path_length_right : b + width l ≤ i → path_length b (Branch c l r) i ≡ cond (is_reached b l) 1 0 + path_length (b + width l) r i
  unfolding path_length filtered_way
  path_length_right h = ap (λ ss. length (filter is_filtered ss)) (way_right b c l r i h) ∙ longer_by (step_at c (2 * b + size l) b l) (is_reached b l) (way (b + width l) r i) refl

module _ (b : ℕ) (c : Option Parent) (l r : Term) (i : ℕ) (ks : List (List ℕ)) (h : List ℕ) where
  pub merge_left : (x : LeafNode) → i < b + width l → merge b (Branch c l r) i ks h x ≡ Branch (new_parent (is_reached (b + width l) r) ks h) (merge b l i (keys_below (is_reached (b + width l) r) ks) (hash_below (new_parent (is_reached (b + width l) r) ks h) (b + width l) r h) x) r
  unfolding merge
  merge_left x lt = cond-true _ _ _ (lt-ltb i (b + width l) lt)

  pub merge_right : (x : LeafNode) → b + width l ≤ i → merge b (Branch c l r) i ks h x ≡ Branch (new_parent (is_reached b l) ks h) l (merge (b + width l) r i (keys_below (is_reached b l) ks) (hash_below (new_parent (is_reached b l) ks h) b l h) x)
  unfolding merge
  merge_right x ge = cond-false _ _ _ (le-ltb i (b + width l) ge)

  pub path_hash_left : i < b + width l → path_hash b (Branch c l r) i ks h ≡ path_hash b l i (keys_below (is_reached (b + width l) r) ks) (hash_below (new_parent (is_reached (b + width l) r) ks h) (b + width l) r h)
  unfolding path_hash
  path_hash_left lt = cond-true _ _ _ (lt-ltb i (b + width l) lt)

  pub path_hash_right : b + width l ≤ i → path_hash b (Branch c l r) i ks h ≡ path_hash (b + width l) r i (keys_below (is_reached b l) ks) (hash_below (new_parent (is_reached b l) ks h) b l h)
  unfolding path_hash
  path_hash_right ge = cond-false _ _ _ (le-ltb i (b + width l) ge)

-- ---- of the side that has node n

module _ {A : Type 0} (none : A) (f : ℕ → Term → A) (b : ℕ) (c : Option Parent) (l r : Term) (n : ℕ) where
  pub at_node_here : n ≡ 2 * b + size l → at_node none f b (Branch c l r) n ≡ f b (Branch c l r)
  unfolding at_node
  at_node_here e = cond-true _ _ _ (eq-eqb n (2 * b + size l) e)

  pub at_node_left : n < 2 * b + size l → at_node none f b (Branch c l r) n ≡ at_node none f b l n
  unfolding at_node
  at_node_left lt = cond-false _ _ _ (ne_eqb n (2 * b + size l) (λ e. absurd (omega arith))) ∙ cond-true _ _ _ (lt-ltb n (2 * b + size l) lt)

  pub at_node_right : 2 * b + size l < n → at_node none f b (Branch c l r) n ≡ at_node none f (b + width l) r n
  unfolding at_node
  at_node_right lt = cond-false _ _ _ (ne_eqb n (2 * b + size l) (λ e. absurd (omega arith))) ∙ cond-false _ _ _ (le-ltb n (2 * b + size l) (omega arith))

-- ---- of whole trees

pub add_is : (t : Term) (x : LeafNode) → add t x ≡ enter 0 (room_for (first_blank 0 t) t) (place_in t) x
unfolding add
add_is t x = refl

pub update_is : (t : Term) (i : ℕ) (x : LeafNode) → update t i x ≡ put 0 t i (Some x)
unfolding update
update_is t i x = refl

pub remove_is : (t : Term) (i : ℕ) → remove t i ≡ trim (put 0 t i None)
unfolding remove
remove_is t i = refl

pub grow_is : (t : Term) → grow t ≡ Branch None t (blanks (height t))
unfolding grow
grow_is t = refl

pub leaf_of_in : (t : Term) (i : ℕ) → i < width t → leaf_of t i ≡ leaf_at 0 t i
unfolding leaf_of
leaf_of_in t i lt = cond-true _ _ _ (lt-ltb i (width t) lt)

pub leaf_of_out : (t : Term) (i : ℕ) → width t ≤ i → leaf_of t i ≡ None
unfolding leaf_of
leaf_of_out t i ge = cond-false _ _ _ (le-ltb i (width t) ge)
