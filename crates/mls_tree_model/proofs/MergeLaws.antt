-- A merged path: its head, and what holds of each parent.
use Rattle.std.proofs.Common.{◌≡◌, ℕ, ◌+◌, ◌*◌, ◌<◌, ◌≤◌, ◌==◌, nat_lt, Bool, true, false, not, ◌&&◌, ◌||◌, cond, List, [], ◌∷◌, ◌++◌, length, filter, Option, Some, None, refl, sym, ◌∙◌, ap, arith, inl, inr, eqb-true, eq-eqb, ne_eqb, lt-ltb, le-ltb}
use Rattle.std.proofs.lemmas.Bool.{true≢false, and_from, and_left, and_right, or_left, or_right, cond-true, cond-false, cond_both, cases_lt, cases_Bool, not-false}
use Rattle.mls_leaf.specs.Parent.{Parent, rises_from}
use Rattle.mls_leaf.specs.declared.leaf.LeafNode.{LeafNode}
use Rattle.mls_tree_model.proofs.Equations.{merge_left, merge_right, path_hash_left, path_hash_right, path_length_left, path_length_right}
use Rattle.mls_tree_model.specs.Node.{source_hash}
use Rattle.mls_tree_model.specs.Term.{Term, Leaf, Branch, width, size}
use Rattle.mls_tree_model.specs.Sets.{has, within, leaf_numbers, is_same_set, same_bytes}
use Rattle.mls_tree_model.specs.Resolution.{resolution}
use Rattle.mls_tree_model.specs.Lists.{parent_passes, all_parents, lists_here, rises_here}
use Rattle.mls_tree_model.specs.Hashes.{parent_hash, hash_at, is_some_bytes, is_witness, has_witness, is_parent_hash_valid}
use Rattle.mls_tree_model.specs.Resolution.{is_empty, is_reached}
use Rattle.mls_tree_model.specs.Merge.{new_parent, keys_below, hash_below, merge, path_hash}
use Rattle.mls_tree_model.proofs.SetLaws.{any_from, has-filter, set_from, eqb_refl}
use Rattle.mls_tree_model.proofs.ParentLaws.{parents_parts, parents_from}
use Rattle.mls_tree_model.proofs.ShapeLaws.{size-width}
use Rattle.mls_tree_model.specs.Laws.{HasHead, IsPath}

empty_is : (xs : List ℕ) → is_empty xs ≡ true → xs ≡ []
empty_is [] e = refl
empty_is (x ∷ xs) e = absurd (true≢false (sym e))

head_blank_left : (b : ℕ) (l r : Term) (h : List ℕ) → is_empty (resolution (b + width l) r) ≡ true → HasHead b l h → HasHead b (Branch None l r) h
unfolding resolution hash_at size
head_blank_left b l r h e f =
    let low = f.low in
    let high = f.high in
    record {
      node = f.node;
      is_all = ap (λ xs. xs ++ resolution (b + width l) r) f.is_all ∙ ap (λ xs. f.node ∷ xs) (empty_is (resolution (b + width l) r) e);
      is_hash = cond-false _ _ _ (ne_eqb f.node (2 * b + size l) (λ k. absurd (omega arith))) ∙ cond-true _ _ _ (lt-ltb f.node (2 * b + size l) high) ∙ f.is_hash;
      low = low;
      high = omega arith;
    }

head_blank_right : (b : ℕ) (l r : Term) (h : List ℕ) → size l + 1 ≡ 2 * width l → is_empty (resolution b l) ≡ true → HasHead (b + width l) r h → HasHead b (Branch None l r) h
unfolding resolution hash_at size
head_blank_right b l r h s e f =
    let low = f.low in
    let high = f.high in
    record {
      node = f.node;
      is_all = ap (λ xs. xs ++ resolution (b + width l) r) (empty_is (resolution b l) e) ∙ f.is_all;
      is_hash = cond-false _ _ _ (ne_eqb f.node (2 * b + size l) (λ k. absurd (omega arith))) ∙ cond-false _ _ _ (le-ltb f.node (2 * b + size l) (omega arith)) ∙ f.is_hash;
      low = omega arith;
      high = omega arith;
    }

head_parent : (b : ℕ) (p : Parent) (l r : Term) → p.unmerged_leaves ≡ [] → HasHead b (Branch (Some p) l r) p.parent_hash
unfolding resolution hash_at size
head_parent b p l r e =
    record {
      node = 2 * b + size l;
      is_all = ap (λ us. (2 * b + size l) ∷ leaf_numbers us) e;
      is_hash = cond-true _ _ _ (eqb_refl (2 * b + size l));
      low = omega arith;
      high = omega arith;
    }

length-below : (f : Bool) (ks : List (List ℕ)) (n : ℕ) → length ks ≡ cond f 1 0 + n → length (keys_below f ks) ≡ n
length-below false ks n e = omega arith
length-below true [] n e = absurd (omega arith)
length-below true (key ∷ ks) n e = omega arith

-- a path goes on as a path, down each side
module _ (b : ℕ) (c : Option Parent) (l r : Term) (i : ℕ) (ks : List (List ℕ)) (h : List ℕ) (x : LeafNode) (path : IsPath b (Branch c l r) i ks h x) where
  path_left : i < b + width l → IsPath b l i (keys_below (is_reached (b + width l) r) ks) (hash_below (new_parent (is_reached (b + width l) r) ks h) (b + width l) r h) x
  path_left lt =
      record {
        keys = length-below (is_reached (b + width l) r) ks _ (path.keys ∙ path_length_left b c l r i lt);
        hash = path.hash ∙ ap Some (path_hash_left b c l r i ks h lt);
      }

  path_right : b + width l ≤ i → IsPath (b + width l) r i (keys_below (is_reached b l) ks) (hash_below (new_parent (is_reached b l) ks h) b l h) x
  path_right ge =
      record {
        keys = length-below (is_reached b l) ks _ (path.keys ∙ path_length_right b c l r i ge);
        hash = path.hash ∙ ap Some (path_hash_right b c l r i ks h ge);
      }

pub width-merge : (b : ℕ) (t : Term) (i : ℕ) (ks : List (List ℕ)) (h : List ℕ) (x : LeafNode) → width (merge b t i ks h x) ≡ width t
unfolding width merge
width-merge b (Leaf v) i ks h x = refl
width-merge b (Branch c l r) i ks h x =
    cond_both (nat_lt i (b + width l)) _ _ (λ t. width t ≡ width l + width r)
    (λ _. ap (λ n. n + width r) (width-merge b l i _ _ x))
    (λ _. ap (λ n. width l + n) (width-merge (b + width l) r i _ _ x))

head_left : (b m : ℕ) (l r : Term) (f : Bool) (ks : List (List ℕ)) (h : List ℕ) (n : ℕ) → m ≡ b + width l → is_reached m r ≡ f → length ks ≡ cond f 1 0 + n → HasHead b l (hash_below (new_parent f ks h) m r h) → HasHead b (Branch (new_parent f ks h) l r) h
head_left b m l r false ks h n at e le g = head_blank_left b l r h (ap (λ j. is_empty (resolution j r)) (sym at) ∙ not-false _ e) g
head_left b m l r true [] h n at e le g = absurd (omega arith)
head_left b m l r true (key ∷ ks) h n at e le g =
    let p : Parent = record { encryption_key = key; parent_hash = h; unmerged_leaves = [] } in head_parent b p l r refl

head_right : (b : ℕ) (l r : Term) (f : Bool) (ks : List (List ℕ)) (h : List ℕ) (n : ℕ) → is_reached b l ≡ f → length ks ≡ cond f 1 0 + n → HasHead (b + width l) r (hash_below (new_parent f ks h) b l h) → HasHead b (Branch (new_parent f ks h) l r) h
head_right b l r false ks h n e le g = head_blank_right b l r h (size-width l) (not-false _ e) g
head_right b l r true [] h n e le g = absurd (omega arith)
head_right b l r true (key ∷ ks) h n e le g =
    let p : Parent = record { encryption_key = key; parent_hash = h; unmerged_leaves = [] } in head_parent b p l r refl

head_leaf : (b : ℕ) (v : Option LeafNode) (i : ℕ) (ks : List (List ℕ)) (h : List ℕ) (x : LeafNode) → source_hash x.source ≡ Some (path_hash b (Leaf v) i ks h) → HasHead b (merge b (Leaf v) i ks h x) h
unfolding merge path_hash resolution hash_at size
head_leaf b v i ks h x e =
    record {
      node = 2 * b;
      is_all = refl;
      is_hash = cond-true _ _ _ (eqb_refl (2 * b)) ∙ e;
      low = omega arith;
      high = omega arith;
    }

-- a merged tree is reached by one node, which has the parent hash that was handed down
pub merge_head : (b : ℕ) (t : Term) (i : ℕ) (ks : List (List ℕ)) (h : List ℕ) (x : LeafNode) → IsPath b t i ks h x → HasHead b (merge b t i ks h x) h
merge_head b (Leaf v) i ks h x path = head_leaf b v i ks h x path.hash
merge_head b (Branch c l r) i ks h x path =
    elim (cases_lt i (b + width l)) [
      | inl lt ↦
          let f = is_reached (b + width l) r in
          let g = merge_head b l i _ _ x (path_left b c l r i ks h x path lt) in
          rw (merge_left b c l r i ks h x lt) (head_left b (b + width l) _ r f ks h _ (ap (λ w. b + w) (sym (width-merge b l i _ _ x))) refl (path.keys ∙ path_length_left b c l r i lt) g)
      | inr ge ↦
          let f = is_reached b l in
          let g = merge_head (b + width l) r i _ _ x (path_right b c l r i ks h x path ge) in
          rw (merge_right b c l r i ks h x ge) (head_right b l _ f ks h _ refl (path.keys ∙ path_length_right b c l r i ge) g)
    ]

pub bytes_refl : (xs : List ℕ) → same_bytes xs xs ≡ true
unfolding same_bytes
bytes_refl [] = refl
bytes_refl (x ∷ xs) = and_from (x == x) _ (eqb_refl x) (bytes_refl xs)

-- a parent with an empty list is parent-hash valid by a side with such a head
witness_head : (p : Parent) (b : ℕ) (c : Term) (m : ℕ) (s : Term) → p.unmerged_leaves ≡ [] → HasHead b c (parent_hash p m s) → has_witness p b c m s ≡ true
unfolding has_witness is_witness has
witness_head p b c m s e g =
    let d = g.node in
    let in_it : has (resolution b c) d ≡ true = ap (λ xs. has xs d) g.is_all ∙ or_left (d == d) false (eqb_refl d) in
    let first : is_some_bytes (hash_at b c d) (parent_hash p m s) ≡ true = ap (λ o. is_some_bytes o (parent_hash p m s)) g.is_hash ∙ bytes_refl (parent_hash p m s) in
    let second : is_same_set (leaf_numbers (within b (width c) p.unmerged_leaves)) (filter (λ y. not (y == d)) (resolution b c)) ≡ true =
    set_from (leaf_numbers (within b (width c) p.unmerged_leaves)) (filter (λ y. not (y == d)) (resolution b c)) (λ z.
    ap (λ us. has (leaf_numbers (within b (width c) us)) z) e
    ∙ sym (has-filter (λ y. not (y == d)) (resolution b c) z
    ∙ ap (λ xs. has xs z && not (z == d)) g.is_all
    ∙ alone d z)) in
    any_from (is_witness p b c m s) (resolution b c) d in_it (and_from _ _ first second)
  where
    alone : (d z : ℕ) → (((d == z) || false) && not (z == d)) ≡ false
    alone d z = elim (cases_Bool (d == z)) [
      | inl t ↦ and_right ((d == z) || false) _ (ap not (eq-eqb z d (sym (eqb-true d z t))))
      | inr t ↦ and_left _ (not (z == d)) (ap (λ v. v || false) t)
    ]

valid_down_left : (b m : ℕ) (l r : Term) (f : Bool) (ks : List (List ℕ)) (h : List ℕ) → m ≡ b + width l → HasHead b l (hash_below (new_parent f ks h) m r h) → parent_passes is_parent_hash_valid b (new_parent f ks h) l r ≡ true
unfolding is_parent_hash_valid
valid_down_left b m l r false ks h at g = refl
valid_down_left b m l r true [] h at g = refl
valid_down_left b m l r true (key ∷ ks) h at g =
    let p : Parent = record { encryption_key = key; parent_hash = h; unmerged_leaves = [] } in
    or_left (has_witness p b l (b + width l) r) _ (ap (λ n. has_witness p b l n r) (sym at) ∙ witness_head p b l m r refl g)

valid_down_right : (b : ℕ) (l r : Term) (f : Bool) (ks : List (List ℕ)) (h : List ℕ) → HasHead (b + width l) r (hash_below (new_parent f ks h) b l h) → parent_passes is_parent_hash_valid b (new_parent f ks h) l r ≡ true
unfolding is_parent_hash_valid
valid_down_right b l r false ks h g = refl
valid_down_right b l r true [] h g = refl
valid_down_right b l r true (key ∷ ks) h g =
    let p : Parent = record { encryption_key = key; parent_hash = h; unmerged_leaves = [] } in
    or_right (has_witness p b l (b + width l) r) _ (witness_head p (b + width l) r b l refl g)

merge_of_leaf : (q : ℕ → Parent → Term → Term → Bool) (b : ℕ) (v : Option LeafNode) (i : ℕ) (ks : List (List ℕ)) (h : List ℕ) (x : LeafNode) → all_parents q b (merge b (Leaf v) i ks h x) ≡ true
unfolding merge all_parents
merge_of_leaf q b v i ks h x = refl

-- a merge keeps every parent hash valid, where the new leaf has the path's
pub valid-merge : (b : ℕ) (t : Term) (i : ℕ) (ks : List (List ℕ)) (h : List ℕ) (x : LeafNode) → IsPath b t i ks h x → all_parents is_parent_hash_valid b t ≡ true → all_parents is_parent_hash_valid b (merge b t i ks h x) ≡ true
valid-merge b (Leaf v) i ks h x path a = merge_of_leaf is_parent_hash_valid b v i ks h x
valid-merge b (Branch c l r) i ks h x path a =
    let p = parents_parts is_parent_hash_valid b c l r a in
    elim (cases_lt i (b + width l)) [
      | inl lt ↦
          let on = path_left b c l r i ks h x path lt in
          let at = ap (λ w. b + w) (sym (width-merge b l i _ _ x)) in
          rw (merge_left b c l r i ks h x lt) (parents_from is_parent_hash_valid b (b + width l) _ _ r (valid_down_left b (b + width l) _ r (is_reached (b + width l) r) ks h at (merge_head b l i _ _ x on)) (valid-merge b l i _ _ x on p.1) at p.2)
      | inr ge ↦
          let on = path_right b c l r i ks h x path ge in
          rw (merge_right b c l r i ks h x ge) (parents_from is_parent_hash_valid b (b + width l) _ l _ (valid_down_right b l _ (is_reached b l) ks h (merge_head (b + width l) r i _ _ x on)) p.1 refl (valid-merge (b + width l) r i _ _ x on p.2))
    ]

-- a merge keeps what holds of every parent with an empty list
module _ (q : ℕ → Parent → Term → Term → Bool) (free : (b : ℕ) (p : Parent) (l r : Term) → p.unmerged_leaves ≡ [] → q b p l r ≡ true) where
  asked_new : (b : ℕ) (l r : Term) (f : Bool) (ks : List (List ℕ)) (h : List ℕ) → parent_passes q b (new_parent f ks h) l r ≡ true
  asked_new b l r false ks h = refl
  asked_new b l r true [] h = refl
  asked_new b l r true (key ∷ ks) h = let p : Parent = record { encryption_key = key; parent_hash = h; unmerged_leaves = [] } in free b p l r refl

  pub free-merge : (b : ℕ) (t : Term) (i : ℕ) (ks : List (List ℕ)) (h : List ℕ) (x : LeafNode) → all_parents q b t ≡ true → all_parents q b (merge b t i ks h x) ≡ true
  free-merge b (Leaf v) i ks h x a = merge_of_leaf q b v i ks h x
  free-merge b (Branch c l r) i ks h x a =
      let p = parents_parts q b c l r a in
      elim (cases_lt i (b + width l)) [
        | inl lt ↦ rw (merge_left b c l r i ks h x lt) (parents_from q b (b + width l) _ _ r (asked_new b _ r (is_reached (b + width l) r) ks h) (free-merge b l i _ _ x p.1) (ap (λ w. b + w) (sym (width-merge b l i _ _ x))) p.2)
        | inr ge ↦ rw (merge_right b c l r i ks h x ge) (parents_from q b (b + width l) _ l _ (asked_new b l _ (is_reached b l) ks h) p.1 refl (free-merge (b + width l) r i _ _ x p.2))
      ]

pub lists-merge : (b : ℕ) (t : Term) (i : ℕ) (ks : List (List ℕ)) (h : List ℕ) (x : LeafNode) → all_parents lists_here b t ≡ true → all_parents lists_here b (merge b t i ks h x) ≡ true
unfolding lists_here
lists-merge = free-merge lists_here (λ b p l r e. rw e refl)

pub rises-merge : (b : ℕ) (t : Term) (i : ℕ) (ks : List (List ℕ)) (h : List ℕ) (x : LeafNode) → all_parents rises_here b t ≡ true → all_parents rises_here b (merge b t i ks h x) ≡ true
unfolding rises_here rises_from
rises-merge = free-merge rises_here (λ b p l r e. rw e refl)
