-- Lists with no value twice, by counting; and how often a tree has a key.
use Rattle.std.proofs.Common.{◌≡◌, ℕ, zero, suc, ◌+◌, ◌*◌, ◌<◌, ◌≤◌, ◌==◌, nat_lt, nat_eq, Bool, true, false, cond, List, [], ◌∷◌, ◌++◌, Option, Some, None, refl, sym, ◌∙◌, ap, arith, inl, inr, eqb-true, eq-eqb, ne_eqb, leb, leb-true, lt-ltb, le-ltb}
use Rattle.std.proofs.lemmas.Bool.{true≢false, and_parts, and_from, or_parts, cond-true, cond-false, cond_both, cases_lt, cases_Bool, false_from_ne_true}
use Rattle.mls_leaf.specs.Parent.{Parent, rises_from}
use Rattle.mls_leaf.specs.declared.leaf.LeafNode.{LeafNode}
use Rattle.mls_tree_model.proofs.Equations.{enter_left, enter_right, leaf_at_left, leaf_at_right, merge_left, merge_right}
use Rattle.mls_tree_model.specs.Term.{Term, Leaf, Branch, width, size, height, blanks, has_leaf, leaf_at}
use Rattle.mls_tree_model.specs.Sets.{has, leaf_numbers, same_bytes, count, is_distinct}
use Rattle.mls_tree_model.specs.Resolution.{resolution}
use Rattle.mls_tree_model.specs.Edits.{put, enter, list_leaf, grow, trim}
use Rattle.mls_tree_model.specs.Lists.{all_parents, rises_here}
use Rattle.mls_tree_model.specs.Resolution.{is_reached}
use Rattle.mls_tree_model.specs.Merge.{new_parent, keys_below, hash_below, merge}
use Rattle.mls_tree_model.specs.Keys.{gather, parent_key}
use Rattle.mls_tree_model.proofs.SetLaws.{of_leaf_numbers, eqb_refl}
use Rattle.mls_tree_model.proofs.ShapeLaws.{size-width}
use Rattle.mls_tree_model.proofs.ParentLaws.{parents_parts}
use Rattle.mls_tree_model.proofs.ResolutionLaws.{resolution_range}
use Rattle.mls_tree_model.proofs.MergeLaws.{bytes_refl}
use Rattle.mls_tree_model.proofs.NamedLaws.{IsBound}

pub bytes_true : (xs ys : List ℕ) → same_bytes xs ys ≡ true → xs ≡ ys
unfolding same_bytes
bytes_true [] [] h = refl
bytes_true [] (y ∷ ys) h = absurd (true≢false (sym h))
bytes_true (x ∷ xs) [] h = absurd (true≢false (sym h))
bytes_true (x ∷ xs) (y ∷ ys) h =
    let p = and_parts (x == y) _ h in
    ap (λ z. z ∷ xs) (eqb-true x y p.0) ∙ ap (λ zs. y ∷ zs) (bytes_true xs ys p.1)

module _ {A : Type 0} (same : A → A → Bool) where
  pub count-append : (x : A) (xs ys : List A) → count same x (xs ++ ys) ≡ count same x xs + count same x ys
  unfolding count
  count-append x [] ys = omega arith
  count-append x (y ∷ xs) ys = let e = count-append x xs ys in omega arith

  pub distinct_at : ((a b : A) → same a b ≡ true → a ≡ b) → (xs : List A) → is_distinct same xs ≡ true → (x : A) → count same x xs ≤ 1
  unfolding count is_distinct
  distinct_at sound [] h x = omega arith
  distinct_at sound (y ∷ ys) h x =
      let p = and_parts (count same y ys == 0) _ h in
      let none : count same y ys ≡ 0 = eqb-true (count same y ys) 0 p.0 in
      let rest = distinct_at sound ys p.1 x in
      elim (cases_Bool (same y x)) [
        | inl k ↦ rw k (let e : count same x ys ≡ 0 = ap (λ z. count same z ys) (sym (sound y x k)) ∙ none in omega arith)
        | inr k ↦ rw k (omega arith)
      ]

  pub distinct_from : ((a : A) → same a a ≡ true) → (xs : List A) → ((x : A) → count same x xs ≤ 1) → is_distinct same xs ≡ true
  unfolding count is_distinct
  distinct_from alike [] h = refl
  distinct_from alike (y ∷ ys) h =
      let here = rw (alike y) at (h y) in
      and_from (count same y ys == 0) _
      (eq-eqb (count same y ys) 0 (omega arith))
      (distinct_from alike ys (λ x. let le = h x in omega arith))

-- no node stands twice in a resolution
pub count_none : (xs : List ℕ) (d : ℕ) → has xs d ≡ false → count nat_eq d xs ≡ 0
unfolding count has
count_none [] d h = refl
count_none (x ∷ xs) d h =
    let p = or_parts (x == d) _ h in
    let e : (x == d) ≡ false = p.0 in
    rw e (let rest = count_none xs d p.1 in omega arith)

count_below : (low : ℕ) (us : List ℕ) (d : ℕ) → rises_from low us ≡ true → d < 2 * low → count nat_eq d (leaf_numbers us) ≡ 0
unfolding count rises_from
count_below low [] d h lt = refl
count_below low (u ∷ us) d h lt =
    let p = and_parts (leb low u) _ h in
    let le : low ≤ u = leb-true low u p.0 in
    let e : (2 * u == d) ≡ false = ne_eqb (2 * u) d (λ k. absurd (omega arith)) in
    rw e (let rest = count_below (u + 1) us d p.1 (omega arith) in omega arith)

pub count_once : (low : ℕ) (us : List ℕ) (d : ℕ) → rises_from low us ≡ true → count nat_eq d (leaf_numbers us) ≤ 1
unfolding count rises_from
count_once low [] d h = omega arith
count_once low (u ∷ us) d h =
    let p = and_parts (leb low u) _ h in
    elim (cases_Bool (2 * u == d)) [
      | inl k ↦ rw k (
          let is : 2 * u ≡ d = eqb-true (2 * u) d k in
          let rest = count_below (u + 1) us d p.1 (omega arith) in omega arith)
      | inr k ↦ rw k (let rest = count_once (u + 1) us d p.1 in omega arith)
    ]

resolution_once : (test : ℕ → Parent → Term → Term → Bool) → IsBound test → (b : ℕ) (t : Term) (d : ℕ) → all_parents test b t ≡ true → all_parents rises_here b t ≡ true → count nat_eq d (resolution b t) ≤ 1
unfolding resolution count rises_here
resolution_once test bound b (Leaf None) d h g = omega arith
resolution_once test bound b (Leaf (Some v)) d h g = cond_both (2 * b == d) 1 0 (λ n. n + 0 ≤ 1) (λ _. omega arith) (λ _. omega arith)
resolution_once test bound b (Branch (Some p) l r) d h g =
    let s = size-width l in
    elim (cases_Bool (2 * b + size l == d)) [
      | inl k ↦ rw k (
          let is : 2 * b + size l ≡ d = eqb-true (2 * b + size l) d k in
          let rest = count_none (leaf_numbers p.unmerged_leaves) d (false_from_ne_true _ (λ e. let f = of_leaf_numbers p.unmerged_leaves d e in let z = f.1 in absurd (omega arith))) in
          omega arith)
      | inr k ↦ rw k (let rest = count_once 0 p.unmerged_leaves d (parents_parts rises_here b (Some p) l r g).0 in omega arith)
    ]
resolution_once test bound b (Branch None l r) d h g =
    let s = size-width l in
    let p = parents_parts test b None l r h in
    let q = parents_parts rises_here b None l r g in
    let sum = count-append nat_eq d (resolution b l) (resolution (b + width l) r) in
    let left = resolution_once test bound b l d p.1 q.1 in
    let right = resolution_once test bound (b + width l) r d p.2 q.2 in
    elim (cases_lt d (2 * (b + width l))) [
      | inl k ↦
          let none = count_none (resolution (b + width l) r) d (false_from_ne_true _ (λ e. let f = (resolution_range test bound (b + width l) r d p.2 e).0 in absurd (omega arith))) in
          omega arith
      | inr k ↦
          let none = count_none (resolution b l) d (false_from_ne_true _ (λ e. let f = (resolution_range test bound b l d p.1 e).1 in absurd (omega arith))) in
          omega arith
    ]

pub resolution_distinct : (test : ℕ → Parent → Term → Term → Bool) → IsBound test → (b : ℕ) (t : Term) → all_parents test b t ≡ true → all_parents rises_here b t ≡ true → is_distinct nat_eq (resolution b t) ≡ true
resolution_distinct test bound b t h g = distinct_from nat_eq eqb_refl (resolution b t) (λ d. resolution_once test bound b t d h g)

-- how often a tree has a key, after each edit
module _ (f : Option LeafNode → List (List ℕ)) (g : Option Parent → List (List ℕ)) (leaf : f None ≡ []) (blank : g None ≡ []) (y : List ℕ) where
  pub often : Term → ℕ
  often t = count same_bytes y (gather f g t)

  often-branch : (c : Option Parent) (l r : Term) → often (Branch c l r) ≡ often l + (count same_bytes y (g c) + often r)
  unfolding often gather
  often-branch c l r =
      count-append same_bytes y (gather f g l) (g c ++ gather f g r)
      ∙ ap (λ n. count same_bytes y (gather f g l) + n) (count-append same_bytes y (g c) (gather f g r))

  often-blank : count same_bytes y (g None) ≡ 0
  unfolding count
  often-blank = ap (count same_bytes y) blank

  often-none : often (Leaf None) ≡ 0
  unfolding often gather count
  often-none = ap (count same_bytes y) leaf

  often-leaf : (v : Option LeafNode) → often (Leaf v) ≡ count same_bytes y (f v)
  unfolding often gather
  often-leaf v = refl

  -- a leaf put is one more than none put
  pub often-put : (b : ℕ) (t : Term) (i : ℕ) (x : LeafNode) → often (put b t i (Some x)) ≡ often (put b t i None) + count same_bytes y (f (Some x))
  unfolding put
  often-put b (Leaf v) i x = let a = often-none in let e = often-leaf (Some x) in omega arith
  often-put b (Branch c l r) i x =
      elim (nat_lt i (b + width l)) as (λ v. often (cond v (Branch None (put b l i (Some x)) r) (Branch None l (put (b + width l) r i (Some x)))) ≡ often (cond v (Branch None (put b l i None) r) (Branch None l (put (b + width l) r i None))) + count same_bytes y (f (Some x))) [
        | true ↦
            let a = often-branch None (put b l i (Some x)) r in
            let d = often-branch None (put b l i None) r in
            let e = often-put b l i x in omega arith
        | false ↦
            let a = often-branch None l (put (b + width l) r i (Some x)) in
            let d = often-branch None l (put (b + width l) r i None) in
            let e = often-put (b + width l) r i x in omega arith
      ]

  pub often-put_none : (b : ℕ) (t : Term) (i : ℕ) → often (put b t i None) ≤ often t
  unfolding put
  often-put_none b (Leaf v) i = let a = often-none in omega arith
  often-put_none b (Branch c l r) i =
      let z = often-blank in
      let w = often-branch c l r in
      cond_both (nat_lt i (b + width l)) _ _ (λ t. often t ≤ often (Branch c l r))
      (λ _. let a = often-branch None (put b l i None) r in let e = often-put_none b l i in omega arith)
      (λ _. let a = often-branch None l (put (b + width l) r i None) in let e = often-put_none (b + width l) r i in omega arith)

  often-blanks : (h : ℕ) → often (blanks h) ≡ 0
  unfolding blanks
  often-blanks zero = often-none
  often-blanks (suc h) = let a = often-branch None (blanks h) (blanks h) in let e = often-blanks h in let z = often-blank in omega arith

  pub often-grow : (t : Term) → often (grow t) ≡ often t
  unfolding grow
  often-grow t = let a = often-branch None t (blanks (height t)) in let e = often-blanks (height t) in let z = often-blank in omega arith

  pub often-trim : (t : Term) → often (trim t) ≤ often t
  unfolding trim
  often-trim (Leaf v) = omega arith
  often-trim (Branch c l r) =
      let a = often-branch c l r in
      cond_both (has_leaf r) _ _ (λ t. often t ≤ often (Branch c l r))
      (λ _. omega arith)
      (λ _. let e = often-trim l in omega arith)

  often-enter_leaf : (b i : ℕ) (x : LeafNode) → often (enter b (Leaf None) i x) ≡ often (Leaf None) + count same_bytes y (f (Some x))
  unfolding enter
  often-enter_leaf b i x = let a = often-none in let e = often-leaf (Some x) in omega arith

  -- an added leaf is one more
  pub often-enter : ((i : ℕ) (c : Option Parent) → g (list_leaf i c) ≡ g c) → (b : ℕ) (t : Term) (i : ℕ) (x : LeafNode) → leaf_at b t i ≡ None → often (enter b t i x) ≡ often t + count same_bytes y (f (Some x))
  unfolding leaf_at
  often-enter alike b (Leaf v) i x none = ap (λ w. often (enter b (Leaf w) i x)) none ∙ often-enter_leaf b i x ∙ sym (ap (λ w. often (Leaf w) + count same_bytes y (f (Some x))) none)
  often-enter alike b (Branch c l r) i x none =
      let w = often-branch c l r in
      let q = ap (count same_bytes y) (alike i c) in
      elim (cases_lt i (b + width l)) [
        | inl k ↦ rw (enter_left b c l r i x k) (
            let a = often-branch (list_leaf i c) (enter b l i x) r in
            let e = often-enter alike b l i x (sym (leaf_at_left b c l r i k) ∙ none) in omega arith)
        | inr k ↦ rw (enter_right b c l r i x k) (
            let a = often-branch (list_leaf i c) l (enter (b + width l) r i x) in
            let e = often-enter alike (b + width l) r i x (sym (leaf_at_right b c l r i k) ∙ none) in omega arith)
      ]

  often-merge_leaf : (b : ℕ) (v : Option LeafNode) (i : ℕ) (ks : List (List ℕ)) (h : List ℕ) (x : LeafNode) → often (merge b (Leaf v) i ks h x) ≡ count same_bytes y (f (Some x))
  unfolding merge
  often-merge_leaf b v i ks h x = often-leaf (Some x)

  -- a merge has no more than the keys off the path, the new keys and the leaf
  pub often-merge : (w : List (List ℕ) → ℕ) → ((e : Bool) (ks : List (List ℕ)) (h : List ℕ) → count same_bytes y (g (new_parent e ks h)) + w (keys_below e ks) ≤ w ks) → (b : ℕ) (t : Term) (i : ℕ) (ks : List (List ℕ)) (h : List ℕ) (x : LeafNode) → often (merge b t i ks h x) ≤ often (put b t i None) + (w ks + count same_bytes y (f (Some x)))
  unfolding put
  often-merge w step b (Leaf v) i ks h x = let e = often-merge_leaf b v i ks h x in omega arith
  often-merge w step b (Branch c l r) i ks h x =
      let z = often-blank in
      elim (cases_lt i (b + width l)) [
        | inl lt ↦
            let s = step (is_reached (b + width l) r) ks h in
            let e = often-merge w step b l i (keys_below (is_reached (b + width l) r) ks) (hash_below (new_parent (is_reached (b + width l) r) ks h) (b + width l) r h) x in
            let a = often-branch (new_parent (is_reached (b + width l) r) ks h) (merge b l i (keys_below (is_reached (b + width l) r) ks) (hash_below (new_parent (is_reached (b + width l) r) ks h) (b + width l) r h) x) r in
            let d = often-branch None (put b l i None) r in
            let is = ap often (merge_left b c l r i ks h x lt) in
            rw (cond-true _ (Branch None (put b l i None) r) (Branch None l (put (b + width l) r i None)) (lt-ltb i (b + width l) lt)) (omega arith)
        | inr ge ↦
            let s = step (is_reached b l) ks h in
            let e = often-merge w step (b + width l) r i (keys_below (is_reached b l) ks) (hash_below (new_parent (is_reached b l) ks h) b l h) x in
            let a = often-branch (new_parent (is_reached b l) ks h) l (merge (b + width l) r i (keys_below (is_reached b l) ks) (hash_below (new_parent (is_reached b l) ks h) b l h) x) in
            let d = often-branch None l (put (b + width l) r i None) in
            let is = ap often (merge_right b c l r i ks h x ge) in
            rw (cond-false _ (Branch None (put b l i None) r) (Branch None l (put (b + width l) r i None)) (le-ltb i (b + width l) ge)) (omega arith)
      ]

-- so no key stands twice after an edit, where none did among the new keys and those that stay
module _ (f : Option LeafNode → List (List ℕ)) (g : Option Parent → List (List ℕ)) (leaf : f None ≡ []) (blank : g None ≡ []) where
  once : (t : Term) (xs : List (List ℕ)) → is_distinct same_bytes (xs ++ gather f g t) ≡ true → (y : List ℕ) → count same_bytes y xs + often f g leaf blank y t ≤ 1
  unfolding often
  once t xs h y =
      let s = count-append same_bytes y xs (gather f g t) in
      let d = distinct_at same_bytes bytes_true (xs ++ gather f g t) h y in
      omega arith

  from_once : (t : Term) (xs : List (List ℕ)) → ((y : List ℕ) → count same_bytes y xs + often f g leaf blank y t ≤ 1) → is_distinct same_bytes (xs ++ gather f g t) ≡ true
  unfolding often
  from_once t xs h =
      distinct_from same_bytes bytes_refl (xs ++ gather f g t) (λ y.
      let s = count-append same_bytes y xs (gather f g t) in
      let d = h y in
      omega arith)

  no_more : (y : List ℕ) → count same_bytes y [] ≡ 0
  unfolding count
  no_more y = refl

  pub distinct-put : (b : ℕ) (t : Term) (i : ℕ) (x : LeafNode) → is_distinct same_bytes (f (Some x) ++ gather f g (put b t i None)) ≡ true → is_distinct same_bytes (gather f g (put b t i (Some x))) ≡ true
  distinct-put b t i x h =
      from_once (put b t i (Some x)) [] (λ y.
      let d = once (put b t i None) (f (Some x)) h y in
      let e = often-put f g leaf blank y b t i x in
      let z = no_more y in
      omega arith)

  pub distinct-remove : (b : ℕ) (t : Term) (i : ℕ) → is_distinct same_bytes (gather f g t) ≡ true → is_distinct same_bytes (gather f g (trim (put b t i None))) ≡ true
  distinct-remove b t i h =
      from_once (trim (put b t i None)) [] (λ y.
      let d = once t [] h y in
      let e = often-put_none f g leaf blank y b t i in
      let w = often-trim f g leaf blank y (put b t i None) in
      let z = no_more y in
      omega arith)

  pub distinct-grow : (t : Term) (xs : List (List ℕ)) → is_distinct same_bytes (xs ++ gather f g t) ≡ true → is_distinct same_bytes (xs ++ gather f g (grow t)) ≡ true
  distinct-grow t xs h =
      from_once (grow t) xs (λ y.
      let d = once t xs h y in
      let e = often-grow f g leaf blank y t in
      omega arith)

  pub distinct-enter : ((i : ℕ) (c : Option Parent) → g (list_leaf i c) ≡ g c) → (b : ℕ) (t : Term) (i : ℕ) (x : LeafNode) → leaf_at b t i ≡ None → is_distinct same_bytes (f (Some x) ++ gather f g t) ≡ true → is_distinct same_bytes (gather f g (enter b t i x)) ≡ true
  distinct-enter alike b t i x none h =
      from_once (enter b t i x) [] (λ y.
      let d = once t (f (Some x)) h y in
      let e = often-enter f g leaf blank y alike b t i x none in
      let z = no_more y in
      omega arith)

  pub distinct-merge : (v : List (List ℕ) → List (List ℕ)) → ((y : List ℕ) (e : Bool) (ks : List (List ℕ)) (h : List ℕ) → count same_bytes y (g (new_parent e ks h)) + count same_bytes y (v (keys_below e ks)) ≤ count same_bytes y (v ks)) → (b : ℕ) (t : Term) (i : ℕ) (ks : List (List ℕ)) (h : List ℕ) (x : LeafNode) → is_distinct same_bytes ((f (Some x) ++ v ks) ++ gather f g (put b t i None)) ≡ true → is_distinct same_bytes (gather f g (merge b t i ks h x)) ≡ true
  distinct-merge v step b t i ks h x a =
      from_once (merge b t i ks h x) [] (λ y.
      let d = once (put b t i None) (f (Some x) ++ v ks) a y in
      let s = count-append same_bytes y (f (Some x)) (v ks) in
      let e = often-merge f g leaf blank y (λ zs. count same_bytes y (v zs)) (step y) b t i ks h x in
      let z = no_more y in
      omega arith)

pub key-list_leaf : (i : ℕ) (c : Option Parent) → parent_key (list_leaf i c) ≡ parent_key c
key-list_leaf i None = refl
key-list_leaf i (Some p) = refl

pub key_step : (y : List ℕ) (e : Bool) (ks : List (List ℕ)) (h : List ℕ) → count same_bytes y (parent_key (new_parent e ks h)) + count same_bytes y (keys_below e ks) ≤ count same_bytes y ks
unfolding count
key_step y false ks h = omega arith
key_step y true [] h = omega arith
key_step y true (key ∷ ks) h = omega arith

pub no_step : (y : List ℕ) (e : Bool) (ks : List (List ℕ)) (h : List ℕ) → count same_bytes y [] + count same_bytes y [] ≤ count same_bytes y []
unfolding count
no_step y e ks h = omega arith
