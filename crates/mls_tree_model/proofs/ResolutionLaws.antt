-- What stands in a resolution.
use Rattle.std.proofs.Common.{◌≡◌, ℕ, ◌+◌, ◌*◌, ◌<◌, ◌≤◌, ◌==◌, Bool, true, false, not, ◌||◌, List, [], ◌∷◌, ◌++◌, Option, Some, None, is_some, refl, sym, ◌∙◌, ap, arith, inl, inr, eqb-true, ne_eqb}
use Rattle.std.proofs.lemmas.Bool.{true≢false, or_cases, or_from, or_parts, cond-false, cases_lt}
use Rattle.std.proofs.Math.Bool.{or-false, or_assoc}
use Rattle.mls_leaf.specs.Parent.{Parent, rising_with}
use Rattle.mls_leaf.specs.declared.leaf.LeafNode.{LeafNode}
use Rattle.mls_tree_model.proofs.Equations.{enter_left, enter_right, leaf_at_left, leaf_at_right}
use Rattle.mls_tree_model.specs.Term.{Term, Leaf, Branch, width, size, has_leaf, leaf_at}
use Rattle.mls_tree_model.specs.Sets.{has, leaf_numbers}
use Rattle.mls_tree_model.specs.Resolution.{resolution}
use Rattle.mls_tree_model.specs.Resolution.{is_empty, is_reached}
use Rattle.mls_tree_model.specs.Edits.{enter, list_leaf}
use Rattle.mls_tree_model.specs.Lists.{all_parents, is_listed_anywhere}
use Rattle.mls_tree_model.specs.Hashes.{hash_at}
use Rattle.mls_tree_model.specs.Node.{own_parent_hash}
use Rattle.mls_tree_model.proofs.SetLaws.{has-append, has-with, has-leaf_numbers, of_leaf_numbers, numbers_more}
use Rattle.mls_tree_model.proofs.ShapeLaws.{size-width, width-enter, size_from_width}
use Rattle.mls_tree_model.proofs.ParentLaws.{parents_parts}
use Rattle.mls_tree_model.proofs.NamedLaws.{IsBound}

-- a tree with a taken leaf reaches somebody
pub resolution_nonempty : (b : ℕ) (t : Term) → has_leaf t ≡ true → is_empty (resolution b t) ≡ false
unfolding resolution has_leaf
resolution_nonempty b (Leaf None) h = sym h
resolution_nonempty b (Leaf (Some v)) h = refl
resolution_nonempty b (Branch (Some p) l r) h = refl
resolution_nonempty b (Branch None l r) h =
    elim (or_cases (has_leaf l) (has_leaf r) h) [
      | inl k ↦ front (resolution b l) (resolution (b + width l) r) (resolution_nonempty b l k)
      | inr k ↦ back (resolution b l) (resolution (b + width l) r) (resolution_nonempty (b + width l) r k)
    ]
  where
    front : (xs ys : List ℕ) → is_empty xs ≡ false → is_empty (xs ++ ys) ≡ false
    front [] ys e = absurd (true≢false e)
    front (x ∷ xs) ys e = refl

    back : (xs ys : List ℕ) → is_empty ys ≡ false → is_empty (xs ++ ys) ≡ false
    back [] ys e = e
    back (x ∷ xs) ys e = refl

pub reached : (b : ℕ) (t : Term) → has_leaf t ≡ true → is_reached b t ≡ true
reached b t h = ap not (resolution_nonempty b t h)

-- every node of a resolution is in the tree
pub resolution_range : (test : ℕ → Parent → Term → Term → Bool) → IsBound test → (b : ℕ) (t : Term) (d : ℕ) → all_parents test b t ≡ true → has (resolution b t) d ≡ true → (2 * b ≤ d) × (d < 2 * b + size t)
unfolding resolution has size
resolution_range test bound b (Leaf None) d h e = absurd (true≢false (sym e))
resolution_range test bound b (Leaf (Some v)) d h e =
    let k : 2 * b ≡ d = eqb-true (2 * b) d (elim (or_cases (2 * b == d) false e) [ inl k ↦ k | inr k ↦ absurd (true≢false (sym k)) ]) in
    (omega arith, omega arith)
resolution_range test bound b (Branch (Some p) l r) d h e =
    let sl = size-width l in
    let sr = size-width r in
    elim (or_cases (2 * b + size l == d) _ e) [
      | inl k ↦ let f : 2 * b + size l ≡ d = eqb-true (2 * b + size l) d k in (omega arith, omega arith)
      | inr k ↦
          let g = of_leaf_numbers p.unmerged_leaves d k in
          let f = bound b p l r g.0 (parents_parts test b (Some p) l r h).0 g.2 in
          let low = f.0 in
          let high = f.1 in
          let is = g.1 in
          (omega arith, omega arith)
    ]
resolution_range test bound b (Branch None l r) d h e =
    let sl = size-width l in
    let sr = size-width r in
    let p = parents_parts test b None l r h in
    elim (or_cases (has (resolution b l) d) _ (sym (has-append (resolution b l) (resolution (b + width l) r) d) ∙ e)) [
      | inl k ↦ let f = resolution_range test bound b l d p.1 k in let low = f.0 in let high = f.1 in (low, omega arith)
      | inr k ↦ let f = resolution_range test bound (b + width l) r d p.2 k in let low = f.0 in let high = f.1 in (omega arith, omega arith)
    ]

-- an added leaf joins the resolution, and nobody else does
has-leaf_numbers_with : (i : ℕ) (us : List ℕ) (d : ℕ) → has (leaf_numbers (rising_with i us)) d ≡ (has (leaf_numbers us) d || (2 * i == d))
has-leaf_numbers_with i us = numbers_more i (rising_with i us) us (has-with i us)

or_past : (x y z : Bool) → ((x || z) || y) ≡ ((x || y) || z)
or_past true y z = refl
or_past false true true = refl
or_past false true false = refl
or_past false false true = refl
or_past false false false = refl

resolution-enter_leaf : (b i : ℕ) (x : LeafNode) (d : ℕ) → b ≡ i → has (resolution b (enter b (Leaf None) i x)) d ≡ (2 * i == d)
unfolding enter resolution has
resolution-enter_leaf b i x d is = ap (λ n. (2 * n == d) || false) is ∙ or-false (2 * i == d)

pub resolution-enter : (b : ℕ) (t : Term) (i : ℕ) (x : LeafNode) (d : ℕ) → b ≤ i → i < b + width t → leaf_at b t i ≡ None → has (resolution b (enter b t i x)) d ≡ (has (resolution b t) d || (2 * i == d))
unfolding width resolution has leaf_at
resolution-enter b (Leaf (Some v)) i x d low high e = absurd (true≢false (ap is_some e))
resolution-enter b (Leaf None) i x d low high e = resolution-enter_leaf b i x d (omega arith)
resolution-enter b (Branch None l r) i x d low high e =
    elim (cases_lt i (b + width l)) [
      | inl k ↦ rw (enter_left b None l r i x k) ((
          has-append (resolution b (enter b l i x)) _ d
          ∙ ap (λ n. has (resolution b (enter b l i x)) d || has (resolution (b + n) r) d) (width-enter b l i x)
          ∙ ap (λ v. v || has (resolution (b + width l) r) d) (resolution-enter b l i x d low k (sym (leaf_at_left b None l r i k) ∙ e))
          ∙ or_past (has (resolution b l) d) _ _
          ∙ ap (λ v. v || (2 * i == d)) (sym (has-append (resolution b l) (resolution (b + width l) r) d))))
      | inr k ↦ rw (enter_right b None l r i x k) ((
          has-append (resolution b l) _ d
          ∙ ap (λ v. has (resolution b l) d || v) (resolution-enter (b + width l) r i x d k (omega arith) (sym (leaf_at_right b None l r i k) ∙ e))
          ∙ sym (or_assoc (has (resolution b l) d) _ _)
          ∙ ap (λ v. v || (2 * i == d)) (sym (has-append (resolution b l) (resolution (b + width l) r) d))))
    ]
resolution-enter b (Branch (Some p) l r) i x d low high e =
    elim (cases_lt i (b + width l)) [
      | inl k ↦ rw (enter_left b (Some p) l r i x k) ((
          ap (λ n. (2 * b + n == d) || has (leaf_numbers (rising_with i p.unmerged_leaves)) d) (size_from_width (enter b l i x) l (width-enter b l i x))
          ∙ ap (λ v. (2 * b + size l == d) || v) (has-leaf_numbers_with i p.unmerged_leaves d)
          ∙ sym (or_assoc (2 * b + size l == d) _ _)))
      | inr k ↦ rw (enter_right b (Some p) l r i x k) ((
          ap (λ v. (2 * b + size l == d) || v) (has-leaf_numbers_with i p.unmerged_leaves d)
          ∙ sym (or_assoc (2 * b + size l == d) _ _)))
    ]

-- a leaf that no list names and that isn't taken in a tree is not in its resolution
pub unnamed : (b : ℕ) (t : Term) (i : ℕ) → is_listed_anywhere t i ≡ false → (b ≤ i → i < b + width t → leaf_at b t i ≡ None) → has (resolution b t) (2 * i) ≡ false
unfolding resolution has is_listed_anywhere width leaf_at
unnamed b (Leaf None) i h e = refl
unnamed b (Leaf (Some v)) i h e =
    or_from (2 * b == 2 * i) false
    (ne_eqb (2 * b) (2 * i) (λ k.
    let low : b ≤ i = omega arith in
    let high : i < b + 1 = omega arith in
    let none : Some v ≡ None = e low high in
    true≢false (ap is_some none)))
    refl
unnamed b (Branch (Some p) l r) i h e =
    let sl = size-width l in
    or_from (2 * b + size l == 2 * i) _
    (ne_eqb (2 * b + size l) (2 * i) (λ k. absurd (omega arith)))
    (has-leaf_numbers p.unmerged_leaves i ∙ (or_parts (has p.unmerged_leaves i) _ h).0)
unnamed b (Branch None l r) i h e =
    let n = or_parts (is_listed_anywhere l i) (is_listed_anywhere r i) h in
    has-append (resolution b l) (resolution (b + width l) r) (2 * i)
    ∙ or_from _ _
    (unnamed b l i n.0 (λ low high. sym (leaf_at_left b None l r i high) ∙ e low (omega arith)))
    (unnamed (b + width l) r i n.1 (λ low high. sym (leaf_at_right b None l r i low) ∙ e (omega arith) (omega arith)))

own_parent_hash-list_leaf : (i : ℕ) (c : Option Parent) → own_parent_hash (list_leaf i c) ≡ own_parent_hash c
own_parent_hash-list_leaf i None = refl
own_parent_hash-list_leaf i (Some p) = refl

hash_at-enter_leaf : (b : ℕ) (v : Option LeafNode) (i : ℕ) (x : LeafNode) (d : ℕ) → (d == 2 * b) ≡ false → hash_at b (enter b (Leaf v) i x) d ≡ hash_at b (Leaf v) d
unfolding enter hash_at
hash_at-enter_leaf b v i x d off = cond-false _ _ _ off ∙ sym (cond-false _ _ _ off)

-- an add changes the parent hash of no other node
pub hash_at-enter : (b : ℕ) (t : Term) (i : ℕ) (x : LeafNode) (d : ℕ) → b ≤ i → i < b + width t → (2 * i ≡ d → ⊥) → hash_at b (enter b t i x) d ≡ hash_at b t d
unfolding width hash_at
hash_at-enter b (Leaf v) i x d low high ne = hash_at-enter_leaf b v i x d (ne_eqb d (2 * b) (λ k. ne (omega arith)))
hash_at-enter b (Branch c l r) i x d low high ne =
    elim (cases_lt i (b + width l)) [
      | inl k ↦
          let s = size_from_width (enter b l i x) l (width-enter b l i x) in
          let w = width-enter b l i x in
          let o = own_parent_hash-list_leaf i c in
          let g = hash_at-enter b l i x d low k ne in
          rw (enter_left b c l r i x k) (rw (s, w, o, g) refl)
      | inr k ↦
          let o = own_parent_hash-list_leaf i c in
          let g = hash_at-enter (b + width l) r i x d k (omega arith) ne in
          rw (enter_right b c l r i x k) (rw (o, g) refl)
    ]
