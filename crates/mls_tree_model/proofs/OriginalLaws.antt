-- An original sibling is blind to an added leaf.
use Rattle.std.proofs.Common.{◌≡◌, ℕ, ◌+◌, ◌<◌, ◌≤◌, ◌==◌, nat_lt, Bool, true, false, ◌||◌, cond, List, [], ◌∷◌, Option, Some, None, refl, sym, ◌∙◌, ap, arith, inl, inr, eqb-true, eq-eqb}
use Rattle.std.proofs.lemmas.Bool.{true≢false, or_parts, or_right, cond-true, cond_both, cases_lt, cases_Bool}
use Rattle.std.proofs.Math.Bool.{or-false}
use Rattle.mls_leaf.specs.Parent.{Parent, rising_with}
use Rattle.mls_leaf.specs.declared.leaf.LeafNode.{LeafNode}
use Rattle.mls_tree_model.proofs.Equations.{enter_left, enter_right, leaf_at_left, leaf_at_right}
use Rattle.mls_tree_model.specs.Term.{Term, Leaf, Branch, width, leaf_at}
use Rattle.mls_tree_model.specs.Sets.{has, less}
use Rattle.mls_tree_model.specs.Edits.{enter, list_leaf, with_leaf}
use Rattle.mls_tree_model.specs.Lists.{lists, is_listed_anywhere}
use Rattle.mls_tree_model.specs.Inputs.{sibling_hash}
use Rattle.mls_tree_model.specs.Hashes.{original_tree, unlist_leaves, tree_hash, parent_hash}
use Rattle.mls_tree_model.proofs.SetLaws.{has-with, eqb_refl}
use Rattle.mls_tree_model.proofs.ShapeLaws.{width-enter}

cond_same : (x : Bool) (v : Option LeafNode) → cond x v v ≡ v
cond_same true v = refl
cond_same false v = refl

-- a number that a list doesn't have may be taken out of it too
less-with : (j : ℕ) (us qs : List ℕ) → has qs j ≡ false → less (rising_with j us) qs ≡ less us qs
unfolding has
less-with j us [] h = refl
less-with j us (q ∷ qs) h =
    let p = or_parts (q == j) (has qs j) h in
    let e : (j == q) ≡ false = elim (cases_Bool (j == q)) [ inl k ↦ absurd (true≢false (sym (eq-eqb q j (sym (eqb-true j q k))) ∙ p.0)) | inr k ↦ k ] in
    let w : has (rising_with j us) q ≡ has us q = has-with j us q ∙ ap (λ v. has us q || v) e ∙ or-false (has us q) in
    let rest = less-with j us qs p.1 in
    rw (w, rest) refl

-- and one that is taken out may be put in before
less-of_with : (j : ℕ) (vs qs : List ℕ) → has vs j ≡ true → less vs (rising_with j qs) ≡ less vs qs
unfolding rising_with
less-of_with j vs [] h = rw h refl
less-of_with j vs (q ∷ qs) h =
    cond_both (nat_lt j q) _ _ (λ zs. less vs zs ≡ less vs (q ∷ qs))
    (λ _. rw h refl)
    (λ _. cond_both (j == q) _ _ (λ zs. less vs zs ≡ less vs (q ∷ qs))
    (λ _. refl)
    (λ _. let rest = less-of_with j vs qs h in rw rest refl))

unlist_leaves-with : (j : ℕ) (us : List ℕ) (c : Option Parent) → lists c j ≡ false → unlist_leaves (rising_with j us) c ≡ unlist_leaves us c
unlist_leaves-with j us None h = refl
unlist_leaves-with j us (Some p) h =
    ap (λ qs. let r : Parent = record { encryption_key = p.encryption_key; parent_hash = p.parent_hash; unmerged_leaves = qs } in Some r) (less-with j us p.unmerged_leaves h)

unlist_leaves-list_leaf : (j : ℕ) (us : List ℕ) (c : Option Parent) → lists c j ≡ false → unlist_leaves (rising_with j us) (list_leaf j c) ≡ unlist_leaves us c
unlist_leaves-list_leaf j us None h = refl
unlist_leaves-list_leaf j us (Some p) h =
    ap (λ qs. let r : Parent = record { encryption_key = p.encryption_key; parent_hash = p.parent_hash; unmerged_leaves = qs } in Some r)
    (less-of_with j (rising_with j us) p.unmerged_leaves (has-with j us j ∙ or_right (has us j) _ (eqb_refl j)) ∙ less-with j us p.unmerged_leaves h)

-- a leaf that isn't taken in a tree, and that no list names, may be stripped from it too
pub original_tree-with : (b : ℕ) (t : Term) (j : ℕ) (us : List ℕ) → is_listed_anywhere t j ≡ false → (b ≤ j → j < b + width t → leaf_at b t j ≡ None) → original_tree (rising_with j us) b t ≡ original_tree us b t
unfolding original_tree is_listed_anywhere width leaf_at
original_tree-with b (Leaf v) j us n e =
    elim (cases_Bool (j == b)) [
      | inl k ↦
          let is : j ≡ b = eqb-true j b k in
          let none : v ≡ None = e (omega arith) (omega arith) in
          ap (λ w. Leaf (cond (has (rising_with j us) b) None w)) none ∙ ap Leaf (cond_same (has (rising_with j us) b) None ∙ sym (cond_same (has us b) None)) ∙ sym (ap (λ w. Leaf (cond (has us b) None w)) none)
      | inr k ↦ ap (λ w. Leaf (cond w None v)) (has-with j us b ∙ ap (λ w. has us b || w) k ∙ or-false (has us b))
    ]
original_tree-with b (Branch c l r) j us n e =
    let p = or_parts (lists c j) _ n in
    let w = or_parts (is_listed_anywhere l j) (is_listed_anywhere r j) p.1 in
    ap (λ q. Branch q (original_tree (rising_with j us) b l) (original_tree (rising_with j us) (b + width l) r)) (unlist_leaves-with j us c p.0)
    ∙ ap (λ t. Branch (unlist_leaves us c) t (original_tree (rising_with j us) (b + width l) r)) (original_tree-with b l j us w.0 (λ low high. sym (leaf_at_left b c l r j high) ∙ e low (omega arith)))
    ∙ ap (λ t. Branch (unlist_leaves us c) (original_tree us b l) t) (original_tree-with (b + width l) r j us w.1 (λ low high. sym (leaf_at_right b c l r j low) ∙ e (omega arith) (omega arith)))

original_tree-enter_leaf : (b i : ℕ) (us : List ℕ) (x : LeafNode) → b ≡ i → original_tree (rising_with i us) b (enter b (Leaf None) i x) ≡ original_tree us b (Leaf None)
unfolding original_tree enter
original_tree-enter_leaf b i us x is =
    ap Leaf (cond-true _ _ _ (has-with i us b ∙ or_right (has us b) _ (eq-eqb i b (sym is))) ∙ sym (cond_same (has us b) None))

-- and stripping it undoes its add
pub original_tree-enter : (b : ℕ) (t : Term) (i : ℕ) (us : List ℕ) (x : LeafNode) → b ≤ i → i < b + width t → is_listed_anywhere t i ≡ false → leaf_at b t i ≡ None → original_tree (rising_with i us) b (enter b t i x) ≡ original_tree us b t
unfolding original_tree is_listed_anywhere width leaf_at
original_tree-enter b (Leaf v) i us x low high n e =
    ap (λ w. original_tree (rising_with i us) b (enter b (Leaf w) i x)) e ∙ original_tree-enter_leaf b i us x (omega arith) ∙ sym (ap (λ w. original_tree us b (Leaf w)) e)
original_tree-enter b (Branch c l r) i us x low high n e =
    let p = or_parts (lists c i) _ n in
    let w = or_parts (is_listed_anywhere l i) (is_listed_anywhere r i) p.1 in
    elim (cases_lt i (b + width l)) [
      | inl k ↦ rw (enter_left b c l r i x k) (
          ap (λ q. Branch q (original_tree (rising_with i us) b (enter b l i x)) (original_tree (rising_with i us) (b + width (enter b l i x)) r)) (unlist_leaves-list_leaf i us c p.0)
          ∙ ap (λ t. Branch (unlist_leaves us c) t (original_tree (rising_with i us) (b + width (enter b l i x)) r)) (original_tree-enter b l i us x low k w.0 (sym (leaf_at_left b c l r i k) ∙ e))
          ∙ ap (λ m. Branch (unlist_leaves us c) (original_tree us b l) (original_tree (rising_with i us) (b + m) r)) (width-enter b l i x)
          ∙ ap (λ t. Branch (unlist_leaves us c) (original_tree us b l) t) (original_tree-with (b + width l) r i us w.1 (λ far _. absurd (omega arith))))
      | inr k ↦ rw (enter_right b c l r i x k) (
          ap (λ q. Branch q (original_tree (rising_with i us) b l) (original_tree (rising_with i us) (b + width l) (enter (b + width l) r i x))) (unlist_leaves-list_leaf i us c p.0)
          ∙ ap (λ t. Branch (unlist_leaves us c) t (original_tree (rising_with i us) (b + width l) (enter (b + width l) r i x))) (original_tree-with b l i us w.0 (λ _ far. absurd (omega arith)))
          ∙ ap (λ t. Branch (unlist_leaves us c) (original_tree us b l) t) (original_tree-enter (b + width l) r i us x k (omega arith) w.1 (sym (leaf_at_right b c l r i k) ∙ e)))
    ]

-- so a parent keeps its hash, whether the leaf is added on this side or on the other
module _ (p : Parent) (i m : ℕ) (s : Term) (n : is_listed_anywhere s i ≡ false) where
  pub parent_hash-out : (m ≤ i → i < m + width s → leaf_at m s i ≡ None) → parent_hash (with_leaf i p) m s ≡ parent_hash p m s
  unfolding parent_hash
  parent_hash-out e =
      ap (λ t. sibling_hash p.encryption_key p.parent_hash (tree_hash m t)) (original_tree-with m s i p.unmerged_leaves n e)

  pub parent_hash-in : (x : LeafNode) → m ≤ i → i < m + width s → leaf_at m s i ≡ None → parent_hash (with_leaf i p) m (enter m s i x) ≡ parent_hash p m s
  unfolding parent_hash
  parent_hash-in x low high e =
      ap (λ t. sibling_hash p.encryption_key p.parent_hash (tree_hash m t)) (original_tree-enter m s i p.unmerged_leaves x low high n e)
