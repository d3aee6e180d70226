-- The cells of a tree in which one leaf is filled: no other cell's key changes.
use Rattle.std.proofs.Common.{◌≡◌, ℕ, zero, suc, ◌+◌, ◌-◌, ◌*◌, ◌<◌, ◌≤◌, true, get_or, Option, Some, None, refl, sym, ◌∙◌, ap, arith, inl, inr}
use Rattle.std.proofs.lemmas.Bool.{true≢false, cases_lt, cases_order, and_parts}
use Rattle.mls_leaf.specs.Parent.{Parent}
use Rattle.mls_leaf.specs.declared.leaf.LeafNode.{LeafNode}
use Rattle.mls_treemath.specs.Paths.{nodes_in}
use Rattle.mls_tree_model.specs.Term.{Term, Leaf, Branch, width, is_perfect, leaf_at}
use Rattle.mls_tree_model.specs.Edits.{enter, list_leaf}
use Rattle.mls_tree_model.specs.Arrays.{leaf_cell, parent_cell, in_order}
use Rattle.mls_tree_model.proofs.Equations.{enter_leaf, enter_left, enter_right, leaf_at_leaf, leaf_at_left, leaf_at_right}
use Rattle.mls_tree_model.proofs.ShapeLaws.{width-perfect, width-enter, perfect-enter}
use Rattle.mls_tree_model.proofs.ArrayLaws.{nodes_in-leaves}
use Rattle.mls_tree_array.proofs.StandingLaws.{in_order-leaf, length-perfect}
use Rattle.mls_tree_index.specs.declared.kind.KeyKind.{KeyKind}
use Rattle.mls_tree_index.specs.declared.kind.KeyKind.TheVariants.{Encryption, Signature}
use Rattle.mls_tree_index.specs.Keys.{key_of}
use Rattle.mls_tree_index.proofs.CountLaws.{none_blank}
use Rattle.mls_tree.specs.IndexedKeys.{Fills}
use Rattle.mls_tree.proofs.BesideLaws.{in_left, in_right, at_root, long_as}

-- a list of unmerged leaves is no key
listed_key : (k : KeyKind) (i : ℕ) (c : Option Parent) → key_of k (parent_cell (list_leaf i c)) ≡ key_of k (parent_cell c)
listed_key Encryption i None = refl
listed_key Signature i None = refl
listed_key Encryption i (Some p) = refl
listed_key Signature i (Some p) = refl

-- cell y of a tree whose first leaf is b keeps its key where it isn't that of leaf i
abbrev SameKey : KeyKind → ℕ → ℕ → Term → Term → ℕ → Type 0
SameKey k b i t u y = (2 * b + y ≡ 2 * i → ⊥) → key_of k (get_or (in_order t) y None) ≡ key_of k (get_or (in_order u) y None)

same_key : (k : KeyKind) (h b : ℕ) (t : Term) (i : ℕ) (x : LeafNode) → is_perfect h t ≡ true → b ≤ i → i < b + width t → (y : ℕ) → SameKey k b i t (enter b t i x) y
unfolding is_perfect width
same_key k zero b (Leaf v) i x p low high zero other = absurd (other (omega arith))
same_key k zero b (Leaf v) i x p low high (suc y) other =
    rw (enter_leaf b v i x) (ap (λ zs. key_of k (get_or zs (suc y) None)) (in_order-leaf v) ∙ sym (ap (λ zs. key_of k (get_or zs (suc y) None)) (in_order-leaf (Some x))))
same_key k (suc h) b (Leaf v) i x p low high y other = absurd (true≢false (sym p))
same_key k zero b (Branch c l r) i x p low high y other = absurd (true≢false (sym p))
same_key k (suc h) b (Branch c l r) i x p low high y other =
    let sides = and_parts (is_perfect h l) (is_perfect h r) p in
    let long = long_as h l l sides.0 refl in
    let half = nodes_in-leaves h in
    let wide = width-perfect h l sides.0 in
    elim (cases_lt i (b + width l)) [
      | inl lt ↦
          let u = enter b l i x in
          let new = long_as h l u sides.0 (width-enter b l i x) in
          rw (enter_left b c l r i x lt)
          (elim (cases_order y (nodes_in h)) [
            | inl same ↦ ap (key_of k) (at_root h b i y c l r long same) ∙ sym (listed_key k i c) ∙ sym (ap (key_of k) (at_root h b i y (list_leaf i c) u r new same))
            | inr (inl less) ↦ ap (key_of k) (in_left h b i y c l r long less) ∙ same_key k h b l i x sides.0 low lt y other ∙ sym (ap (key_of k) (in_left h b i y (list_leaf i c) u r new less))
            | inr (inr more) ↦ ap (key_of k) (in_right h b i y c l r long more) ∙ sym (ap (key_of k) (in_right h b i y (list_leaf i c) u r new more))
          ])
      | inr ge ↦
          let u = enter (b + width l) r i x in
          rw (enter_right b c l r i x ge)
          (elim (cases_order y (nodes_in h)) [
            | inl same ↦ ap (key_of k) (at_root h b i y c l r long same) ∙ sym (listed_key k i c) ∙ sym (ap (key_of k) (at_root h b i y (list_leaf i c) l u long same))
            | inr (inl less) ↦ ap (key_of k) (in_left h b i y c l r long less) ∙ sym (ap (key_of k) (in_left h b i y (list_leaf i c) l u long less))
            | inr (inr more) ↦
                ap (key_of k) (in_right h b i y c l r long more)
                ∙ same_key k h (b + width l) r i x sides.1 ge (omega arith) (y - suc (nodes_in h)) (λ e. other (omega arith))
                ∙ sym (ap (key_of k) (in_right h b i y (list_leaf i c) l u long more))
          ])
    ]

-- the cell of a blank leaf is blank
blank_cell : (h b : ℕ) (t : Term) (i : ℕ) → is_perfect h t ≡ true → b ≤ i → i < b + width t → leaf_at b t i ≡ None → get_or (in_order t) (2 * i - 2 * b) None ≡ None
unfolding is_perfect width
blank_cell zero b (Leaf v) i p low high none =
    let first : 2 * i - 2 * b ≡ 0 = omega arith in
    ap (λ y. get_or (in_order (Leaf v)) y None) first ∙ ap (λ zs. get_or zs 0 None) (in_order-leaf v) ∙ ap leaf_cell (sym (leaf_at_leaf b v i) ∙ none)
blank_cell (suc h) b (Leaf v) i p low high none = absurd (true≢false (sym p))
blank_cell zero b (Branch c l r) i p low high none = absurd (true≢false (sym p))
blank_cell (suc h) b (Branch c l r) i p low high none =
    let sides = and_parts (is_perfect h l) (is_perfect h r) p in
    let long = long_as h l l sides.0 refl in
    let half = nodes_in-leaves h in
    let wide = width-perfect h l sides.0 in
    elim (cases_lt i (b + width l)) [
      | inl lt ↦ in_left h b i (2 * i - 2 * b) c l r long (omega arith) ∙ blank_cell h b l i sides.0 low lt (sym (leaf_at_left b c l r i lt) ∙ none)
      | inr ge ↦
          let at : 2 * i - 2 * b - suc (nodes_in h) ≡ 2 * i - 2 * (b + width l) = omega arith in
          in_right h b i (2 * i - 2 * b) c l r long (omega arith)
          ∙ ap (λ y. get_or (in_order r) y None) at
          ∙ blank_cell h (b + width l) r i sides.1 ge (omega arith) (sym (leaf_at_right b c l r i ge) ∙ none)
    ]

-- so the list of a tree in which a blank leaf is filled has the keys of the tree's, and those of that leaf
pub filled : (h : ℕ) (t : Term) (i : ℕ) (x : LeafNode) → is_perfect h t ≡ true → i < width t → leaf_at 0 t i ≡ None → Fills (2 * i) (in_order t) (in_order (enter 0 t i x))
filled h t i x p inside none = record {
  long = length-perfect h t p ∙ sym (length-perfect h (enter 0 t i x) (perfect-enter h 0 t i x p));
  blank = λ k. let at : 2 * i ≡ 2 * i - 2 * 0 = omega arith in ap (λ y. key_of k (get_or (in_order t) y None)) at ∙ ap (key_of k) (blank_cell h 0 t i p (omega arith) (omega arith) none) ∙ none_blank k;
  others = λ k y other. same_key k h 0 t i x p (omega arith) (omega arith) y (λ e. other (omega arith));
}
