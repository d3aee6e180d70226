-- What holds of each parent: kept by every edit that only blanks parents, halves or doubles.
use Rattle.std.proofs.Common.{◌≡◌, ℕ, zero, suc, ◌+◌, nat_lt, Bool, true, Option, None, refl, sym, ◌∙◌, ap}
use Rattle.std.proofs.lemmas.Bool.{and_parts, and_from, cond_both}
use Rattle.mls_leaf.specs.Parent.{Parent}
use Rattle.mls_leaf.specs.declared.leaf.LeafNode.{LeafNode}
use Rattle.mls_tree_model.specs.Term.{Term, Leaf, Branch, width, height, blanks, has_leaf}
use Rattle.mls_tree_model.specs.Edits.{put, grow, trim}
use Rattle.mls_tree_model.specs.Lists.{parent_passes, all_parents}
use Rattle.mls_tree_model.proofs.ShapeLaws.{width-put}

module _ (q : ℕ → Parent → Term → Term → Bool) where
  pub parents_parts : (b : ℕ) (c : Option Parent) (l r : Term) → all_parents q b (Branch c l r) ≡ true → (parent_passes q b c l r ≡ true) × (all_parents q b l ≡ true) × (all_parents q (b + width l) r ≡ true)
  unfolding all_parents
  parents_parts b c l r h =
      let p = and_parts (parent_passes q b c l r) _ h in
      let w = and_parts (all_parents q b l) (all_parents q (b + width l) r) p.1 in
      (p.0, w.0, w.1)

  pub parents_from : (b m : ℕ) (c : Option Parent) (l r : Term) → parent_passes q b c l r ≡ true → all_parents q b l ≡ true → m ≡ b + width l → all_parents q m r ≡ true → all_parents q b (Branch c l r) ≡ true
  unfolding all_parents
  parents_from b m c l r h i e j =
      and_from (parent_passes q b c l r) _ h (and_from (all_parents q b l) _ i (ap (λ n. all_parents q n r) (sym e) ∙ j))

  pub parents-put : (b : ℕ) (t : Term) (i : ℕ) (x : Option LeafNode) → all_parents q b t ≡ true → all_parents q b (put b t i x) ≡ true
  unfolding all_parents put
  parents-put b (Leaf v) i x h = refl
  parents-put b (Branch c l r) i x h =
      let p = parents_parts b c l r h in
      cond_both (nat_lt i (b + width l)) _ _ (λ t. all_parents q b t ≡ true)
      (λ _. parents_from b (b + width l) None (put b l i x) r refl (parents-put b l i x p.1) (ap (λ n. b + n) (sym (width-put b l i x))) p.2)
      (λ _. parents_from b (b + width l) None l (put (b + width l) r i x) refl p.1 refl (parents-put (b + width l) r i x p.2))

  parents-blanks : (b h : ℕ) → all_parents q b (blanks h) ≡ true
  unfolding all_parents blanks
  parents-blanks b zero = refl
  parents-blanks b (suc h) = and_from _ _ (parents-blanks b h) (parents-blanks (b + width (blanks h)) h)

  pub parents-grow : (b : ℕ) (t : Term) → all_parents q b t ≡ true → all_parents q b (grow t) ≡ true
  unfolding all_parents grow
  parents-grow b t h = and_from _ _ h (parents-blanks (b + width t) (height t))

  pub parents-trim : (b : ℕ) (t : Term) → all_parents q b t ≡ true → all_parents q b (trim t) ≡ true
  unfolding trim
  parents-trim b (Leaf v) h = h
  parents-trim b (Branch c l r) h =
      cond_both (has_leaf r) _ _ (λ t. all_parents q b t ≡ true)
      (λ _. h)
      (λ _. parents-trim b l (parents_parts b c l r h).1)
