-- Laws of the tree hashes on the way to a leaf.
use Rattle.std.proofs.Common.{◌≡◌, ℕ, zero, suc, ◌+◌, ◌<◌, ◌≤◌, nat_lt, true, [], ◌∷◌, ◌++◌, length, Option, refl, sym, ◌∙◌, ap, arith, lt-ltb, le-ltb, length-append}
use Rattle.std.proofs.lemmas.Bool.{cond-true, cond-false, cond_both, true≢false, and_parts}
use Rattle.mls_leaf.specs.Parent.{Parent}
use Rattle.mls_leaf.specs.declared.leaf.LeafNode.{LeafNode}
use Rattle.mls_tree_model.specs.Term.{Term, Leaf, Branch, width, is_perfect}
use Rattle.mls_tree_model.specs.Hashes.{tree_hash}
use Rattle.mls_tree_array.specs.WayHashes.{way_hashes}

pub way_hashes_leaf : (b : ℕ) (v : Option LeafNode) (i : ℕ) → way_hashes b (Leaf v) i ≡ tree_hash b (Leaf v) ∷ []
unfolding way_hashes
way_hashes_leaf b v i = refl

module _ (b : ℕ) (c : Option Parent) (l r : Term) (i : ℕ) where
  pub way_hashes_left : i < b + width l → way_hashes b (Branch c l r) i ≡ way_hashes b l i ++ (tree_hash b (Branch c l r) ∷ [])
  unfolding way_hashes
  way_hashes_left lt = ap (λ hs. hs ++ (tree_hash b (Branch c l r) ∷ [])) (cond-true _ _ _ (lt-ltb i (b + width l) lt))

  pub way_hashes_right : b + width l ≤ i → way_hashes b (Branch c l r) i ≡ way_hashes (b + width l) r i ++ (tree_hash b (Branch c l r) ∷ [])
  unfolding way_hashes
  way_hashes_right ge = ap (λ hs. hs ++ (tree_hash b (Branch c l r) ∷ [])) (cond-false _ _ _ (le-ltb i (b + width l) ge))

-- one a level
pub length-way_hashes : (h b : ℕ) (t : Term) (i : ℕ) → is_perfect h t ≡ true → length (way_hashes b t i) ≡ suc h
unfolding is_perfect way_hashes
length-way_hashes zero b (Leaf v) i p = refl
length-way_hashes (suc h) b (Leaf v) i p = absurd (true≢false (sym p))
length-way_hashes zero b (Branch c l r) i p = absurd (true≢false (sym p))
length-way_hashes (suc h) b (Branch c l r) i p =
    let sides = and_parts (is_perfect h l) (is_perfect h r) p in
    cond_both (nat_lt i (b + width l)) (way_hashes b l i) (way_hashes (b + width l) r i) (λ hs. length (hs ++ (tree_hash b (Branch c l r) ∷ [])) ≡ suc (suc h))
    (λ _. length-append (way_hashes b l i) (tree_hash b (Branch c l r) ∷ []) ∙ (let e = length-way_hashes h b l i sides.0 in omega arith))
    (λ _. length-append (way_hashes (b + width l) r i) (tree_hash b (Branch c l r) ∷ []) ∙ (let e = length-way_hashes h (b + width l) r i sides.1 in omega arith))
