-- Whether a member's private keys are exactly those that are due, as code goes over the nodes.
use Rattle.std.proofs.Common.{◌≡◌, ℕ, zero, suc, ◌+◌, ◌-◌, ◌*◌, ◌^◌, ◌<◌, ◌≤◌, Bool, true, false, ◌&&◌, List, [], ◌∷◌, length, map, Option, Some, refl, sym, subst, ◌∙◌, ap, ap₂, inl, inr, arith, lt-ltb, le-ltb, le-leb}
use Rattle.std.specs.Int.{w32, trailing_zeros}
use Rattle.std.proofs.lemmas.Bool.{cases_lt, cond-true, cond-false, and_parts, true≢false, lt-leb}
use Rattle.std.proofs.lemmas.List.{length-map}
use Rattle.mls_leaf.specs.Parent.{Parent}
use Rattle.mls_leaf.specs.declared.leaf.LeafNode.{LeafNode}
use Rattle.mls_suite.specs.Crypto.{Crypto}
use Rattle.mls_tree_model.specs.Term.{Term, Leaf, Branch, width, height, is_perfect, leaf_at, leaf_of}
use Rattle.mls_tree_model.specs.Way.{way}
use Rattle.mls_tree_model.specs.Arrays.{parent_in, node_at}
use Rattle.mls_tree_model.proofs.ShapeLaws.{width-perfect}
use Rattle.mls_tree.specs.Tree.{Tree, term}
use Rattle.mls_tree.proofs.Perfect.{perfect}
use Rattle.mls_treekem.specs.declared.places.Place.{Place}
use Rattle.mls_treekem_model.specs.Holding.{holds_at, holds_own, holds_along, holds_exact}
use Rattle.mls_treekem_model.specs.Keys.{PrivateKeys, all_keys, key_above, keys_on_way}
use Rattle.mls_treekem_model.proofs.HeightLaws.{own_above, way_height}
use Rattle.mls_treekem.specs.Holding.{last_on_way, is_own, holds_on}
use Rattle.mls_treekem.specs.Place.{place, places_from, step_of}
use Rattle.mls_treekem.proofs.Place.{length-places, places_left, places_right, way_found, zeros_are}

-- ---- the leaf at the end of a way

module _ (h b j : ℕ) where
  last_left : j < b + 2 ^ h → last_on_way (suc h) b j ≡ last_on_way h b j
  unfolding last_on_way
  last_left k = cond-true _ _ _ (lt-ltb j (b + 2 ^ h) k)

  last_right : b + 2 ^ h ≤ j → last_on_way (suc h) b j ≡ last_on_way h (b + 2 ^ h) j
  unfolding last_on_way
  last_right k = cond-false _ _ _ (le-ltb j (b + 2 ^ h) k)

record Ends (h b : ℕ) (t : Term) (j : ℕ) : Type 0 where
  low : b ≤ last_on_way h b j
  high : last_on_way h b j < b + width t
  same : leaf_at b t (last_on_way h b j) ≡ leaf_at b t j

ends : (h b : ℕ) (t : Term) (j : ℕ) → is_perfect h t ≡ true → Ends h b t j
unfolding is_perfect last_on_way leaf_at width
ends zero b (Leaf v) j e = record { low = omega arith; high = omega arith; same = refl }
ends (suc h) b (Leaf v) j e = absurd (true≢false (sym e))
ends zero b (Branch c l r) j e = absurd (true≢false (sym e))
ends (suc h) b (Branch c l r) j e =
    let p = and_parts (is_perfect h l) (is_perfect h r) e in
    let w : width l ≡ 2 ^ h = width-perfect h l p.0 in
    elim (cases_lt j (b + 2 ^ h)) [
      | inl k ↦
          let below = ends h b l j p.0 in
          let is = last_left h b j k in
          record {
            low = rw is below.low;
            high = rw is (omega (arith, below.high));
            same = rw is (cond-true _ _ _ (lt-ltb (last_on_way h b j) (b + width l) below.high) ∙ below.same ∙ sym (cond-true _ _ _ (lt-ltb j (b + width l) (omega (arith, w)))));
          }
      | inr k ↦
          let below : Ends h (b + width l) r j = ends h (b + width l) r j p.1 in
          let is : last_on_way (suc h) b j ≡ last_on_way h (b + width l) j = last_right h b j k ∙ ap (λ n. last_on_way h (b + n) j) (sym w) in
          record {
            low = rw is (omega (arith, below.low));
            high = rw is (omega (arith, below.high));
            same = rw is (cond-false _ _ _ (le-ltb (last_on_way h (b + width l) j) (b + width l) below.low) ∙ below.same ∙ sym (cond-false _ _ _ (le-ltb j (b + width l) (omega (arith, w)))));
          }
    ]

last_is : (h : ℕ) (t : Term) (j : ℕ) → is_perfect h t ≡ true → leaf_of t (last_on_way h 0 j) ≡ leaf_at 0 t j
unfolding leaf_of
last_is h t j e =
    let end = ends h 0 t j e in
    let inside : last_on_way h 0 j < width t = omega (arith, end.high) in
    cond-true _ _ _ (lt-ltb (last_on_way h 0 j) (width t) inside) ∙ end.same

-- ---- the nodes over a leaf

module _ (c : Crypto) (t : Term) (p : PrivateKeys) where
  abbrev pub held_over : ℕ → ℕ → Bool
  held_over h b = holds_on c p (map (step_of t) (places_from h b p.leaf)) (leaf_of t (last_on_way h b p.leaf))

  pub held_leaf : (h b : ℕ) → h ≡ 0 → (x : Option LeafNode) → x ≡ leaf_of t b → (k : List ℕ) → k ≡ p.own → is_own c x k ≡ held_over h b
  unfolding places_from last_on_way keys_on_way holds_along
  held_leaf h b e x is k own =
      rw e (ap₂ (λ y z. is_own c y z) is own ∙ ap (λ o. holds_own c (leaf_of t b) (o ∷ [])) (sym (own_above p.above (Some p.own))))

  -- at a parent with a side of w leaves
  module _ (h b : ℕ) (ne : h ≡ 0 → ⊥) (w : ℕ) (w_is : w ≡ 2 ^ (h - 1)) where
    abbrev pub held_here : Bool
    held_here = holds_at c p.leaf (parent_in (node_at 0 t (2 * b + (2 * w - 1)))) (key_above h (all_keys p))

    one_more : h ≡ suc (h - 1)
    one_more = omega arith

    held_more : (q : Place) (b' : ℕ) → q.node ≡ 2 * b + (2 * w - 1) → places_from h b p.leaf ≡ q ∷ places_from (h - 1) b' p.leaf → last_on_way h b p.leaf ≡ last_on_way (h - 1) b' p.leaf → held_over h b ≡ (held_here && held_over (h - 1) b')
    unfolding holds_along keys_on_way step_of
    held_more q b' node e last =
        let below : length (map (step_of t) (places_from (h - 1) b' p.leaf)) ≡ h - 1 = length-map (places_from (h - 1) b' p.leaf) (step_of t) ∙ length-places (h - 1) b' p.leaf in
        ap₂ (λ qs i. holds_on c p (map (step_of t) qs) (leaf_of t i)) e last
        ∙ ap₂ (λ n k. holds_at c p.leaf (parent_in (node_at 0 t n)) (key_above k (all_keys p)) && held_over (h - 1) b') node (ap suc below ∙ sym one_more)

    left_is : p.leaf < b + w → places_from h b p.leaf ≡ place (2 * b + (2 * w - 1)) (2 * (b + w) + (w - 1)) (b + w) w ∷ places_from (h - 1) b p.leaf
    left_is =
        subst (λ v. p.leaf < b + v → places_from h b p.leaf ≡ place (2 * b + (2 * v - 1)) (2 * (b + v) + (v - 1)) (b + v) v ∷ places_from (h - 1) b p.leaf) (sym w_is)
        (λ lt. ap (λ n. places_from n b p.leaf) one_more ∙ places_left (h - 1) b p.leaf lt)

    right_is : b + w ≤ p.leaf → places_from h b p.leaf ≡ place (2 * b + (2 * w - 1)) (2 * b + (w - 1)) b w ∷ places_from (h - 1) (b + w) p.leaf
    right_is =
        subst (λ v. b + v ≤ p.leaf → places_from h b p.leaf ≡ place (2 * b + (2 * v - 1)) (2 * b + (v - 1)) b v ∷ places_from (h - 1) (b + v) p.leaf) (sym w_is)
        (λ ge. ap (λ n. places_from n b p.leaf) one_more ∙ places_right (h - 1) b p.leaf ge)

    end_left : p.leaf < b + w → last_on_way h b p.leaf ≡ last_on_way (h - 1) b p.leaf
    end_left =
        subst (λ v. p.leaf < b + v → last_on_way h b p.leaf ≡ last_on_way (h - 1) b p.leaf) (sym w_is)
        (λ lt. ap (λ n. last_on_way n b p.leaf) one_more ∙ last_left (h - 1) b p.leaf lt)

    end_right : b + w ≤ p.leaf → last_on_way h b p.leaf ≡ last_on_way (h - 1) (b + w) p.leaf
    end_right =
        subst (λ v. b + v ≤ p.leaf → last_on_way h b p.leaf ≡ last_on_way (h - 1) (b + v) p.leaf) (sym w_is)
        (λ ge. ap (λ n. last_on_way n b p.leaf) one_more ∙ last_right (h - 1) b p.leaf ge)

    more_left : p.leaf < b + w → held_over h b ≡ (held_here && held_over (h - 1) b)
    more_left lt = held_more (place (2 * b + (2 * w - 1)) (2 * (b + w) + (w - 1)) (b + w) w) b refl (left_is lt) (end_left lt)

    more_right : b + w ≤ p.leaf → held_over h b ≡ (held_here && held_over (h - 1) (b + w))
    more_right ge = held_more (place (2 * b + (2 * w - 1)) (2 * b + (w - 1)) b w) (b + w) refl (right_is ge) (end_right ge)

    -- what code read there
    module _ (held : Bool) (j : ℕ) (q : Option Parent) (k : Option (List ℕ)) (is : held ≡ holds_at c j q k) (j_is : j ≡ p.leaf) (q_is : q ≡ parent_in (node_at 0 t (2 * b + (2 * w - 1)))) (k_is : k ≡ key_above h (all_keys p)) where
      held_is : held ≡ held_here
      held_is = is ∙ ap (λ i. holds_at c i q k) j_is ∙ ap₂ (λ x y. holds_at c p.leaf x y) q_is k_is

      pub held_left : held ≡ true → j < b + w → (lower : Bool) → lower ≡ held_over (h - 1) b → lower ≡ held_over h b
      held_left d lt lower e = e ∙ sym (more_left (subst (λ i. i < b + w) j_is lt) ∙ ap (λ z. z && held_over (h - 1) b) (sym held_is ∙ d))

      pub held_right : held ≡ true → b + w ≤ j → (lower : Bool) → lower ≡ held_over (h - 1) (b + w) → lower ≡ held_over h b
      held_right d ge lower e = e ∙ sym (more_right (subst (λ i. b + w ≤ i) j_is ge) ∙ ap (λ z. z && held_over (h - 1) (b + w)) (sym held_is ∙ d))

      pub held_not : held ≡ false → false ≡ held_over h b
      held_not d = elim (cases_lt p.leaf (b + w)) [
        | inl lt ↦ sym (more_left lt ∙ ap (λ z. z && held_over (h - 1) b) (sym held_is ∙ d))
        | inr ge ↦ sym (more_right ge ∙ ap (λ z. z && held_over (h - 1) (b + w)) (sym held_is ∙ d))
      ]

-- ---- in a whole tree, whose number of leaves is n

module _ (c : Crypto) (t : Tree) (n : ℕ) (e : n ≡ width (term t)) (lt : n < 2 ^ 32) (p : PrivateKeys) where
  -- the keys that code has are as many
  module _ (count : ℕ) (count_is : count ≡ length p.above) where
    long : length (way 0 (term t) p.leaf) ≡ trailing_zeros w32 n
    long = way_height (height (term t)) 0 (term t) p.leaf (perfect t) ∙ sym (zeros_are t n e lt)

    along : holds_on c p (way 0 (term t) p.leaf) (leaf_at 0 (term t) p.leaf) ≡ held_over c (term t) p (trailing_zeros w32 n) 0
    along =
        let w = way_found t n e lt p.leaf (places_from (trailing_zeros w32 n) 0 p.leaf) refl in
        let end : leaf_of (term t) (last_on_way (trailing_zeros w32 n) 0 p.leaf) ≡ leaf_at 0 (term t) p.leaf = ap (λ h. leaf_of (term t) (last_on_way h 0 p.leaf)) (zeros_are t n e lt) ∙ last_is (height (term t)) (term t) p.leaf (perfect t) in
        ap₂ (λ ss x. holds_on c p ss x) (sym w.steps) (sym end)

    pub too_many : trailing_zeros w32 n < count → false ≡ holds_exact c (term t) p
    unfolding holds_exact
    too_many lt = sym (ap (λ z. z && holds_on c p (way 0 (term t) p.leaf) (leaf_at 0 (term t) p.leaf)) (lt-leb _ _ (omega (arith, long, count_is))))

    pub as_along : count ≤ trailing_zeros w32 n → (found : Bool) → found ≡ held_over c (term t) p (trailing_zeros w32 n) 0 → found ≡ holds_exact c (term t) p
    unfolding holds_exact
    as_along low found is = is ∙ sym along ∙ sym (ap (λ z. z && holds_on c p (way 0 (term t) p.leaf) (leaf_at 0 (term t) p.leaf)) (le-leb _ _ (omega (arith, long, count_is))))
