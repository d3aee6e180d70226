-- Laws of the hashes on the way to a leaf: where an edit left none of them, keeping theirs makes all hashes right.
use Rattle.std.proofs.Common.{◌≡◌, ◌⊎◌, ℕ, zero, suc, ◌+◌, ◌-◌, ◌*◌, ◌^◌, ◌<◌, ◌≤◌, nat_lt, cond, true, List, [], ◌∷◌, ◌++◌, length, get_or, take, drop, set, Option, Some, None, refl, sym, ◌∙◌, ap, subst, arith, inl, inr, length-append, length-drop, append_assoc, append-nil, lt-ltb, le-ltb}
use Rattle.std.proofs.lemmas.List.{set_at, take_at, get_or_at, get_or-set_other, length-set, length-take-le}
use Rattle.std.proofs.lemmas.Bool.{true≢false, and_parts, cases_lt, cond-true, cond-false, cond_both}
use Rattle.mls_leaf.specs.Parent.{Parent}
use Rattle.mls_leaf.specs.declared.leaf.LeafNode.{LeafNode}
use Rattle.mls_treemath.specs.Paths.{nodes_in}
use Rattle.mls_treemath.proofs.Sizes.{nodes_in-suc, nodes_in_pos}
use Rattle.mls_tree_model.specs.Term.{Term, Leaf, Branch, width, size, is_perfect}
use Rattle.mls_tree_model.specs.Hashes.{tree_hash}
use Rattle.mls_tree_model.proofs.ShapeLaws.{size-width, width-perfect}
use Rattle.mls_tree_model.proofs.ArrayLaws.{nodes_in-leaves, size-perfect}
use Rattle.mls_tree_array.specs.KeptHashes.{hashes_of, drop_hashes}
use Rattle.mls_tree_array.specs.WayHashes.{way_hashes, IsColdOnWay, keep_on_way}
use Rattle.mls_tree_array.proofs.KeptLaws.{left_part, right_part, length-hashes_of, hashes_of_branch, length-drop_hashes, dropped_leaf, dropped_left, dropped_right}
use Rattle.mls_tree_array.proofs.WayHashLaws.{way_hashes_leaf, way_hashes_left, way_hashes_right, length-way_hashes}
use Rattle.mls_tree_array.proofs.SpanLaws.{middle_set, behind_element, lowered, root_leaf, root_suc}
use Rattle.mls_tree_array.proofs.ChangeLaws.{DifferOnWay, differ_sides, no_branch, no_leaf, width_differ, perfect_differ}

-- ---- nodes that are cold

-- the first leaf of the side that leaf i is on
abbrev pub side_first : ℕ → ℕ → ℕ → ℕ
side_first h b i = cond (nat_lt i (b + 2 ^ h)) b (b + 2 ^ h)

module _ (h b i : ℕ) where
  first_left : i < b + 2 ^ h → side_first h b i ≡ b
  first_left lt = cond-true (nat_lt i (b + 2 ^ h)) b (b + 2 ^ h) (lt-ltb i (b + 2 ^ h) lt)

  first_right : b + 2 ^ h ≤ i → side_first h b i ≡ b + 2 ^ h
  first_right ge = cond-false (nat_lt i (b + 2 ^ h)) b (b + 2 ^ h) (le-ltb i (b + 2 ^ h) ge)

  module _ (hs : List (Option (List ℕ))) where
    cold_from : get_or hs (2 * b + nodes_in h) (Some []) ≡ None → IsColdOnWay h (side_first h b i) i hs → IsColdOnWay (suc h) b i hs
    unfolding IsColdOnWay
    cold_from root side = (root, side)

    cold_parts : IsColdOnWay (suc h) b i hs → (get_or hs (2 * b + nodes_in h) (Some []) ≡ None) × IsColdOnWay h (side_first h b i) i hs
    unfolding IsColdOnWay
    cold_parts k = k

cold_leaf : (b i : ℕ) (hs : List (Option (List ℕ))) → get_or hs (2 * b) (Some []) ≡ None → IsColdOnWay 0 b i hs
unfolding IsColdOnWay
cold_leaf b i hs e = e

leaf_cold : (b i : ℕ) (hs : List (Option (List ℕ))) → IsColdOnWay 0 b i hs → get_or hs (2 * b) (Some []) ≡ None
unfolding IsColdOnWay
leaf_cold b i hs k = k

-- a place outside a tree isn't one in it
apart : (low high n m : ℕ) → (n < low) ⊎ (high ≤ n) → low ≤ m → m < high → m ≡ n → ⊥
apart low high n m (inl lt) from to e = omega arith
apart low high n m (inr ge) from to e = omega arith

outside_side : (h b i n : ℕ) → (n < 2 * b) ⊎ (2 * b + nodes_in (suc h) ≤ n) → (n < 2 * side_first h b i) ⊎ (2 * side_first h b i + nodes_in h ≤ n)
outside_side h b i n (inl lt) =
    cond_both (nat_lt i (b + 2 ^ h)) b (b + 2 ^ h) (λ c. (n < 2 * c) ⊎ (2 * c + nodes_in h ≤ n)) (λ _. inl lt) (λ _. inl (omega arith))
outside_side h b i n (inr ge) =
    let sum = nodes_in-suc h in
    let half = nodes_in-leaves h in
    cond_both (nat_lt i (b + 2 ^ h)) b (b + 2 ^ h) (λ c. (n < 2 * c) ⊎ (2 * c + nodes_in h ≤ n)) (λ _. inr (omega arith)) (λ _. inr (omega arith))

-- they stay so where a place outside the tree is set
pub cold_below : (h b i n : ℕ) (hs : List (Option (List ℕ))) (x : Option (List ℕ)) → IsColdOnWay h b i hs → (n < 2 * b) ⊎ (2 * b + nodes_in h ≤ n) → IsColdOnWay h b i (set hs n x)
cold_below zero b i n hs x k out =
    let some = nodes_in_pos 0 in
    cold_leaf b i (set hs n x)
    (get_or-set_other hs n (2 * b) x (Some []) (apart (2 * b) (2 * b + nodes_in 0) n (2 * b) out (omega arith) (omega arith)) ∙ leaf_cold b i hs k)
cold_below (suc h) b i n hs x k out =
    let sum = nodes_in-suc h in
    let parts = cold_parts h b i hs k in
    cold_from h b i (set hs n x)
    (get_or-set_other hs n (2 * b + nodes_in h) x (Some []) (apart (2 * b) (2 * b + nodes_in (suc h)) n (2 * b + nodes_in h) out (omega arith) (omega arith)) ∙ parts.0)
    (cold_below h (side_first h b i) i n hs x parts.1 (outside_side h b i n out))

-- a cell behind a side, in a list with more before it
root_read : (p l z : List (Option (List ℕ))) (x : Option (List ℕ)) (n : ℕ) → length p + length l ≡ n → get_or (p ++ (l ++ (x ∷ z))) n (Some []) ≡ x
root_read p l z x n at =
    ap (λ ys. get_or ys n (Some [])) (sym (append_assoc p l (x ∷ z))) ∙ get_or_at (p ++ l) x z (Some []) n (length-append p l ∙ at)

-- an edit leaves them so
pub cold_dropped : (h b i : ℕ) (t : Term) (pre hs post : List (Option (List ℕ))) → is_perfect h t ≡ true → length pre ≡ 2 * b → length hs ≡ size t → IsColdOnWay h b i (pre ++ (drop_hashes b t i hs ++ post))
unfolding is_perfect size
cold_dropped zero b i (Leaf v) pre hs post p at long =
    cold_leaf b i (pre ++ (drop_hashes b (Leaf v) i hs ++ post))
    (ap (λ ys. get_or (pre ++ (ys ++ post)) (2 * b) (Some [])) (dropped_leaf b v i hs) ∙ get_or_at pre None post (Some []) (2 * b) at)
cold_dropped (suc h) b i (Leaf v) pre hs post p at long = absurd (true≢false (sym p))
cold_dropped zero b i (Branch c l r) pre hs post p at long = absurd (true≢false (sym p))
cold_dropped (suc h) b i (Branch c l r) pre hs post p at long =
    let sides = and_parts (is_perfect h l) (is_perfect h r) p in
    let count : size l ≡ nodes_in h = size-perfect h l sides.0 in
    let wide : width l ≡ 2 ^ h = width-perfect h l sides.0 in
    let half : size l + 1 ≡ 2 * width l = size-width l in
    let front : List (Option (List ℕ)) = take (size l) hs in
    let back : List (Option (List ℕ)) = drop (suc (size l)) hs in
    let left : length front ≡ size l = length-take-le (size l) hs (omega arith) in
    let right : length back ≡ size r = length-drop (suc (size l)) hs ∙ omega arith in
    elim (cases_lt i (b + width l)) [
      | inl lt ↦
          let new : List (Option (List ℕ)) = drop_hashes b l i front in
          let as_long : length new ≡ size l = length-drop_hashes b l i front left in
          let is : pre ++ (drop_hashes b (Branch c l r) i hs ++ post) ≡ pre ++ (new ++ (None ∷ (back ++ post))) =
          ap (λ ys. pre ++ (ys ++ post)) (dropped_left b c l r i hs lt) ∙ ap (λ ys. pre ++ ys) (append_assoc new (None ∷ back) post) in
          subst (IsColdOnWay (suc h) b i) (sym is)
          (cold_from h b i (pre ++ (new ++ (None ∷ (back ++ post))))
          (root_read pre new (back ++ post) None (2 * b + nodes_in h) (omega arith))
          (subst (λ k. IsColdOnWay h k i (pre ++ (new ++ (None ∷ (back ++ post))))) (sym (first_left h b i (omega arith)))
          (cold_dropped h b i l pre front (None ∷ (back ++ post)) sides.0 at left)))
      | inr ge ↦
          let new : List (Option (List ℕ)) = drop_hashes (b + width l) r i back in
          let all : List (Option (List ℕ)) = pre ++ (front ++ (None ∷ (new ++ post))) in
          let before : List (Option (List ℕ)) = pre ++ (front ++ (None ∷ [])) in
          let far : length (pre ++ (front ++ (None ∷ []))) ≡ 2 * (b + width l) = simp length-append (omega arith) in
          let is : pre ++ (drop_hashes b (Branch c l r) i hs ++ post) ≡ all =
          ap (λ ys. pre ++ (ys ++ post)) (dropped_right b c l r i hs ge) ∙ ap (λ ys. pre ++ ys) (append_assoc front (None ∷ new) post) in
          subst (IsColdOnWay (suc h) b i) (sym is)
          (cold_from h b i all
          (root_read pre front (new ++ post) None (2 * b + nodes_in h) (omega arith))
          (subst (λ k. IsColdOnWay h k i all) (sym (first_right h b i (omega arith)))
          (subst (λ w. IsColdOnWay h (b + w) i all) wide
          (subst (IsColdOnWay h (b + width l) i) (sym (behind_element pre front (new ++ post) None))
          (cold_dropped h (b + width l) i r before back post sides.1 far right)))))
    ]

pub cold_whole : (h i : ℕ) (t : Term) (hs : List (Option (List ℕ))) → is_perfect h t ≡ true → length hs ≡ size t → IsColdOnWay h 0 i (drop_hashes 0 t i hs)
cold_whole h i t hs p long =
    subst (IsColdOnWay h 0 i) (append-nil (drop_hashes 0 t i hs)) (cold_dropped h 0 i t [] hs [] p (omega arith) long)

-- ---- hashes that are kept on a way

keep_zero : (b i : ℕ) (ws : List (List ℕ)) (hs : List (Option (List ℕ))) → keep_on_way 0 b i ws hs ≡ set hs (2 * b) (Some (get_or ws 0 []))
unfolding keep_on_way
keep_zero b i ws hs = refl

module _ (h b i : ℕ) (ws : List (List ℕ)) (hs : List (Option (List ℕ))) where
  keep_side : keep_on_way (suc h) b i ws hs ≡ keep_on_way h (side_first h b i) i (take (suc h) ws) (set hs (2 * b + nodes_in h) (Some (get_or ws (suc h) [])))
  unfolding keep_on_way
  keep_side = refl

  keep_left : i < b + 2 ^ h → keep_on_way (suc h) b i ws hs ≡ keep_on_way h b i (take (suc h) ws) (set hs (2 * b + nodes_in h) (Some (get_or ws (suc h) [])))
  keep_left lt =
      keep_side
      ∙ ap (λ c. keep_on_way h c i (take (suc h) ws) (set hs (2 * b + nodes_in h) (Some (get_or ws (suc h) [])))) (first_left h b i lt)

  keep_right : b + 2 ^ h ≤ i → keep_on_way (suc h) b i ws hs ≡ keep_on_way h (b + 2 ^ h) i (take (suc h) ws) (set hs (2 * b + nodes_in h) (Some (get_or ws (suc h) [])))
  keep_right ge =
      keep_side
      ∙ ap (λ c. keep_on_way h c i (take (suc h) ws) (set hs (2 * b + nodes_in h) (Some (get_or ws (suc h) [])))) (first_right h b i ge)

pub length_kept : (h b i : ℕ) (new : List (List ℕ)) (hs : List (Option (List ℕ))) → length (keep_on_way h b i new hs) ≡ length hs
length_kept zero b i new hs = ap length (keep_zero b i new hs) ∙ length-set hs (2 * b) (Some (get_or new 0 []))
length_kept (suc h) b i new hs =
    ap length (keep_side h b i new hs)
    ∙ length_kept h (side_first h b i) i (take (suc h) new) (set hs (2 * b + nodes_in h) (Some (get_or new (suc h) [])))
    ∙ length-set hs (2 * b + nodes_in h) (Some (get_or new (suc h) []))

-- the hashes of a tree without those on a way, by its sides
module _ (b : ℕ) (c : Option Parent) (l r : Term) (i : ℕ) where
  abbrev all : List (Option (List ℕ))
  all = hashes_of b (Branch c l r)

  front_of : take (size l) all ≡ hashes_of b l
  front_of = ap (take (size l)) (hashes_of_branch b c l r) ∙ left_part (hashes_of b l) (hashes_of (b + width l) r) (Some (tree_hash b (Branch c l r))) (size l) (length-hashes_of b l)

  back_of : drop (suc (size l)) all ≡ hashes_of (b + width l) r
  back_of = ap (drop (suc (size l))) (hashes_of_branch b c l r) ∙ right_part (hashes_of b l) (hashes_of (b + width l) r) (Some (tree_hash b (Branch c l r))) (size l) (length-hashes_of b l)

  left_dropped : i < b + width l → drop_hashes b (Branch c l r) i all ≡ drop_hashes b l i (hashes_of b l) ++ (None ∷ hashes_of (b + width l) r)
  left_dropped lt =
      dropped_left b c l r i all lt
      ∙ ap (λ ys. drop_hashes b l i ys ++ (None ∷ drop (suc (size l)) all)) front_of
      ∙ ap (λ ys. drop_hashes b l i (hashes_of b l) ++ (None ∷ ys)) back_of

  right_dropped : b + width l ≤ i → drop_hashes b (Branch c l r) i all ≡ hashes_of b l ++ (None ∷ drop_hashes (b + width l) r i (hashes_of (b + width l) r))
  right_dropped ge =
      dropped_right b c l r i all ge
      ∙ ap (λ ys. ys ++ (None ∷ drop_hashes (b + width l) r i (drop (suc (size l)) all))) front_of
      ∙ ap (λ ys. hashes_of b l ++ (None ∷ drop_hashes (b + width l) r i ys)) back_of

-- the hash of the root is kept, and those of a side are then
module _ (h b f i : ℕ) (lows : List (List ℕ)) (top : List ℕ) (few : length lows ≡ suc h) (hs : List (Option (List ℕ))) where
  kept_step : keep_on_way h f i (take (suc h) (lows ++ (top ∷ []))) (set hs (2 * b + nodes_in h) (Some (get_or (lows ++ (top ∷ [])) (suc h) []))) ≡ keep_on_way h f i lows (set hs (2 * b + nodes_in h) (Some top))
  kept_step =
      ap (λ ws. keep_on_way h f i ws (set hs (2 * b + nodes_in h) (Some (get_or (lows ++ (top ∷ [])) (suc h) [])))) (take_at lows (top ∷ []) (suc h) few)
      ∙ ap (λ w. keep_on_way h f i lows (set hs (2 * b + nodes_in h) (Some w))) (get_or_at lows top [] [] (suc h) few)

hashes_of_leaf : (b : ℕ) (v : Option LeafNode) → hashes_of b (Leaf v) ≡ Some (tree_hash b (Leaf v)) ∷ []
unfolding hashes_of
hashes_of_leaf b v = refl

pub kept_on_way : (h b i : ℕ) (t u : Term) (pre post : List (Option (List ℕ))) → is_perfect h t ≡ true → DifferOnWay b i t u → length pre ≡ 2 * b → keep_on_way h b i (way_hashes b u i) (pre ++ (drop_hashes b t i (hashes_of b t) ++ post)) ≡ pre ++ (hashes_of b u ++ post)
unfolding is_perfect
kept_on_way zero b i (Leaf v) (Leaf w) pre post p k at =
    let own : List ℕ = tree_hash b (Leaf w) in
    ap (λ ws. keep_on_way 0 b i ws (pre ++ (drop_hashes b (Leaf v) i (hashes_of b (Leaf v)) ++ post))) (way_hashes_leaf b w i)
    ∙ ap (λ ys. keep_on_way 0 b i (own ∷ []) (pre ++ (ys ++ post))) (dropped_leaf b v i (hashes_of b (Leaf v)))
    ∙ keep_zero b i (own ∷ []) (pre ++ (None ∷ post))
    ∙ set_at pre None post (Some own) (2 * b) at
    ∙ ap (λ ys. pre ++ (ys ++ post)) (sym (hashes_of_leaf b w))
kept_on_way zero b i (Leaf v) (Branch d m s) pre post p k at = absurd (no_branch b i v d m s k)
kept_on_way zero b i (Branch c l r) u pre post p k at = absurd (true≢false (sym p))
kept_on_way (suc h) b i (Leaf v) u pre post p k at = absurd (true≢false (sym p))
kept_on_way (suc h) b i (Branch c l r) (Leaf w) pre post p k at = absurd (no_leaf b i c l r w k)
kept_on_way (suc h) b i (Branch c l r) (Branch d m s) pre post p k at =
    let sides = and_parts (is_perfect h l) (is_perfect h r) p in
    let count : size l ≡ nodes_in h = size-perfect h l sides.0 in
    let as_wide : width l ≡ 2 ^ h = width-perfect h l sides.0 in
    let half : size l + 1 ≡ 2 * width l = size-width l in
    let top : List ℕ = tree_hash b (Branch d m s) in
    let old : List (Option (List ℕ)) = drop_hashes b (Branch c l r) i (hashes_of b (Branch c l r)) in
    elim (differ_sides b i c d l r m s k) [
      | inl e ↦
          let wide : width m ≡ width l = width_differ b i l m e.2 in
          let low : i < b + width l = e.0 in
          let lows : List (List ℕ) = way_hashes b m i in
          let few : length lows ≡ suc h = length-way_hashes h b m i (perfect_differ h b i l m sides.0 e.2) in
          let new : List (Option (List ℕ)) = drop_hashes b l i (hashes_of b l) in
          let long : length new ≡ size l = length-drop_hashes b l i (hashes_of b l) (length-hashes_of b l) in
          let other : List (Option (List ℕ)) = hashes_of (b + width l) r in
          let same : hashes_of (b + width l) r ≡ hashes_of (b + width m) s = ap (hashes_of (b + width l)) e.1 ∙ ap (λ w. hashes_of (b + w) s) (sym wide) in
          ap (λ ws. keep_on_way (suc h) b i ws (pre ++ (old ++ post))) (way_hashes_left b d m s i (omega arith))
          ∙ keep_left h b i (lows ++ (top ∷ [])) (pre ++ (old ++ post)) (omega arith)
          ∙ kept_step h b b i lows top few (pre ++ (old ++ post))
          ∙ ap (λ ys. keep_on_way h b i lows (set (pre ++ (ys ++ post)) (2 * b + nodes_in h) (Some top))) (left_dropped b c l r i low)
          ∙ ap (keep_on_way h b i lows) (middle_set pre new other post None (Some top) (2 * b + nodes_in h) (omega arith))
          ∙ kept_on_way h b i l m pre (Some top ∷ (other ++ post)) sides.0 e.2 at
          ∙ ap (λ ys. pre ++ (hashes_of b m ++ (Some top ∷ (ys ++ post)))) same
          ∙ ap (λ ys. pre ++ ys) (sym (append_assoc (hashes_of b m) (Some top ∷ hashes_of (b + width m) s) post))
          ∙ ap (λ ys. pre ++ (ys ++ post)) (sym (hashes_of_branch b d m s))
      | inr e ↦
          let wide : width l ≡ width m = ap width e.1 in
          let high : b + width l ≤ i = e.0 in
          let f : ℕ = b + width l in
          let lows : List (List ℕ) = way_hashes f s i in
          let few : length lows ≡ suc h = length-way_hashes h f s i (perfect_differ h f i r s sides.1 e.2) in
          let new : List (Option (List ℕ)) = drop_hashes f r i (hashes_of f r) in
          let first : List (Option (List ℕ)) = hashes_of b l in
          let long : length first ≡ size l = length-hashes_of b l in
          let before : List (Option (List ℕ)) = pre ++ (first ++ (Some top ∷ [])) in
          let far : length (pre ++ (first ++ (Some top ∷ []))) ≡ 2 * (b + width l) = simp length-append (omega arith) in
          ap (λ ws. keep_on_way (suc h) b i ws (pre ++ (old ++ post))) (way_hashes_right b d m s i (omega arith) ∙ ap (λ w. way_hashes (b + w) s i ++ (top ∷ [])) (sym wide))
          ∙ keep_right h b i (lows ++ (top ∷ [])) (pre ++ (old ++ post)) (omega arith)
          ∙ kept_step h b (b + 2 ^ h) i lows top few (pre ++ (old ++ post))
          ∙ ap (λ w. keep_on_way h (b + w) i lows (set (pre ++ (old ++ post)) (2 * b + nodes_in h) (Some top))) (sym as_wide)
          ∙ ap (λ ys. keep_on_way h f i lows (set (pre ++ (ys ++ post)) (2 * b + nodes_in h) (Some top))) (right_dropped b c l r i high)
          ∙ ap (keep_on_way h f i lows) (middle_set pre first new post None (Some top) (2 * b + nodes_in h) (omega arith) ∙ behind_element pre first (new ++ post) (Some top))
          ∙ kept_on_way h f i r s before post sides.1 e.2 far
          ∙ sym (behind_element pre first (hashes_of f s ++ post) (Some top))
          ∙ ap (λ w. pre ++ (first ++ (Some top ∷ (hashes_of (b + w) s ++ post)))) wide
          ∙ ap (λ t. pre ++ (hashes_of b t ++ (Some top ∷ (hashes_of (b + width m) s ++ post)))) e.1
          ∙ ap (λ ys. pre ++ ys) (sym (append_assoc (hashes_of b m) (Some top ∷ hashes_of (b + width m) s) post))
          ∙ ap (λ ys. pre ++ (ys ++ post)) (sym (hashes_of_branch b d m s))
    ]

pub kept_whole : (h i : ℕ) (t u : Term) → is_perfect h t ≡ true → DifferOnWay 0 i t u → keep_on_way h 0 i (way_hashes 0 u i) (drop_hashes 0 t i (hashes_of 0 t)) ≡ hashes_of 0 u
kept_whole h i t u p k =
    ap (keep_on_way h 0 i (way_hashes 0 u i)) (sym (append-nil (drop_hashes 0 t i (hashes_of 0 t))))
    ∙ kept_on_way h 0 i t u [] [] p k (omega arith)
    ∙ append-nil (hashes_of 0 u)

-- ---- as code has them: the root's number is r

module _ (k b i r : ℕ) (hs : List (Option (List ℕ))) (x : Option (List ℕ)) (at : suc r ≡ 2 * b + 2 ^ suc k) where
  left_stays : i < b + 2 ^ k → IsColdOnWay (suc k) b i hs → IsColdOnWay k b i (set hs r x)
  left_stays lt cold =
      let root = root_suc k b r at in
      cold_below k b i r hs x (subst (λ c. IsColdOnWay k c i hs) (first_left k b i lt) (cold_parts k b i hs cold).1) (inr (omega arith))

  right_stays : b + 2 ^ k ≤ i → IsColdOnWay (suc k) b i hs → IsColdOnWay k (b + 2 ^ k) i (set hs r x)
  right_stays ge cold =
      let root = root_suc k b r at in
      cold_below k (b + 2 ^ k) i r hs x (subst (λ c. IsColdOnWay k c i hs) (first_right k b i ge) (cold_parts k b i hs cold).1) (inl (omega (arith, nodes_in-leaves k)))

-- the root is cold
pub cold_root : (h b i r : ℕ) (hs : List (Option (List ℕ))) → suc r ≡ 2 * b + 2 ^ h → IsColdOnWay h b i hs → get_or hs r (Some []) ≡ None
cold_root zero b i r hs at cold = ap (λ j. get_or hs j (Some [])) (root_leaf 0 b r refl at) ∙ leaf_cold b i hs cold
cold_root (suc h) b i r hs at cold = ap (λ j. get_or hs j (Some [])) (root_suc h b r at) ∙ (cold_parts h b i hs cold).0

-- those of the side stay so where it is set
pub cold_left : (h b i r : ℕ) (hs : List (Option (List ℕ))) (x : Option (List ℕ)) → 0 < h → suc r ≡ 2 * b + 2 ^ h → i < b + 2 ^ (h - 1) → IsColdOnWay h b i hs → IsColdOnWay (h - 1) b i (set hs r x)
cold_left h b i r hs x pos =
    lowered (λ j k. suc r ≡ 2 * b + 2 ^ j → i < b + 2 ^ k → IsColdOnWay j b i hs → IsColdOnWay k b i (set hs r x)) (λ k at. left_stays k b i r hs x at) h pos

pub cold_right : (h b i r : ℕ) (hs : List (Option (List ℕ))) (x : Option (List ℕ)) → 0 < h → suc r ≡ 2 * b + 2 ^ h → b + 2 ^ (h - 1) ≤ i → IsColdOnWay h b i hs → IsColdOnWay (h - 1) (b + 2 ^ (h - 1)) i (set hs r x)
cold_right h b i r hs x pos =
    lowered (λ j k. suc r ≡ 2 * b + 2 ^ j → b + 2 ^ k ≤ i → IsColdOnWay j b i hs → IsColdOnWay k (b + 2 ^ k) i (set hs r x)) (λ k at. right_stays k b i r hs x at) h pos

-- the hash of a leaf is kept, or that of a root and then those of a side
module _ (h b i r : ℕ) (ws : List (List ℕ)) (hs : List (Option (List ℕ))) where
  pub keep_one : h ≡ 0 → suc r ≡ 2 * b + 2 ^ h → set hs r (Some (get_or ws h [])) ≡ keep_on_way h b i ws hs
  keep_one low at =
      ap (λ k. set hs r (Some (get_or ws k []))) low
      ∙ ap (λ j. set hs j (Some (get_or ws 0 []))) (root_leaf h b r low at)
      ∙ sym (keep_zero b i ws hs)
      ∙ ap (λ k. keep_on_way k b i ws hs) (sym low)

  pub keep_in_left : 0 < h → suc r ≡ 2 * b + 2 ^ h → i < b + 2 ^ (h - 1) → keep_on_way (h - 1) b i (take h ws) (set hs r (Some (get_or ws h []))) ≡ keep_on_way h b i ws hs
  keep_in_left pos =
      lowered (λ j k. suc r ≡ 2 * b + 2 ^ j → i < b + 2 ^ k → keep_on_way k b i (take j ws) (set hs r (Some (get_or ws j []))) ≡ keep_on_way j b i ws hs)
      (λ k at lt. ap (λ n. keep_on_way k b i (take (suc k) ws) (set hs n (Some (get_or ws (suc k) [])))) (root_suc k b r at) ∙ sym (keep_left k b i ws hs lt))
      h pos

  pub keep_in_right : 0 < h → suc r ≡ 2 * b + 2 ^ h → b + 2 ^ (h - 1) ≤ i → keep_on_way (h - 1) (b + 2 ^ (h - 1)) i (take h ws) (set hs r (Some (get_or ws h []))) ≡ keep_on_way h b i ws hs
  keep_in_right pos =
      lowered (λ j k. suc r ≡ 2 * b + 2 ^ j → b + 2 ^ k ≤ i → keep_on_way k (b + 2 ^ k) i (take j ws) (set hs r (Some (get_or ws j []))) ≡ keep_on_way j b i ws hs)
      (λ k at ge. ap (λ n. keep_on_way k (b + 2 ^ k) i (take (suc k) ws) (set hs n (Some (get_or ws (suc k) [])))) (root_suc k b r at) ∙ sym (keep_right k b i ws hs ge))
      h pos
