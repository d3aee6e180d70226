-- Laws of the nodes beside the way to a leaf: they stay in an edit of that leaf.
use Rattle.std.proofs.Common.{◌≡◌, ℕ, zero, suc, ◌+◌, ◌-◌, ◌*◌, ◌<◌, ◌≤◌, true, false, List, ◌∷◌, ◌++◌, length, get_or, Option, Some, None, refl, sym, ◌∙◌, ap, arith, inl, inr}
use Rattle.std.proofs.lemmas.Bool.{true≢false, cases_lt, cases_order, and_parts}
use Rattle.std.proofs.lemmas.List.{get_or_at, get_or_append_left, get_or-append_right}
use Rattle.mls_leaf.specs.Parent.{Parent}
use Rattle.mls_leaf.specs.declared.leaf.LeafNode.{LeafNode}
use Rattle.mls_leaf.specs.declared.node.Node.{Node}
use Rattle.mls_treemath.specs.Paths.{nodes_in}
use Rattle.mls_tree_model.specs.Term.{Term, Leaf, Branch, width, is_perfect}
use Rattle.mls_tree_model.specs.Sets.{has}
use Rattle.mls_tree_model.specs.Edits.{put, enter}
use Rattle.mls_tree_model.specs.Merge.{merge}
use Rattle.mls_tree_model.specs.Arrays.{parent_cell, in_order}
use Rattle.mls_tree_model.proofs.Equations.{put_leaf, put_left, put_right, enter_leaf, enter_left, enter_right, merge_leaf, merge_left, merge_right}
use Rattle.mls_tree_model.proofs.ShapeLaws.{width-perfect, width-put, width-enter, size_from_width}
use Rattle.mls_tree_model.proofs.MergeLaws.{width-merge}
use Rattle.mls_tree_model.proofs.ArrayLaws.{nodes_in-leaves, length-in_order, size-perfect}
use Rattle.mls_tree_array.proofs.StandingLaws.{in_order-leaf, in_order-branch}
use Rattle.mls_tree.specs.Way.{numbers_from}
use Rattle.mls_tree.proofs.WayLaws.{numbers_leaf, numbers_left, numbers_right, other_number}

-- a cell of a list in three parts
module _ (xs ys : List (Option Node)) (c : Option Node) (m : ℕ) (e : length xs ≡ m) where
  cell_before : (y : ℕ) → y < m → get_or (xs ++ (c ∷ ys)) y None ≡ get_or xs y None
  cell_before y lt = get_or_append_left xs (c ∷ ys) None y (omega arith)

  cell_there : (y : ℕ) → y ≡ m → get_or (xs ++ (c ∷ ys)) y None ≡ c
  cell_there y at = get_or_at xs c ys None y (e ∙ sym at)

  cell_behind : (y : ℕ) → m < y → get_or (xs ++ (c ∷ ys)) y None ≡ get_or ys (y - suc m) None
  cell_behind y lt =
      let k : y - m ≡ suc (y - suc m) = omega arith in
      get_or-append_right xs (c ∷ ys) m y None e (omega arith) ∙ ap (λ j. get_or (c ∷ ys) j None) k

-- each cell beside the way to leaf i is the same in trees t and u of height h, whose first leaf is b
abbrev pub StaysBeside : ℕ → ℕ → ℕ → Term → Term → Type 0
StaysBeside h b i t u =
    (y : ℕ) → has (numbers_from h b i) (2 * b + y) ≡ false → get_or (in_order u) y None ≡ get_or (in_order t) y None

module _ (h b i y : ℕ) (c : Option Parent) (l r : Term) (long : length (in_order l) ≡ nodes_in h) where
  pub in_left : y < nodes_in h → get_or (in_order (Branch c l r)) y None ≡ get_or (in_order l) y None
  in_left lt = ap (λ zs. get_or zs y None) (in_order-branch c l r) ∙ cell_before (in_order l) (in_order r) (parent_cell c) (nodes_in h) long y lt

  pub in_right : nodes_in h < y → get_or (in_order (Branch c l r)) y None ≡ get_or (in_order r) (y - suc (nodes_in h)) None
  in_right lt = ap (λ zs. get_or zs y None) (in_order-branch c l r) ∙ cell_behind (in_order l) (in_order r) (parent_cell c) (nodes_in h) long y lt

  pub at_root : y ≡ nodes_in h → get_or (in_order (Branch c l r)) y None ≡ parent_cell c
  at_root at = ap (λ zs. get_or zs y None) (in_order-branch c l r) ∙ cell_there (in_order l) (in_order r) (parent_cell c) (nodes_in h) long y at

pub long_as : (h : ℕ) (t u : Term) → is_perfect h t ≡ true → width u ≡ width t → length (in_order u) ≡ nodes_in h
long_as h t u p w = length-in_order u ∙ size_from_width u t w ∙ size-perfect h t p

module _ (h b i : ℕ) (c d : Option Parent) (l r : Term) (p : is_perfect h l ≡ true) where
  stays_left : (u : Term) → width u ≡ width l → i < b + width l → StaysBeside h b i l u → StaysBeside (suc h) b i (Branch c l r) (Branch d u r)
  stays_left u wide lt stays y out =
      let w = width-perfect h l p in
      let beside = other_number _ _ _ (sym (ap (λ ns. has ns (2 * b + y)) (numbers_left h b i (omega arith))) ∙ out) in
      let old = long_as h l l p refl in
      let new = long_as h l u p wide in
      elim (cases_order y (nodes_in h)) [
        | inl same ↦ absurd (beside.0 (omega arith))
        | inr (inl low) ↦ in_left h b i y d u r new low ∙ stays y beside.1 ∙ sym (in_left h b i y c l r old low)
        | inr (inr high) ↦ in_right h b i y d u r new high ∙ sym (in_right h b i y c l r old high)
      ]

  stays_right : (u : Term) → b + width l ≤ i → StaysBeside h (b + width l) i r u → StaysBeside (suc h) b i (Branch c l r) (Branch d l u)
  stays_right u ge stays y out =
      let w = width-perfect h l p in
      let beside = other_number _ _ _ (sym (ap (λ ns. has ns (2 * b + y)) (numbers_right h b i (omega arith))) ∙ out) in
      let long = long_as h l l p refl in
      elim (cases_order y (nodes_in h)) [
        | inl same ↦ absurd (beside.0 (omega arith))
        | inr (inl low) ↦ in_left h b i y d l u long low ∙ sym (in_left h b i y c l r long low)
        | inr (inr high) ↦
            let half = nodes_in-leaves h in
            let at : 2 * (b + width l) + (y - suc (nodes_in h)) ≡ 2 * b + y = omega arith in
            in_right h b i y d l u long high
            ∙ stays (y - suc (nodes_in h)) (ap (has (numbers_from h (b + width l) i)) at ∙ ap (λ k. has (numbers_from h (b + k) i) (2 * b + y)) w ∙ beside.1)
            ∙ sym (in_right h b i y c l r long high)
      ]

stays_leaf : (b i : ℕ) (v w : Option LeafNode) → StaysBeside 0 b i (Leaf v) (Leaf w)
stays_leaf b i v w zero out =
    let beside = other_number _ _ _ (sym (ap (λ ns. has ns (2 * b + 0)) (numbers_leaf b i)) ∙ out) in
    absurd (beside.0 (omega arith))
stays_leaf b i v w (suc y) out =
    ap (λ zs. get_or zs (suc y) None) (in_order-leaf w) ∙ sym (ap (λ zs. get_or zs (suc y) None) (in_order-leaf v))

-- ---- in each edit

pub put_stays : (h b : ℕ) (t : Term) (i : ℕ) (v : Option LeafNode) → is_perfect h t ≡ true → StaysBeside h b i t (put b t i v)
unfolding is_perfect
put_stays zero b (Leaf w) i v p = rw (put_leaf b w i v) (stays_leaf b i w v)
put_stays (suc h) b (Leaf w) i v p = absurd (true≢false (sym p))
put_stays zero b (Branch c l r) i v p = absurd (true≢false (sym p))
put_stays (suc h) b (Branch c l r) i v p =
    let sides = and_parts (is_perfect h l) (is_perfect h r) p in
    elim (cases_lt i (b + width l)) [
      | inl lt ↦ rw (put_left b c l r i v lt) (stays_left h b i c None l r sides.0 (put b l i v) (width-put b l i v) lt (put_stays h b l i v sides.0))
      | inr ge ↦ rw (put_right b c l r i v ge) (stays_right h b i c None l r sides.0 (put (b + width l) r i v) ge (put_stays h (b + width l) r i v sides.1))
    ]

pub enter_stays : (h b : ℕ) (t : Term) (i : ℕ) (x : LeafNode) → is_perfect h t ≡ true → StaysBeside h b i t (enter b t i x)
unfolding is_perfect
enter_stays zero b (Leaf w) i x p = rw (enter_leaf b w i x) (stays_leaf b i w (Some x))
enter_stays (suc h) b (Leaf w) i x p = absurd (true≢false (sym p))
enter_stays zero b (Branch c l r) i x p = absurd (true≢false (sym p))
enter_stays (suc h) b (Branch c l r) i x p =
    let sides = and_parts (is_perfect h l) (is_perfect h r) p in
    elim (cases_lt i (b + width l)) [
      | inl lt ↦ rw (enter_left b c l r i x lt) (stays_left h b i c _ l r sides.0 (enter b l i x) (width-enter b l i x) lt (enter_stays h b l i x sides.0))
      | inr ge ↦ rw (enter_right b c l r i x ge) (stays_right h b i c _ l r sides.0 (enter (b + width l) r i x) ge (enter_stays h (b + width l) r i x sides.1))
    ]

pub merge_stays : (h b : ℕ) (t : Term) (i : ℕ) (ks : List (List ℕ)) (g : List ℕ) (x : LeafNode) → is_perfect h t ≡ true → StaysBeside h b i t (merge b t i ks g x)
unfolding is_perfect
merge_stays zero b (Leaf w) i ks g x p = rw (merge_leaf b w i ks g x) (stays_leaf b i w (Some x))
merge_stays (suc h) b (Leaf w) i ks g x p = absurd (true≢false (sym p))
merge_stays zero b (Branch c l r) i ks g x p = absurd (true≢false (sym p))
merge_stays (suc h) b (Branch c l r) i ks g x p =
    let sides = and_parts (is_perfect h l) (is_perfect h r) p in
    elim (cases_lt i (b + width l)) [
      | inl lt ↦ rw (merge_left b c l r i ks g x lt) (stays_left h b i c _ l r sides.0 _ (width-merge b l i _ _ x) lt (merge_stays h b l i _ _ x sides.0))
      | inr ge ↦ rw (merge_right b c l r i ks g x ge) (stays_right h b i c _ l r sides.0 _ ge (merge_stays h (b + width l) r i _ _ x sides.1))
    ]
