-- Laws of the changes on the way to a leaf: put into the cells of a tree, they make the edited tree of it.
use Rattle.std.proofs.Common.{◌≡◌, ◌⊎◌, ℕ, zero, suc, ◌+◌, ◌*◌, ◌<◌, ◌≤◌, true, List, [], ◌∷◌, ◌++◌, length, get_or, take, drop, set, All, Option, Some, None, refl, sym, ◌∙◌, ap, subst, arith, inl, inr, length-append, length-drop, append_assoc, append-nil, lt-ltb, le-ltb}
use Rattle.std.specs.Prelude.{⊤}
use Rattle.std.proofs.lemmas.List.{set_at, take-append-drop, drop_more, length-take-le}
use Rattle.std.proofs.lemmas.List.Elements.{All-nil, All-cons, All-same, All-weaker}
use Rattle.std.proofs.lemmas.Bool.{true≢false, and_parts, and_from, cases_lt, cond-true, cond-false}
use Rattle.mls_leaf.specs.Parent.{Parent}
use Rattle.mls_leaf.specs.declared.leaf.LeafNode.{LeafNode}
use Rattle.mls_leaf.specs.declared.node.Node.{Node}
use Rattle.mls_tree_cells.specs.declared.changes.Change.{Change}
use Rattle.mls_tree_cells.specs.Cells.{put_nodes, drop_hashes_at}
use Rattle.mls_tree_model.specs.Term.{Term, Leaf, Branch, width, size, is_perfect}
use Rattle.mls_tree_model.specs.Edits.{put, enter, list_leaf}
use Rattle.mls_tree_model.specs.Merge.{merge}
use Rattle.mls_tree_model.specs.Arrays.{leaf_cell, parent_cell, in_order}
use Rattle.mls_tree_model.proofs.Equations.{put_leaf, put_left, put_right, enter_leaf, enter_left, enter_right, merge_leaf, merge_left, merge_right}
use Rattle.mls_tree_model.proofs.ShapeLaws.{size-width, size_from_width}
use Rattle.mls_tree_model.proofs.ArrayLaws.{length-in_order}
use Rattle.mls_tree_array.specs.Changes.{change, cells_on_way}
use Rattle.mls_tree_array.specs.KeptHashes.{drop_hashes}
use Rattle.mls_tree_array.proofs.KeptLaws.{dropped_leaf, dropped_left, dropped_right}
use Rattle.mls_tree_array.proofs.StandingLaws.{in_order-leaf, in_order-branch}
use Rattle.mls_tree_array.proofs.SpanLaws.{middle_set, behind_element}

-- ---- the cells on a way

pub cells_on_way_leaf : (b : ℕ) (v : Option LeafNode) (i : ℕ) → cells_on_way b (Leaf v) i ≡ change (2 * b) (leaf_cell v) ∷ []
unfolding cells_on_way
cells_on_way_leaf b v i = refl

module _ (b : ℕ) (c : Option Parent) (l r : Term) (i : ℕ) where
  pub cells_on_way_left : i < b + width l → cells_on_way b (Branch c l r) i ≡ change (2 * b + size l) (parent_cell c) ∷ cells_on_way b l i
  unfolding cells_on_way
  cells_on_way_left lt = ap (λ cs. change (2 * b + size l) (parent_cell c) ∷ cs) (cond-true _ _ _ (lt-ltb i (b + width l) lt))

  pub cells_on_way_right : b + width l ≤ i → cells_on_way b (Branch c l r) i ≡ change (2 * b + size l) (parent_cell c) ∷ cells_on_way (b + width l) r i
  unfolding cells_on_way
  cells_on_way_right ge = ap (λ cs. change (2 * b + size l) (parent_cell c) ∷ cs) (cond-false _ _ _ (le-ltb i (b + width l) ge))

-- one a level
pub length_on_way : (h b i : ℕ) (u : Term) → is_perfect h u ≡ true → length (cells_on_way b u i) ≡ suc h
unfolding is_perfect
length_on_way zero b i (Leaf v) p = ap length (cells_on_way_leaf b v i)
length_on_way (suc h) b i (Leaf v) p = absurd (true≢false (sym p))
length_on_way zero b i (Branch c l r) p = absurd (true≢false (sym p))
length_on_way (suc h) b i (Branch c l r) p =
    let sides = and_parts (is_perfect h l) (is_perfect h r) p in
    elim (cases_lt i (b + width l)) [
      | inl lt ↦ ap length (cells_on_way_left b c l r i lt) ∙ ap suc (length_on_way h b i l sides.0)
      | inr ge ↦ ap length (cells_on_way_right b c l r i ge) ∙ ap suc (length_on_way h (b + width l) i r sides.1)
    ]

-- a change whose place is below n
abbrev pub IsBelow : ℕ → Change → Type 0
IsBelow n c = c.place < n

pub below_more : (m n : ℕ) → m ≤ n → (cs : List Change) → All (IsBelow m) cs → All (IsBelow n) cs
below_more m n le = All-weaker (IsBelow m) (IsBelow n) (λ c lt. omega arith)

-- their places are those of nodes of the tree
pub places_on_way : (b i : ℕ) (u : Term) → All (λ (c : Change). c.place < 2 * b + size u) (cells_on_way b u i)
unfolding size
places_on_way b i (Leaf v) =
    let low : 2 * b < 2 * b + 1 = omega arith in
    All-same (IsBelow (2 * b + 1)) _ _ (cells_on_way_leaf b v i)
    (All-cons (IsBelow (2 * b + 1)) (change (2 * b) (leaf_cell v)) [] low (All-nil (IsBelow (2 * b + 1))))
places_on_way b i (Branch c l r) =
    let n : ℕ = 2 * b + (size l + suc (size r)) in
    let half : size l + 1 ≡ 2 * width l = size-width l in
    let root : 2 * b + size l < n = omega arith in
    elim (cases_lt i (b + width l)) [
      | inl lt ↦
          All-same (IsBelow n) _ _ (cells_on_way_left b c l r i lt)
          (All-cons (IsBelow n) (change (2 * b + size l) (parent_cell c)) (cells_on_way b l i) root
          (below_more (2 * b + size l) n (omega arith) (cells_on_way b l i) (places_on_way b i l)))
      | inr ge ↦
          All-same (IsBelow n) _ _ (cells_on_way_right b c l r i ge)
          (All-cons (IsBelow n) (change (2 * b + size l) (parent_cell c)) (cells_on_way (b + width l) r i) root
          (below_more (2 * (b + width l) + size r) n (omega arith) (cells_on_way (b + width l) r i) (places_on_way (b + width l) i r)))
    ]

-- ---- trees that differ on a way

-- two trees whose first leaf is b differ at most in leaf i and in the nodes over it
unfoldable pub DifferOnWay : ℕ → ℕ → Term → Term → Type 0
DifferOnWay b i (Leaf v) (Leaf w) = ⊤
DifferOnWay b i (Leaf v) (Branch d m s) = ⊥
DifferOnWay b i (Branch c l r) (Leaf w) = ⊥
DifferOnWay b i (Branch c l r) (Branch d m s) =
    ((i < b + width l) × (r ≡ s) × DifferOnWay b i l m) ⊎ ((b + width l ≤ i) × (l ≡ m) × DifferOnWay (b + width l) i r s)

differ_leaf : (b i : ℕ) (v w : Option LeafNode) → DifferOnWay b i (Leaf v) (Leaf w)
unfolding DifferOnWay
differ_leaf b i v w = tt

module _ (b i : ℕ) (c d : Option Parent) (l r : Term) where
  differ_left : (m : Term) → i < b + width l → DifferOnWay b i l m → DifferOnWay b i (Branch c l r) (Branch d m r)
  unfolding DifferOnWay
  differ_left m lt k = inl (lt, refl, k)

  differ_right : (s : Term) → b + width l ≤ i → DifferOnWay (b + width l) i r s → DifferOnWay b i (Branch c l r) (Branch d l s)
  unfolding DifferOnWay
  differ_right s ge k = inr (ge, refl, k)

  pub differ_sides : (m s : Term) → DifferOnWay b i (Branch c l r) (Branch d m s) → ((i < b + width l) × (r ≡ s) × DifferOnWay b i l m) ⊎ ((b + width l ≤ i) × (l ≡ m) × DifferOnWay (b + width l) i r s)
  unfolding DifferOnWay
  differ_sides m s k = k

pub no_branch : (b i : ℕ) (v : Option LeafNode) (d : Option Parent) (m s : Term) → DifferOnWay b i (Leaf v) (Branch d m s) → ⊥
unfolding DifferOnWay
no_branch b i v d m s k = k

pub no_leaf : (b i : ℕ) (c : Option Parent) (l r : Term) (w : Option LeafNode) → DifferOnWay b i (Branch c l r) (Leaf w) → ⊥
unfolding DifferOnWay
no_leaf b i c l r w k = k

pub differ_put : (b : ℕ) (t : Term) (i : ℕ) (x : Option LeafNode) → DifferOnWay b i t (put b t i x)
differ_put b (Leaf v) i x = rw (put_leaf b v i x) (differ_leaf b i v x)
differ_put b (Branch c l r) i x =
    elim (cases_lt i (b + width l)) [
      | inl lt ↦ rw (put_left b c l r i x lt) (differ_left b i c None l r (put b l i x) lt (differ_put b l i x))
      | inr ge ↦ rw (put_right b c l r i x ge) (differ_right b i c None l r (put (b + width l) r i x) ge (differ_put (b + width l) r i x))
    ]

pub differ_enter : (b : ℕ) (t : Term) (i : ℕ) (x : LeafNode) → DifferOnWay b i t (enter b t i x)
differ_enter b (Leaf v) i x = rw (enter_leaf b v i x) (differ_leaf b i v (Some x))
differ_enter b (Branch c l r) i x =
    elim (cases_lt i (b + width l)) [
      | inl lt ↦ rw (enter_left b c l r i x lt) (differ_left b i c (list_leaf i c) l r (enter b l i x) lt (differ_enter b l i x))
      | inr ge ↦ rw (enter_right b c l r i x ge) (differ_right b i c (list_leaf i c) l r (enter (b + width l) r i x) ge (differ_enter (b + width l) r i x))
    ]

pub differ_merge : (b : ℕ) (t : Term) (i : ℕ) (ks : List (List ℕ)) (h : List ℕ) (x : LeafNode) → DifferOnWay b i t (merge b t i ks h x)
differ_merge b (Leaf v) i ks h x = rw (merge_leaf b v i ks h x) (differ_leaf b i v (Some x))
differ_merge b (Branch c l r) i ks h x =
    elim (cases_lt i (b + width l)) [
      | inl lt ↦ rw (merge_left b c l r i ks h x lt) (differ_left b i c _ l r _ lt (differ_merge b l i _ _ x))
      | inr ge ↦ rw (merge_right b c l r i ks h x ge) (differ_right b i c _ l r _ ge (differ_merge (b + width l) r i _ _ x))
    ]

-- they have as many leaves
pub width_differ : (b i : ℕ) (t u : Term) → DifferOnWay b i t u → width u ≡ width t
unfolding width
width_differ b i (Leaf v) (Leaf w) k = refl
width_differ b i (Leaf v) (Branch d m s) k = absurd (no_branch b i v d m s k)
width_differ b i (Branch c l r) (Leaf w) k = absurd (no_leaf b i c l r w k)
width_differ b i (Branch c l r) (Branch d m s) k =
    elim (differ_sides b i c d l r m s k) [
      | inl e ↦
          let same : width r ≡ width s = ap width e.1 in
          let wide : width m ≡ width l = width_differ b i l m e.2 in
          omega arith
      | inr e ↦
          let same : width l ≡ width m = ap width e.1 in
          let wide : width s ≡ width r = width_differ (b + width l) i r s e.2 in
          omega arith
    ]

-- they have one shape
pub perfect_differ : (h b i : ℕ) (t u : Term) → is_perfect h t ≡ true → DifferOnWay b i t u → is_perfect h u ≡ true
unfolding is_perfect
perfect_differ zero b i (Leaf v) (Leaf w) p k = refl
perfect_differ zero b i (Leaf v) (Branch d m s) p k = absurd (no_branch b i v d m s k)
perfect_differ zero b i (Branch c l r) u p k = absurd (true≢false (sym p))
perfect_differ (suc h) b i (Leaf v) u p k = absurd (true≢false (sym p))
perfect_differ (suc h) b i (Branch c l r) (Leaf w) p k = absurd (no_leaf b i c l r w k)
perfect_differ (suc h) b i (Branch c l r) (Branch d m s) p k =
    let sides = and_parts (is_perfect h l) (is_perfect h r) p in
    elim (differ_sides b i c d l r m s k) [
      | inl e ↦ and_from (is_perfect h m) (is_perfect h s) (perfect_differ h b i l m sides.0 e.2) (subst (λ t. is_perfect h t ≡ true) e.1 sides.1)
      | inr e ↦ and_from (is_perfect h m) (is_perfect h s) (subst (λ t. is_perfect h t ≡ true) e.1 sides.0) (perfect_differ h (b + width l) i r s sides.1 e.2)
    ]

-- ---- changes, one after the other

-- F makes changes in a list: each sets f of it in its place
module _ {A : Type 0} (F : List Change → List A → List A) (f : Change → A) (none : (xs : List A) → F [] xs ≡ xs) (first : (c : Change) (cs : List Change) (xs : List A) → F (c ∷ cs) xs ≡ F cs (set xs c.place (f c))) where
  change_one : (c : Change) (p q : List A) (x : A) → length p ≡ c.place → F (c ∷ []) (p ++ (x ∷ q)) ≡ p ++ (f c ∷ q)
  change_one c p q x at = first c [] (p ++ (x ∷ q)) ∙ none (set (p ++ (x ∷ q)) c.place (f c)) ∙ set_at p x q (f c) c.place at

  -- the root, and then those of the left side, or of the right side
  change_left : (c : Change) (cs : List Change) (p l m r q : List A) (x : A) → length p + length l ≡ c.place → ((z : List A) → F cs (p ++ (l ++ z)) ≡ p ++ (m ++ z)) → F (c ∷ cs) (p ++ ((l ++ (x ∷ r)) ++ q)) ≡ p ++ ((m ++ (f c ∷ r)) ++ q)
  change_left c cs p l m r q x at below =
      first c cs (p ++ ((l ++ (x ∷ r)) ++ q))
      ∙ ap (F cs) (middle_set p l r q x (f c) c.place at)
      ∙ below (f c ∷ (r ++ q))
      ∙ ap (λ zs. p ++ zs) (sym (append_assoc m (f c ∷ r) q))

  change_right : (c : Change) (cs : List Change) (p l r s q : List A) (x : A) → length p + length l ≡ c.place → ((z : List A) → length z ≡ suc (length p + length l) → F cs (z ++ (r ++ q)) ≡ z ++ (s ++ q)) → F (c ∷ cs) (p ++ ((l ++ (x ∷ r)) ++ q)) ≡ p ++ ((l ++ (f c ∷ s)) ++ q)
  change_right c cs p l r s q x at below =
      first c cs (p ++ ((l ++ (x ∷ r)) ++ q))
      ∙ ap (F cs) (middle_set p l r q x (f c) c.place at ∙ behind_element p l (r ++ q) (f c))
      ∙ below (p ++ (l ++ (f c ∷ []))) (simp length-append (omega arith))
      ∙ sym (behind_element p l (s ++ q) (f c))
      ∙ ap (λ zs. p ++ zs) (sym (append_assoc l (f c ∷ s) q))

-- ---- the nodes

no_nodes : (xs : List (Option Node)) → put_nodes [] xs ≡ xs
no_nodes xs = refl

first_node : (c : Change) (cs : List Change) (xs : List (Option Node)) → put_nodes (c ∷ cs) xs ≡ put_nodes cs (set xs c.place c.slot)
first_node c cs xs = refl

pub nodes_on_way : (b i : ℕ) (t u : Term) (pre post : List (Option Node)) → DifferOnWay b i t u → length pre ≡ 2 * b → put_nodes (cells_on_way b u i) (pre ++ (in_order t ++ post)) ≡ pre ++ (in_order u ++ post)
nodes_on_way b i (Leaf v) (Leaf w) pre post k at =
    ap (λ cs. put_nodes cs (pre ++ (in_order (Leaf v) ++ post))) (cells_on_way_leaf b w i)
    ∙ ap (λ ys. put_nodes (change (2 * b) (leaf_cell w) ∷ []) (pre ++ (ys ++ post))) (in_order-leaf v)
    ∙ change_one put_nodes (λ c. c.slot) no_nodes first_node (change (2 * b) (leaf_cell w)) pre post (leaf_cell v) at
    ∙ ap (λ ys. pre ++ (ys ++ post)) (sym (in_order-leaf w))
nodes_on_way b i (Leaf v) (Branch d m s) pre post k at = absurd (no_branch b i v d m s k)
nodes_on_way b i (Branch c l r) (Leaf w) pre post k at = absurd (no_leaf b i c l r w k)
nodes_on_way b i (Branch c l r) (Branch d m s) pre post k at =
    let left : length (in_order l) ≡ size l = length-in_order l in
    let half : size l + 1 ≡ 2 * width l = size-width l in
    let root : Change = change (2 * b + size m) (parent_cell d) in
    elim (differ_sides b i c d l r m s k) [
      | inl e ↦
          let wide : width m ≡ width l = width_differ b i l m e.2 in
          let many : size m ≡ size l = size_from_width m l wide in
          let place : length pre + length (in_order l) ≡ 2 * b + size m = omega arith in
          ap (λ cs. put_nodes cs (pre ++ (in_order (Branch c l r) ++ post))) (cells_on_way_left b d m s i (let lt = e.0 in omega arith))
          ∙ ap (λ ys. put_nodes (root ∷ cells_on_way b m i) (pre ++ (ys ++ post))) (in_order-branch c l r)
          ∙ change_left put_nodes (λ c. c.slot) no_nodes first_node root (cells_on_way b m i) pre (in_order l) (in_order m) (in_order r) post (parent_cell c) place
          (λ z. nodes_on_way b i l m pre z e.2 at)
          ∙ ap (λ t. pre ++ ((in_order m ++ (parent_cell d ∷ in_order t)) ++ post)) e.1
          ∙ ap (λ ys. pre ++ (ys ++ post)) (sym (in_order-branch d m s))
      | inr e ↦
          let wide : width l ≡ width m = ap width e.1 in
          let many : size l ≡ size m = ap size e.1 in
          let place : length pre + length (in_order l) ≡ 2 * b + size m = omega arith in
          ap (λ cs. put_nodes cs (pre ++ (in_order (Branch c l r) ++ post))) (cells_on_way_right b d m s i (let ge = e.0 in omega arith))
          ∙ ap (λ ys. put_nodes (root ∷ cells_on_way (b + width m) s i) (pre ++ (ys ++ post))) (in_order-branch c l r)
          ∙ ap (λ w. put_nodes (root ∷ cells_on_way (b + w) s i) (pre ++ ((in_order l ++ (parent_cell c ∷ in_order r)) ++ post))) (sym wide)
          ∙ change_right put_nodes (λ c. c.slot) no_nodes first_node root (cells_on_way (b + width l) s i) pre (in_order l) (in_order r) (in_order s) post (parent_cell c) place
          (λ z long. nodes_on_way (b + width l) i r s z post e.2 (omega arith))
          ∙ ap (λ t. pre ++ ((in_order t ++ (parent_cell d ∷ in_order s)) ++ post)) e.1
          ∙ ap (λ ys. pre ++ (ys ++ post)) (sym (in_order-branch d m s))
    ]

-- of a whole tree
pub nodes_whole : (i : ℕ) (t u : Term) → DifferOnWay 0 i t u → put_nodes (cells_on_way 0 u i) (in_order t) ≡ in_order u
nodes_whole i t u k =
    ap (put_nodes (cells_on_way 0 u i)) (sym (append-nil (in_order t)))
    ∙ nodes_on_way 0 i t u [] [] k (omega arith)
    ∙ append-nil (in_order u)

-- ---- the hashes

no_hashes : (hs : List (Option (List ℕ))) → drop_hashes_at [] hs ≡ hs
no_hashes hs = refl

first_hash : (c : Change) (cs : List Change) (hs : List (Option (List ℕ))) → drop_hashes_at (c ∷ cs) hs ≡ drop_hashes_at cs (set hs c.place None)
first_hash c cs hs = refl

one_hash : (hs : List (Option (List ℕ))) → length hs ≡ 1 → hs ≡ get_or hs 0 None ∷ []
one_hash [] e = absurd (omega arith)
one_hash (x ∷ []) e = refl
one_hash (x ∷ y ∷ hs) e = absurd (omega arith)

-- a list by the place n of a root
at_root : (n : ℕ) (hs : List (Option (List ℕ))) → n < length hs → hs ≡ take n hs ++ (get_or hs n None ∷ drop (suc n) hs)
at_root n hs within =
    let next : n + 1 ≡ suc n = omega arith in
    sym (take-append-drop n hs)
    ∙ ap (λ ys. take n hs ++ ys) (drop_more hs n None within)
    ∙ ap (λ k. take n hs ++ (get_or hs n None ∷ drop k hs)) next

pub hashes_on_way : (b i : ℕ) (t u : Term) (pre hs post : List (Option (List ℕ))) → DifferOnWay b i t u → length pre ≡ 2 * b → length hs ≡ size t → drop_hashes_at (cells_on_way b u i) (pre ++ (hs ++ post)) ≡ pre ++ (drop_hashes b t i hs ++ post)
unfolding size
hashes_on_way b i (Leaf v) (Leaf w) pre hs post k at long =
    ap (λ cs. drop_hashes_at cs (pre ++ (hs ++ post))) (cells_on_way_leaf b w i)
    ∙ ap (λ ys. drop_hashes_at (change (2 * b) (leaf_cell w) ∷ []) (pre ++ (ys ++ post))) (one_hash hs long)
    ∙ change_one drop_hashes_at (λ c. None) no_hashes first_hash (change (2 * b) (leaf_cell w)) pre post (get_or hs 0 None) at
    ∙ ap (λ ys. pre ++ (ys ++ post)) (sym (dropped_leaf b v i hs))
hashes_on_way b i (Leaf v) (Branch d m s) pre hs post k at long = absurd (no_branch b i v d m s k)
hashes_on_way b i (Branch c l r) (Leaf w) pre hs post k at long = absurd (no_leaf b i c l r w k)
hashes_on_way b i (Branch c l r) (Branch d m s) pre hs post k at long =
    let front : List (Option (List ℕ)) = take (size l) hs in
    let back : List (Option (List ℕ)) = drop (suc (size l)) hs in
    let left : length front ≡ size l = length-take-le (size l) hs (omega arith) in
    let right : length back ≡ size r = length-drop (suc (size l)) hs ∙ omega arith in
    let half : size l + 1 ≡ 2 * width l = size-width l in
    let root : Change = change (2 * b + size m) (parent_cell d) in
    elim (differ_sides b i c d l r m s k) [
      | inl e ↦
          let wide : width m ≡ width l = width_differ b i l m e.2 in
          let many : size m ≡ size l = size_from_width m l wide in
          let place : length pre + length front ≡ 2 * b + size m = omega arith in
          ap (λ cs. drop_hashes_at cs (pre ++ (hs ++ post))) (cells_on_way_left b d m s i (let lt = e.0 in omega arith))
          ∙ ap (λ ys. drop_hashes_at (root ∷ cells_on_way b m i) (pre ++ (ys ++ post))) (at_root (size l) hs (omega arith))
          ∙ change_left drop_hashes_at (λ c. None) no_hashes first_hash root (cells_on_way b m i) pre front (drop_hashes b l i front) back post (get_or hs (size l) None) place
          (λ z. hashes_on_way b i l m pre front z e.2 at left)
          ∙ ap (λ ys. pre ++ (ys ++ post)) (sym (dropped_left b c l r i hs e.0))
      | inr e ↦
          let wide : width l ≡ width m = ap width e.1 in
          let many : size l ≡ size m = ap size e.1 in
          let place : length pre + length front ≡ 2 * b + size m = omega arith in
          ap (λ cs. drop_hashes_at cs (pre ++ (hs ++ post))) (cells_on_way_right b d m s i (let ge = e.0 in omega arith))
          ∙ ap (λ ys. drop_hashes_at (root ∷ cells_on_way (b + width m) s i) (pre ++ (ys ++ post))) (at_root (size l) hs (omega arith))
          ∙ ap (λ w. drop_hashes_at (root ∷ cells_on_way (b + w) s i) (pre ++ ((front ++ (get_or hs (size l) None ∷ back)) ++ post))) (sym wide)
          ∙ change_right drop_hashes_at (λ c. None) no_hashes first_hash root (cells_on_way (b + width l) s i) pre front back (drop_hashes (b + width l) r i back) post (get_or hs (size l) None) place
          (λ z far. hashes_on_way (b + width l) i r s z back post e.2 (omega arith) right)
          ∙ ap (λ ys. pre ++ (ys ++ post)) (sym (dropped_right b c l r i hs e.0))
    ]

-- of a whole tree
pub hashes_whole : (i : ℕ) (t u : Term) (hs : List (Option (List ℕ))) → DifferOnWay 0 i t u → length hs ≡ size t → drop_hashes_at (cells_on_way 0 u i) hs ≡ drop_hashes 0 t i hs
hashes_whole i t u hs k long =
    ap (drop_hashes_at (cells_on_way 0 u i)) (sym (append-nil hs))
    ∙ hashes_on_way 0 i t u [] hs [] k (omega arith) long
    ∙ append-nil (drop_hashes 0 t i hs)
