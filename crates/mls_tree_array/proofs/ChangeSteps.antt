-- Edits at a leaf as changes, by the first step on the way to it.
use Rattle.std.proofs.Common.{◌≡◌, ℕ, ◌+◌, ◌*◌, ◌<◌, ◌≤◌, List, [], ◌∷◌, ◌++◌, Option, Some, None, sym, ◌∙◌, ap, inl, inr, arith, append_assoc}
use Rattle.std.proofs.lemmas.List.Elements.{All-same, All-push}
use Rattle.mls_leaf.specs.Parent.{Parent}
use Rattle.mls_leaf.specs.declared.leaf.LeafNode.{LeafNode}
use Rattle.mls_leaf.specs.declared.node.Node.{Node}
use Rattle.mls_tree_cells.specs.declared.changes.Change.{Change}
use Rattle.mls_tree_model.specs.Term.{Term, Leaf, Branch, width, size}
use Rattle.mls_tree_model.specs.Edits.{put, enter, list_leaf}
use Rattle.mls_tree_model.specs.Resolution.{is_reached}
use Rattle.mls_tree_model.specs.Merge.{merge, parent_beside, keys_beside, hash_beside}
use Rattle.mls_tree_model.specs.Arrays.{leaf_cell, parent_cell}
use Rattle.mls_tree_model.proofs.Equations.{put_leaf, put_left, put_right, enter_leaf, enter_left, enter_right, merge_leaf, merge_left, merge_right}
use Rattle.mls_tree_model.proofs.ShapeLaws.{size-width}
use Rattle.mls_tree_array.specs.Changes.{change, cells_on_way, AreBelow}
use Rattle.mls_tree_array.specs.Merging.{path_parents, first_if, rest_if}
use Rattle.mls_tree_array.specs.Subtrees.{Subtree, root_number, IsOver, IsStep}
use Rattle.mls_tree_array.proofs.ChangeLaws.{cells_on_way_leaf, cells_on_way_left, cells_on_way_right, DifferOnWay, differ_put, differ_enter, differ_merge, width_differ}
use Rattle.mls_tree_array.proofs.HashedLaws.{within, left_within, right_within}
use Rattle.mls_tree_array.proofs.Merged.{no_parents, none_below, first_made, rest_made}
use Rattle.mls_tree_array.proofs.StepLaws.{parents_step}

-- ---- at a leaf

module _ (t : Subtree) (v : Option LeafNode) (is : t.term ≡ Leaf v) (i : ℕ) (n : ℕ) (at : n ≡ root_number t.first t.term) where
  own : n ≡ 2 * t.first
  own = at ∙ ap (root_number t.first) is ∙ omega arith

  pub leaf_of : (x : Option LeafNode) → cells_on_way t.first (Leaf x) i ≡ change n (leaf_cell x) ∷ []
  leaf_of x = cells_on_way_leaf t.first x i ∙ ap (λ m. change m (leaf_cell x) ∷ []) (sym own)

  pub put_here : (x : Option LeafNode) → cells_on_way t.first (put t.first t.term i x) i ≡ change n (leaf_cell x) ∷ []
  put_here x = ap (λ u. cells_on_way t.first (put t.first u i x) i) is ∙ ap (λ u. cells_on_way t.first u i) (put_leaf t.first v i x) ∙ leaf_of x

  pub enter_here : (x : LeafNode) → cells_on_way t.first (enter t.first t.term i x) i ≡ change n (leaf_cell (Some x)) ∷ []
  enter_here x = ap (λ u. cells_on_way t.first (enter t.first u i x) i) is ∙ ap (λ u. cells_on_way t.first u i) (enter_leaf t.first v i x) ∙ leaf_of (Some x)

  pub merge_here : (ks : List (List ℕ)) (h : List ℕ) (x : LeafNode) → cells_on_way t.first (merge t.first t.term i ks h x) i ≡ change n (leaf_cell (Some x)) ∷ []
  merge_here ks h x = ap (λ u. cells_on_way t.first (merge t.first u i ks h x) i) is ∙ ap (λ u. cells_on_way t.first u i) (merge_leaf t.first v i ks h x) ∙ leaf_of (Some x)

-- ---- at a parent

-- whose one side has become another tree
module _ (b i : ℕ) (d : Option Parent) (l r : Term) where
  pub way_on_left : (m : Term) → i < b + width l → DifferOnWay b i l m → cells_on_way b (Branch d m r) i ≡ change (2 * b + size l) (parent_cell d) ∷ cells_on_way b m i
  way_on_left m lt k =
      let same : width m ≡ width l = width_differ b i l m k in
      let long : size m ≡ size l = omega (arith, size-width m, size-width l) in
      cells_on_way_left b d m r i (omega arith) ∙ ap (λ n. change (2 * b + n) (parent_cell d) ∷ cells_on_way b m i) long

  pub way_on_right : (s : Term) → b + width l ≤ i → cells_on_way b (Branch d l s) i ≡ change (2 * b + size l) (parent_cell d) ∷ cells_on_way (b + width l) s i
  way_on_right s ge = cells_on_way_right b d l s i ge

module _ (t : Subtree) (i : ℕ) (s : Subtree) (c : Option Parent) (o : Subtree) (step : IsStep t i s c o) (n : ℕ) (at : n ≡ root_number t.first t.term) where
  low : (l r : Subtree) → IsOver t l c r → i < r.first → i < t.first + width l.term
  low l r over lt = let is = over.right_first in omega arith

  high : (l r : Subtree) → IsOver t l c r → r.first ≤ i → t.first + width l.term ≤ i
  high l r over ge = let is = over.right_first in omega arith

  root : (l r : Subtree) → IsOver t l c r → 2 * t.first + size l.term ≡ n
  root l r over = sym (at ∙ ap (root_number t.first) over.is)

  pub put_over : (x : Option LeafNode) → cells_on_way t.first (put t.first t.term i x) i ≡ change n None ∷ cells_on_way s.first (put s.first s.term i x) i
  put_over x =
      elim step.turn [
        | inl w ↦
            rw (w.0.is, w.0.left_first, put_left t.first c s.term o.term i x (low s o w.0 w.1))
            (way_on_left t.first i None s.term o.term (put t.first s.term i x) (low s o w.0 w.1) (differ_put t.first s.term i x)
            ∙ ap (λ m. change m None ∷ cells_on_way t.first (put t.first s.term i x) i) (root s o w.0))
        | inr w ↦
            rw (w.0.is, w.0.right_first, put_right t.first c o.term s.term i x (high o s w.0 w.1))
            (way_on_right t.first i None o.term s.term (put (t.first + width o.term) s.term i x) (high o s w.0 w.1)
            ∙ ap (λ m. change m None ∷ cells_on_way (t.first + width o.term) (put (t.first + width o.term) s.term i x) i) (root o s w.0))
      ]

  pub enter_over : (x : LeafNode) → cells_on_way t.first (enter t.first t.term i x) i ≡ change n (parent_cell (list_leaf i c)) ∷ cells_on_way s.first (enter s.first s.term i x) i
  enter_over x =
      elim step.turn [
        | inl w ↦
            rw (w.0.is, w.0.left_first, enter_left t.first c s.term o.term i x (low s o w.0 w.1))
            (way_on_left t.first i (list_leaf i c) s.term o.term (enter t.first s.term i x) (low s o w.0 w.1) (differ_enter t.first s.term i x)
            ∙ ap (λ m. change m (parent_cell (list_leaf i c)) ∷ cells_on_way t.first (enter t.first s.term i x) i) (root s o w.0))
        | inr w ↦
            rw (w.0.is, w.0.right_first, enter_right t.first c o.term s.term i x (high o s w.0 w.1))
            (way_on_right t.first i (list_leaf i c) o.term s.term (enter (t.first + width o.term) s.term i x) (high o s w.0 w.1)
            ∙ ap (λ m. change m (parent_cell (list_leaf i c)) ∷ cells_on_way (t.first + width o.term) (enter (t.first + width o.term) s.term i x) i) (root o s w.0))
      ]

  module _ (ks : List (List ℕ)) (h : List ℕ) where
    pub merge_over : (x : LeafNode) → cells_on_way t.first (merge t.first t.term i ks h x) i ≡ change n (parent_cell (parent_beside o.first o.term ks h)) ∷ cells_on_way s.first (merge s.first s.term i (keys_beside o.first o.term ks) (hash_beside o.first o.term ks h) x) i
    merge_over x =
        elim step.turn [
          | inl w ↦
              rw (w.0.is, w.0.left_first, w.0.right_first, merge_left t.first c s.term o.term i ks h x (low s o w.0 w.1))
              (way_on_left t.first i _ s.term o.term _ (low s o w.0 w.1) (differ_merge t.first s.term i _ _ x)
              ∙ ap (λ m. change m (parent_cell (parent_beside (t.first + width s.term) o.term ks h)) ∷ cells_on_way t.first (merge t.first s.term i (keys_beside (t.first + width s.term) o.term ks) (hash_beside (t.first + width s.term) o.term ks h) x) i) (root s o w.0))
          | inr w ↦
              rw (w.0.is, w.0.left_first, w.0.right_first, merge_right t.first c o.term s.term i ks h x (high o s w.0 w.1))
              (way_on_right t.first i _ o.term s.term _ (high o s w.0 w.1)
              ∙ ap (λ m. change m (parent_cell (parent_beside t.first o.term ks h)) ∷ cells_on_way (t.first + width o.term) (merge (t.first + width o.term) s.term i (keys_beside t.first o.term ks) (hash_beside t.first o.term ks h) x) i) (root o s w.0))
        ]

    -- the parents that are given are those that a merge makes
    module _ (ps : List Parent) (made : ps ≡ path_parents t.first t.term i ks h) where
      abbrev more : List Parent
      more = path_parents s.first s.term i (keys_beside o.first o.term ks) (hash_beside o.first o.term ks h)

      none : ks ≡ [] → more ≡ []
      none e = no_parents s.first s.term i (keys_beside o.first o.term ks) (hash_beside o.first o.term ks h) (none_below (is_reached o.first o.term) ks e)

      pub first_is : first_if (is_reached o.first o.term) ps ≡ parent_beside o.first o.term ks h
      first_is = ap (first_if (is_reached o.first o.term)) (made ∙ parents_step t i s c o step ks h) ∙ first_made (is_reached o.first o.term) ks h more none

      pub rest_is : rest_if (is_reached o.first o.term) ps ≡ more
      rest_is = ap (rest_if (is_reached o.first o.term)) (made ∙ parents_step t i s c o step ks h) ∙ rest_made (is_reached o.first o.term) ks h more none

-- ---- the places of changes

-- the root is one of the cells
pub pushed_below : (t : Subtree) (old new : List Change) (n : ℕ) (s : Option Node) → n ≡ root_number t.first t.term → new ≡ old ++ (change n s ∷ []) → (m : ℕ) → 2 * t.first + size t.term ≤ m → AreBelow m old → AreBelow m new
pushed_below t old new n s at is m le all =
    All-same (λ (c : Change). c.place < m) new (old ++ (change n s ∷ [])) is
    (All-push (λ (c : Change). c.place < m) old (change n s) all (let low = within t n (2 * t.first + size t.term) at (omega arith) in omega arith))

-- the cells of a side are among them
pub side_below : (t : Subtree) (i : ℕ) (s : Subtree) (c : Option Parent) (o : Subtree) → IsStep t i s c o → 2 * s.first + size s.term ≤ 2 * t.first + size t.term
side_below t i s c o step =
    let len : ℕ = 2 * t.first + size t.term in
    let all : 2 * t.first + size t.term ≤ len = omega arith in
    elim step.turn [
      | inl w ↦ left_within t len all s c o w.0
      | inr w ↦ right_within t len all o c s w.0
    ]

-- one change was added, and then the others
pub added_then : (old between new rest : List Change) (one : Change) → between ≡ old ++ (one ∷ []) → new ≡ between ++ rest → new ≡ old ++ (one ∷ rest)
added_then old between new rest one first then = then ∙ ap (λ ys. ys ++ rest) first ∙ append_assoc old (one ∷ []) rest
