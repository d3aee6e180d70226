-- What holds of a way to a leaf, by its first step.
use Rattle.std.proofs.Common.{◌≡◌, ℕ, ◌+◌, ◌<◌, ◌≤◌, cond, if◌then◌else◌, List, [], ◌∷◌, ◌++◌, Option, inl, inr, arith}
use Rattle.std.specs.Option.{option_to_list}
use Rattle.mls_leaf.specs.Parent.{Parent}
use Rattle.mls_tree_model.specs.Term.{width}
use Rattle.mls_tree_model.specs.Resolution.{is_reached}
use Rattle.mls_tree_model.specs.Way.{filtered_path, path_length, target_count, ciphertext_counts}
use Rattle.mls_tree_model.specs.Merge.{path_hash, parent_beside, keys_beside, hash_beside}
use Rattle.mls_tree_model.proofs.Equations.{filtered_path_left, filtered_path_right, ciphertext_counts_left, ciphertext_counts_right, path_length_left, path_length_right, path_hash_left, path_hash_right}
use Rattle.mls_tree_array.specs.Subtrees.{Subtree, root_number, IsOver, IsStep}
use Rattle.mls_tree_array.specs.Merging.{path_parents}
use Rattle.mls_tree_array.proofs.Merged.{parents_left, parents_right}

-- leaf i is on the left, or on the right
module _ (t l : Subtree) (c : Option Parent) (r : Subtree) (over : IsOver t l c r) (i : ℕ) where
  on_left : i < r.first → i < t.first + width l.term
  on_left lt = let is = over.right_first in omega arith

  on_right : r.first ≤ i → t.first + width l.term ≤ i
  on_right ge = let is = over.right_first in omega arith

module _ (t : Subtree) (i : ℕ) (s : Subtree) (c : Option Parent) (o : Subtree) (step : IsStep t i s c o) where
  pub filtered_step : filtered_path t.first t.term i ≡ filtered_path s.first s.term i ++ (if is_reached o.first o.term then root_number t.first t.term ∷ [] else [])
  filtered_step =
      elim step.turn [
        | inl w ↦ rw (w.0.is, w.0.left_first, w.0.right_first) (filtered_path_left t.first c s.term o.term i (on_left t s c o w.0 i w.1))
        | inr w ↦ rw (w.0.is, w.0.left_first, w.0.right_first) (filtered_path_right t.first c o.term s.term i (on_right t o c s w.0 i w.1))
      ]

  pub counts_step : (added : List ℕ) → ciphertext_counts t.first t.term i added ≡ ciphertext_counts s.first s.term i added ++ (if is_reached o.first o.term then target_count added o.first o.term ∷ [] else [])
  counts_step added =
      elim step.turn [
        | inl w ↦ rw (w.0.is, w.0.left_first, w.0.right_first) (ciphertext_counts_left t.first c s.term o.term i added (on_left t s c o w.0 i w.1))
        | inr w ↦ rw (w.0.is, w.0.left_first, w.0.right_first) (ciphertext_counts_right t.first c o.term s.term i added (on_right t o c s w.0 i w.1))
      ]

  pub length_step : path_length t.first t.term i ≡ cond (is_reached o.first o.term) 1 0 + path_length s.first s.term i
  length_step =
      elim step.turn [
        | inl w ↦ rw (w.0.is, w.0.left_first, w.0.right_first) (path_length_left t.first c s.term o.term i (on_left t s c o w.0 i w.1))
        | inr w ↦ rw (w.0.is, w.0.left_first, w.0.right_first) (path_length_right t.first c o.term s.term i (on_right t o c s w.0 i w.1))
      ]

  module _ (ks : List (List ℕ)) (h : List ℕ) where
    pub hash_step : path_hash t.first t.term i ks h ≡ path_hash s.first s.term i (keys_beside o.first o.term ks) (hash_beside o.first o.term ks h)
    hash_step =
        elim step.turn [
          | inl w ↦ rw (w.0.is, w.0.left_first, w.0.right_first) (path_hash_left t.first c s.term o.term i ks h (on_left t s c o w.0 i w.1))
          | inr w ↦ rw (w.0.is, w.0.left_first, w.0.right_first) (path_hash_right t.first c o.term s.term i ks h (on_right t o c s w.0 i w.1))
        ]

    pub parents_step : path_parents t.first t.term i ks h ≡ option_to_list (parent_beside o.first o.term ks h) ++ path_parents s.first s.term i (keys_beside o.first o.term ks) (hash_beside o.first o.term ks h)
    parents_step =
        elim step.turn [
          | inl w ↦ rw (w.0.is, w.0.left_first, w.0.right_first) (parents_left t.first c s.term o.term i ks h (on_left t s c o w.0 i w.1))
          | inr w ↦ rw (w.0.is, w.0.left_first, w.0.right_first) (parents_right t.first c o.term s.term i ks h (on_right t o c s w.0 i w.1))
        ]
