-- The tree hashes of all subtrees, by the root and its sides.
use Rattle.std.proofs.Common.{◌≡◌, ℕ, suc, ◌+◌, ◌*◌, ◌<◌, ◌≤◌, List, ◌∷◌, ◌++◌, length, get_or, take, drop, Option, Some, None, refl, sym, ◌∙◌, ap, arith}
use Rattle.std.proofs.lemmas.List.{get_or_at, get_or-take, get_or-drop, take_at, take_all, take-take, drop-take, drop-drop}
use Rattle.mls_leaf.specs.Parent.{Parent}
use Rattle.mls_tree_model.specs.Term.{Term, Leaf, Branch, width, size}
use Rattle.mls_tree_model.specs.Hashes.{tree_hash}
use Rattle.mls_tree_model.proofs.Equations.{size_leaf, size_branch}
use Rattle.mls_tree_model.proofs.ShapeLaws.{size-width}
use Rattle.mls_tree_array.specs.KeptHashes.{hashes_of}
use Rattle.mls_tree_array.specs.Spans.{AreHashesAt}
use Rattle.mls_tree_array.specs.Subtrees.{Subtree, root_place, root_number, IsOver}
use Rattle.mls_tree_array.proofs.KeptLaws.{length-hashes_of, hashes_of_branch, right_part}

-- the root's stands in its place
pub root_is : (b : ℕ) (t : Term) → get_or (hashes_of b t) (root_place t) None ≡ Some (tree_hash b t)
unfolding hashes_of
root_is b (Leaf v) = refl
root_is b (Branch c l r) = get_or_at (hashes_of b l) (Some (tree_hash b (Branch c l r))) (hashes_of _ r) None (size l) (length-hashes_of b l)

pub place_within : (t : Term) → root_place t < size t
place_within (Leaf v) = let s = size_leaf v in omega arith
place_within (Branch c l r) = let s = size_branch c l r in omega arith

-- those of a whole tree
pub whole_hashes : (t : Term) (hs : List (Option (List ℕ))) → hs ≡ hashes_of 0 t → AreHashesAt 0 t hs
whole_hashes t hs is = take_all (size t) hs (let long = ap length is ∙ length-hashes_of 0 t in omega arith) ∙ is

module _ (t : Subtree) where
  pub within : (n len : ℕ) → n ≡ root_number t.first t.term → 2 * t.first + size t.term ≤ len → n < len
  within n len at shape = let w = place_within t.term in omega arith

  module _ (hs : List (Option (List ℕ))) (hashed : AreHashesAt t.first t.term hs) where
    pub root_hash : (n : ℕ) → n ≡ root_number t.first t.term → get_or hs n None ≡ Some (tree_hash t.first t.term)
    root_hash n at =
        ap (λ m. get_or hs m None) at
        ∙ sym (get_or-drop (2 * t.first) hs (root_place t.term) None)
        ∙ sym (get_or-take (size t.term) (drop (2 * t.first) hs) (root_place t.term) None (place_within t.term))
        ∙ ap (λ ys. get_or ys (root_place t.term) None) hashed
        ∙ root_is t.first t.term

    module _ (l : Subtree) (c : Option Parent) (r : Subtree) (over : IsOver t l c r) where
      sum : size t.term ≡ size l.term + suc (size r.term)
      sum = ap size over.is ∙ size_branch c l.term r.term

      parts : take (size t.term) (drop (2 * t.first) hs) ≡ hashes_of l.first l.term ++ (Some (tree_hash t.first (Branch c l.term r.term)) ∷ hashes_of r.first r.term)
      parts = hashed ∙ rw (over.is, over.left_first, over.right_first) (hashes_of_branch t.first c l.term r.term)

      pub left_hashes : AreHashesAt l.first l.term hs
      left_hashes =
          ap (λ b. take (size l.term) (drop (2 * b) hs)) over.left_first
          ∙ sym (take-take (size l.term) (size t.term) (drop (2 * t.first) hs) (let s = sum in omega arith))
          ∙ ap (take (size l.term)) parts
          ∙ take_at (hashes_of l.first l.term) _ (size l.term) (length-hashes_of l.first l.term)

      pub right_hashes : AreHashesAt r.first r.term hs
      right_hashes =
          let wide : size l.term + 1 ≡ 2 * width l.term = size-width l.term in
          let first : r.first ≡ t.first + width l.term = over.right_first in
          let place : 2 * r.first ≡ 2 * t.first + suc (size l.term) = omega arith in
          let rest : suc (size l.term) + size r.term ≡ size t.term = (let s = sum in omega arith) in
          ap (λ n. take (size r.term) (drop n hs)) place
          ∙ ap (take (size r.term)) (sym (drop-drop (suc (size l.term)) (2 * t.first) hs))
          ∙ sym (drop-take (suc (size l.term)) (size r.term) (drop (2 * t.first) hs))
          ∙ ap (λ n. drop (suc (size l.term)) (take n (drop (2 * t.first) hs))) rest
          ∙ ap (drop (suc (size l.term))) parts
          ∙ right_part (hashes_of l.first l.term) (hashes_of r.first r.term) (Some (tree_hash t.first (Branch c l.term r.term))) (size l.term) (length-hashes_of l.first l.term)

  module _ (len : ℕ) (shape : 2 * t.first + size t.term ≤ len) (l : Subtree) (c : Option Parent) (r : Subtree) (over : IsOver t l c r) where
    pub left_within : 2 * l.first + size l.term ≤ len
    left_within =
        let s : size t.term ≡ size l.term + suc (size r.term) = ap size over.is ∙ size_branch c l.term r.term in
        let first : l.first ≡ t.first = over.left_first in
        omega arith

    pub right_within : 2 * r.first + size r.term ≤ len
    right_within =
        let s : size t.term ≡ size l.term + suc (size r.term) = ap size over.is ∙ size_branch c l.term r.term in
        let wide : size l.term + 1 ≡ 2 * width l.term = size-width l.term in
        let first : r.first ≡ t.first + width l.term = over.right_first in
        omega arith
