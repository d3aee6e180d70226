-- Hashes on the way to a leaf, by the root and its sides.
use Rattle.std.proofs.Common.{◌≡◌, ℕ, Bool, ◌+◌, ◌<◌, ◌≤◌, List, [], ◌∷◌, ◌++◌, Option, Some, sym, ◌∙◌, ap, subst, arith, append_assoc}
use Rattle.std.specs.Option.{option_to_list}
use Rattle.mls_leaf.specs.Parent.{Parent}
use Rattle.mls_leaf.specs.declared.leaf.LeafNode.{LeafNode}
use Rattle.mls_tree_model.specs.Term.{Term, Leaf, Branch, width}
use Rattle.mls_tree_model.specs.Inputs.{leaf_hash, branch_hash}
use Rattle.mls_tree_model.specs.Resolution.{is_reached}
use Rattle.mls_tree_model.specs.Hashes.{tree_hash}
use Rattle.mls_tree_model.specs.Merge.{merge, parent_beside, keys_beside, hash_beside}
use Rattle.mls_tree_model.proofs.Equations.{tree_hash_leaf, tree_hash_branch, merge_leaf, merge_left, merge_right}
use Rattle.mls_tree_model.proofs.MergeLaws.{width-merge}
use Rattle.mls_tree_array.specs.Merging.{path_parents, first_if, rest_if}
use Rattle.mls_tree_array.specs.WayHashes.{way_hashes, HashesMerged}
use Rattle.mls_tree_array.proofs.WayHashLaws.{way_hashes_leaf, way_hashes_left, way_hashes_right}
use Rattle.mls_tree_array.proofs.Merged.{parents_left, parents_right, no_parents, none_below, first_made, rest_made}
use Rattle.mls_tree_array.specs.Subtrees.{Subtree, IsOver}

path_leaf : (b i : ℕ) (v : Option LeafNode) (ps : List Parent) (x : LeafNode) (g : List ℕ) (before : List (List ℕ)) → g ≡ leaf_hash b (Some x) → HashesMerged b (Leaf v) i ps x g before (before ++ (g ∷ []))
path_leaf b i v ps x g before is ks h made =
    let merged : merge b (Leaf v) i ks h x ≡ Leaf (Some x) = merge_leaf b v i ks h x in
    let hash : g ≡ tree_hash b (Leaf (Some x)) = is ∙ sym (tree_hash_leaf b (Some x)) in (
      hash ∙ ap (tree_hash b) (sym merged),
      ap (λ w. before ++ (w ∷ [])) hash ∙ ap (λ ys. before ++ ys) (sym (ap (λ t. way_hashes b t i) merged ∙ way_hashes_leaf b (Some x) i)),
    )

pub made_one : (t : Subtree) (v : Option LeafNode) (i : ℕ) (ps : List Parent) (x : LeafNode) (g : List ℕ) (before after : List (List ℕ)) → t.term ≡ Leaf v → g ≡ leaf_hash t.first (Some x) → after ≡ before ++ (g ∷ []) → HashesMerged t.first t.term i ps x g before after
made_one t v i ps x g before after is hash all =
    subst (λ ys. HashesMerged t.first t.term i ps x g before ys) (sym all)
    (subst (λ s. HashesMerged t.first s i ps x g before (before ++ (g ∷ []))) (sym is)
    (path_leaf t.first i v ps x g before hash))

-- where the hashes below a new root were added, and its own is made of them
module _ (b : ℕ) (c : Option Parent) (l r : Term) (i : ℕ) (ps qs : List Parent) (x : LeafNode) (v s g : List ℕ) (before mid : List (List ℕ)) (f : Bool) (p : Option Parent) (is_root : p ≡ first_if f ps) (are_rest : qs ≡ rest_if f ps) where
  left_made : i < b + width l → f ≡ is_reached (b + width l) r → s ≡ tree_hash (b + width l) r → HashesMerged b l i qs x v before mid → g ≡ branch_hash p v s → HashesMerged b (Branch c l r) i ps x g before (mid ++ (g ∷ []))
  left_made lt reached sibling below is ks h made =
      let k : ℕ = b + width l in
      let new : Option Parent = parent_beside k r ks h in
      let js : List (List ℕ) = keys_beside k r ks in
      let d : List ℕ = hash_beside k r ks h in
      let more : List Parent = path_parents b l i js d in
      let none : ks ≡ [] → more ≡ [] = λ e. no_parents b l i js d (none_below (is_reached k r) ks e) in
      let all : ps ≡ option_to_list new ++ more = made ∙ parents_left b c l r i ks h lt in
      let own : p ≡ new = is_root ∙ ap (λ y. first_if y ps) reached ∙ ap (first_if (is_reached k r)) all ∙ first_made (is_reached k r) ks h more none in
      let rest : qs ≡ more = are_rest ∙ ap (λ y. rest_if y ps) reached ∙ ap (rest_if (is_reached k r)) all ∙ rest_made (is_reached k r) ks h more none in
      let u : Term = merge b l i js d x in
      let side = below js d rest in
      let as_wide : width u ≡ width l = width-merge b l i js d x in
      let merged : merge b (Branch c l r) i ks h x ≡ Branch new u r = merge_left b c l r i ks h x lt in
      let hash : g ≡ tree_hash b (Branch new u r) =
      is
      ∙ ap (λ y. branch_hash y v s) own
      ∙ ap (λ y. branch_hash new y s) side.0
      ∙ ap (branch_hash new (tree_hash b u)) sibling
      ∙ ap (λ w. branch_hash new (tree_hash b u) (tree_hash (b + w) r)) (sym as_wide)
      ∙ sym (tree_hash_branch b new u r) in (
        hash ∙ ap (tree_hash b) (sym merged),
        ap (λ w. mid ++ (w ∷ [])) hash
            ∙ ap (λ ys. ys ++ (tree_hash b (Branch new u r) ∷ [])) side.1
            ∙ append_assoc before (way_hashes b u i) (tree_hash b (Branch new u r) ∷ [])
            ∙ ap (λ ys. before ++ ys) (sym (ap (λ t. way_hashes b t i) merged ∙ way_hashes_left b new u r i (omega arith))),
      )

  right_made : b + width l ≤ i → f ≡ is_reached b l → s ≡ tree_hash b l → HashesMerged (b + width l) r i qs x v before mid → g ≡ branch_hash p s v → HashesMerged b (Branch c l r) i ps x g before (mid ++ (g ∷ []))
  right_made ge reached sibling below is ks h made =
      let k : ℕ = b + width l in
      let new : Option Parent = parent_beside b l ks h in
      let js : List (List ℕ) = keys_beside b l ks in
      let d : List ℕ = hash_beside b l ks h in
      let more : List Parent = path_parents k r i js d in
      let none : ks ≡ [] → more ≡ [] = λ e. no_parents k r i js d (none_below (is_reached b l) ks e) in
      let all : ps ≡ option_to_list new ++ more = made ∙ parents_right b c l r i ks h ge in
      let own : p ≡ new = is_root ∙ ap (λ y. first_if y ps) reached ∙ ap (first_if (is_reached b l)) all ∙ first_made (is_reached b l) ks h more none in
      let rest : qs ≡ more = are_rest ∙ ap (λ y. rest_if y ps) reached ∙ ap (rest_if (is_reached b l)) all ∙ rest_made (is_reached b l) ks h more none in
      let u : Term = merge k r i js d x in
      let side = below js d rest in
      let merged : merge b (Branch c l r) i ks h x ≡ Branch new l u = merge_right b c l r i ks h x ge in
      let hash : g ≡ tree_hash b (Branch new l u) =
      is
      ∙ ap (λ y. branch_hash y s v) own
      ∙ ap (λ y. branch_hash new y v) sibling
      ∙ ap (branch_hash new (tree_hash b l)) side.0
      ∙ sym (tree_hash_branch b new l u) in (
        hash ∙ ap (tree_hash b) (sym merged),
        ap (λ w. mid ++ (w ∷ [])) hash
            ∙ ap (λ ys. ys ++ (tree_hash b (Branch new l u) ∷ [])) side.1
            ∙ append_assoc before (way_hashes k u i) (tree_hash b (Branch new l u) ∷ [])
            ∙ ap (λ ys. before ++ ys) (sym (ap (λ t. way_hashes b t i) merged ∙ way_hashes_right b new l u i ge)),
      )

module _ (t l : Subtree) (c : Option Parent) (r : Subtree) (over : IsOver t l c r) (i : ℕ) (ps qs : List Parent) (x : LeafNode) (v s g : List ℕ) (before mid after : List (List ℕ)) (f : Bool) (p : Option Parent) (is_root : p ≡ first_if f ps) (are_rest : qs ≡ rest_if f ps) (is_last : after ≡ mid ++ (g ∷ [])) where
  whole : HashesMerged t.first (Branch c l.term r.term) i ps x g before (mid ++ (g ∷ [])) → HashesMerged t.first t.term i ps x g before after
  whole e =
      subst (λ ys. HashesMerged t.first t.term i ps x g before ys) (sym is_last)
      (subst (λ u. HashesMerged t.first u i ps x g before (mid ++ (g ∷ []))) (sym over.is) e)

  pub made_in_left : i < r.first → ((k : ℕ) → f ≡ is_reached k r.term) → s ≡ tree_hash r.first r.term → HashesMerged l.first l.term i qs x v before mid → g ≡ branch_hash p v s → HashesMerged t.first t.term i ps x g before after
  made_in_left lt reached sibling below is =
      let second = over.right_first in
      whole (left_made t.first c l.term r.term i ps qs x v s g before mid f p is_root are_rest (omega arith) (reached _) (sibling ∙ ap (λ k. tree_hash k r.term) second) (subst (λ k. HashesMerged k l.term i qs x v before mid) over.left_first below) is)

  pub made_in_right : r.first ≤ i → ((k : ℕ) → f ≡ is_reached k l.term) → s ≡ tree_hash l.first l.term → HashesMerged r.first r.term i qs x v before mid → g ≡ branch_hash p s v → HashesMerged t.first t.term i ps x g before after
  made_in_right ge reached sibling below is =
      let second = over.right_first in
      whole (right_made t.first c l.term r.term i ps qs x v s g before mid f p is_root are_rest (omega arith) (reached _) (sibling ∙ ap (λ k. tree_hash k l.term) over.left_first) (subst (λ k. HashesMerged k r.term i qs x v before mid) second below) is)
