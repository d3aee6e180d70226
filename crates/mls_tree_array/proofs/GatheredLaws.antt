-- Laws: what is gathered from a tree is gathered from its nodes in order.
use Rattle.std.proofs.Common.{◌≡◌, ℕ, List, [], ◌∷◌, ◌++◌, Option, Some, None, refl, sym, ◌∙◌, ap, append-nil}
use Rattle.std.specs.List.{flat_map}
use Rattle.std.proofs.lemmas.Grind.{flat_map-append}
use Rattle.mls_leaf.specs.Parent.{Parent}
use Rattle.mls_leaf.specs.declared.leaf.LeafNode.{LeafNode}
use Rattle.mls_leaf.specs.declared.node.Node.{Node}
use Rattle.mls_tree_model.specs.Term.{Term, Leaf, Branch}
use Rattle.mls_tree_model.specs.Keys.{gather, leaf_key, parent_key, leaf_signature}
use Rattle.mls_tree_model.specs.Arrays.{leaf_cell, parent_cell, term_of, in_order}
use Rattle.mls_tree_array.specs.Standing.{Stands}
use Rattle.mls_tree_array.specs.CellKeys.{cell_value, cell_keys}
use Rattle.mls_tree_array.proofs.Gathered.{cell_signature}

module _ (f : Option LeafNode → List (List ℕ)) (g : Option Parent → List (List ℕ)) (leaf : f None ≡ []) (blank : g None ≡ []) where
  of_leaf : (v : Option LeafNode) → cell_value f g (leaf_cell v) ≡ f v
  of_leaf None = sym leaf
  of_leaf (Some v) = refl

  of_parent : (c : Option Parent) → cell_value f g (parent_cell c) ≡ g c
  of_parent None = sym blank
  of_parent (Some p) = refl

  pub gather-in_order : (t : Term) → flat_map (cell_value f g) (in_order t) ≡ gather f g t
  unfolding gather in_order
  gather-in_order (Leaf v) = append-nil (cell_value f g (leaf_cell v)) ∙ of_leaf v
  gather-in_order (Branch c l r) =
      flat_map-append (cell_value f g) (in_order l) (parent_cell c ∷ in_order r)
      ∙ ap (λ ys. ys ++ (cell_value f g (parent_cell c) ++ flat_map (cell_value f g) (in_order r))) (gather-in_order l)
      ∙ ap (λ ys. gather f g l ++ (ys ++ flat_map (cell_value f g) (in_order r))) (of_parent c)
      ∙ ap (λ ys. gather f g l ++ (g c ++ ys)) (gather-in_order r)

pub keys_standing : (h : ℕ) (xs : List (Option Node)) → Stands h xs → flat_map cell_keys xs ≡ gather leaf_key parent_key (term_of h xs)
keys_standing h xs stands =
    ap (flat_map cell_keys) (sym stands.order) ∙ gather-in_order leaf_key parent_key refl refl (term_of h xs)

pub signatures_standing : (h : ℕ) (xs : List (Option Node)) → Stands h xs → flat_map cell_signature xs ≡ gather leaf_signature (λ c. []) (term_of h xs)
signatures_standing h xs stands =
    ap (flat_map cell_signature) (sym stands.order) ∙ gather-in_order leaf_signature (λ c. []) refl refl (term_of h xs)
