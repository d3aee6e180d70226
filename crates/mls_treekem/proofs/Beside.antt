-- Keys of a tree's nodes, as they are read at the nodes beside a place.
use Rattle.std.proofs.Common.{◌≡◌, ℕ, ◌+◌, ◌-◌, ◌*◌, ◌^◌, ◌<◌, ◌≤◌, ◌==◌, nat_lt, if◌then◌else◌, Bool, true, false, Option, Some, None, refl, sym, ◌∙◌, ap, ap₂, arith}
use Rattle.mls_leaf.specs.declared.node.Node.{Node}
use Rattle.mls_tree_model.specs.Term.{Term, Leaf, Branch, width, size, height}
use Rattle.mls_tree_model.specs.Arrays.{own_node, node_at}
use Rattle.mls_tree_model.specs.Places.{at_node, own_key, key_at}
use Rattle.mls_tree_model.proofs.Equations.{at_node_no_leaf, at_node_left, at_node_right}
use Rattle.mls_tree_model.proofs.ShapeLaws.{size-width, width-perfect}
use Rattle.mls_tree.specs.Tree.{Tree, term}
use Rattle.mls_tree.proofs.Perfect.{width_is}
use Rattle.mls_treekem.specs.declared.places.Place.{Place}
use Rattle.mls_treekem.specs.Place.{subtree_at, IsPlaced}
use Rattle.mls_treekem.specs.NodeKeys.{encryption_key_of}
use Rattle.mls_treekem.proofs.Place.{zeros_are, zeros_fit}

-- ---- no node is outside a tree

at_node_below : {A : Type 0} (none : A) (f : ℕ → Term → A) (b : ℕ) (t : Term) (n : ℕ) → n < 2 * b → at_node none f b t n ≡ none
at_node_below none f b (Leaf v) n lt = at_node_no_leaf b v none f n (λ e. absurd (omega arith))
at_node_below none f b (Branch c l r) n lt = at_node_left none f b c l r n (omega arith) ∙ at_node_below none f b l n lt

at_node_past : {A : Type 0} (none : A) (f : ℕ → Term → A) (b : ℕ) (t : Term) (n : ℕ) → 2 * b + size t ≤ n → at_node none f b t n ≡ none
unfolding size
at_node_past none f b (Leaf v) n ge = at_node_no_leaf b v none f n (λ e. absurd (omega arith))
at_node_past none f b (Branch c l r) n ge =
    let s = size-width l in
    at_node_right none f b c l r n (omega arith) ∙ at_node_past none f (b + width l) r n (omega arith)

-- ---- a node's key is that of what stands there

own_cell : (b : ℕ) (t : Term) → own_key b t ≡ encryption_key_of (own_node b t)
own_cell b (Leaf None) = refl
own_cell b (Leaf (Some v)) = refl
own_cell b (Branch None l r) = refl
own_cell b (Branch (Some p) l r) = refl

of_test : (t : Bool) (x y : Option Node) → encryption_key_of (if t then x else y) ≡ (if t then encryption_key_of x else encryption_key_of y)
of_test true x y = refl
of_test false x y = refl

key_cell : (b : ℕ) (t : Term) (n : ℕ) → at_node None own_key b t n ≡ encryption_key_of (at_node None own_node b t n)
unfolding at_node
key_cell b (Leaf v) n =
    ap (λ k. if n == 2 * b then k else None) (own_cell b (Leaf v)) ∙ sym (of_test (n == 2 * b) (own_node b (Leaf v)) None)
key_cell b (Branch c l r) n =
    let m : ℕ = 2 * b + size l in
    let left : Option Node = at_node None own_node b l n in
    let right : Option Node = at_node None own_node (b + width l) r n in
    ap₂ (λ x y. if n == m then x else y) (own_cell b (Branch c l r))
    (ap₂ (λ x y. if nat_lt n m then x else y) (key_cell b l n) (key_cell (b + width l) r n) ∙ sym (of_test (nat_lt n m) left right))
    ∙ sym (of_test (n == m) (own_node b (Branch c l r)) (if nat_lt n m then left else right))

-- ---- the keys beside a place

pub width_low : (t : Tree) (n : ℕ) → n ≡ width (term t) → n < 2 ^ 32 → n ≤ 2 ^ 31
width_low t n e lt =
    let is : n ≡ 2 ^ height (term t) = e ∙ width_is t in
    let same = ap (λ k. 2 ^ k) (zeros_are t n e lt) in
    let low = zeros_fit t n e lt in
    omega arith

module _ (t : Term) (h : ℕ) (p : Place) (at : IsPlaced t h p) where
  size_is : size (subtree_at t p.beside) + 1 ≡ 2 * p.leaves
  size_is = let w = width-perfect h (subtree_at t p.beside) at.perfect in let s = size-width (subtree_at t p.beside) in let l = at.leaves in omega arith

  pub key_below : (n : ℕ) → n < 2 * p.first → None ≡ key_at p.first (subtree_at t p.beside) n
  unfolding key_at
  key_below n lt = sym (at_node_below None own_key p.first (subtree_at t p.beside) n lt)

  pub key_past : (n : ℕ) → 2 * p.first + 2 * p.leaves - 1 ≤ n → None ≡ key_at p.first (subtree_at t p.beside) n
  unfolding key_at
  key_past n ge = let s = size_is in sym (at_node_past None own_key p.first (subtree_at t p.beside) n (omega arith))

  pub key_inside : (n : ℕ) → 2 * p.first ≤ n → n < 2 * p.first + 2 * p.leaves - 1 → encryption_key_of (node_at 0 t n) ≡ key_at p.first (subtree_at t p.beside) n
  unfolding key_at node_at
  key_inside n low high = let s = size_is in ap encryption_key_of (at.inside n low (omega arith)) ∙ sym (key_cell p.first (subtree_at t p.beside) n)

  pub key_nowhere : (n : ℕ) → 2 * p.first ≤ n → n < 2 * p.first + 2 * p.leaves - 1 → 2 * width t ≤ n → None ≡ key_at p.first (subtree_at t p.beside) n
  unfolding node_at
  key_nowhere n low high far =
      let s = size-width t in
      ap encryption_key_of (sym (at_node_past None own_node 0 t n (omega arith))) ∙ key_inside n low high
