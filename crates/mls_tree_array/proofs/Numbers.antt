-- The subtree whose root has a number, and what is read of it.
use Rattle.std.proofs.Common.{◌≡◌, ℕ, ◌+◌, ◌*◌, ◌==◌, ◌<◌, nat_lt, Bool, true, false, cond, List, [], Option, Some, None, refl, sym, ◌∙◌, ap, arith}
use Rattle.mls_leaf.specs.Parent.{Parent}
use Rattle.mls_leaf.specs.declared.leaf.LeafNode.{LeafNode}
use Rattle.mls_tree_model.specs.Node.{leaf_parent_hash, own_parent_hash}
use Rattle.mls_tree_model.specs.Term.{Term, Leaf, Branch, width, size}
use Rattle.mls_tree_model.specs.Resolution.{resolution}
use Rattle.mls_tree_model.specs.Places.{at_node, resolution_at}
use Rattle.mls_tree_model.specs.Hashes.{hash_at}
use Rattle.mls_tree_model.proofs.Equations.{at_node_leaf, at_node_no_leaf, at_node_here, at_node_left, at_node_right}
use Rattle.mls_tree_array.specs.Subtrees.{Subtree, root_number, subtree_at, IsOver}

abbrev found : ℕ → Term → Option Subtree
found b t = Some (record { first = b; term = t })

at_root : (b : ℕ) (t : Term) → at_node None found b t (root_number b t) ≡ found b t
at_root b (Leaf v) = let own : 2 * b + 0 ≡ 2 * b = omega arith in at_node_leaf b v None found (2 * b + 0) own
at_root b (Branch c l r) = at_node_here None found b c l r (2 * b + size l) refl

pub at_own : (t : Subtree) (x : ℕ) → x ≡ root_number t.first t.term → Some t ≡ subtree_at t.first t.term x
at_own t x is = sym (ap (at_node None found t.first t.term) is ∙ at_root t.first t.term)

pub at_no_leaf : (t : Subtree) (v : Option LeafNode) (x : ℕ) → t.term ≡ Leaf v → (x ≡ root_number t.first t.term → ⊥) → None ≡ subtree_at t.first t.term x
at_no_leaf t v x is off = rw is (sym (at_node_no_leaf t.first v None found x (λ e. off (rw is (let own : x ≡ 2 * t.first + 0 = omega arith in own)))))

module _ (t l : Subtree) (c : Option Parent) (r : Subtree) (over : IsOver t l c r) (x : ℕ) where
  pub at_left : x < root_number t.first t.term → subtree_at t.first t.term x ≡ subtree_at l.first l.term x
  at_left low = rw (over.is, over.left_first) (at_node_left None found t.first c l.term r.term x (rw over.is at low))

  pub at_right : root_number t.first t.term < x → subtree_at t.first t.term x ≡ subtree_at r.first r.term x
  at_right high = rw (over.is, over.right_first) (at_node_right None found t.first c l.term r.term x (rw over.is at high))

-- ---- what is read of it

abbrev pub read_at : {A : Type 0} → A → (ℕ → Term → A) → Option Subtree → A
read_at none f None = none
read_at none f (Some s) = f s.first s.term

read_of : {A : Type 0} (none : A) (f : ℕ → Term → A) (v : Bool) (a b : Option Subtree) → read_at none f (cond v a b) ≡ cond v (read_at none f a) (read_at none f b)
read_of none f true a b = refl
read_of none f false a b = refl

pub read-at_node : {A : Type 0} (none : A) (f : ℕ → Term → A) (b : ℕ) (t : Term) (x : ℕ) → at_node none f b t x ≡ read_at none f (subtree_at b t x)
unfolding at_node
read-at_node none f b (Leaf v) x = sym (read_of none f (x == 2 * b) (found b (Leaf v)) None)
read-at_node none f b (Branch c l r) x =
    sym (read_of none f (x == 2 * b + size l) (found b (Branch c l r)) (cond (nat_lt x (2 * b + size l)) (at_node None found b l x) (at_node None found (b + width l) r x))
    ∙ ap (cond (x == 2 * b + size l) (f b (Branch c l r)))
    (read_of none f (nat_lt x (2 * b + size l)) (at_node None found b l x) (at_node None found (b + width l) r x)
    ∙ ap (λ y. cond (nat_lt x (2 * b + size l)) y (read_at none f (at_node None found (b + width l) r x))) (sym (read-at_node none f b l x))
    ∙ ap (cond (nat_lt x (2 * b + size l)) (at_node none f b l x)) (sym (read-at_node none f (b + width l) r x))))

-- the field parent_hash of a subtree's own node
abbrev pub own_hash : ℕ → Term → Option (List ℕ)
own_hash b (Leaf v) = leaf_parent_hash v
own_hash b (Branch c l r) = own_parent_hash c

pub read-hash_at : (b : ℕ) (t : Term) (x : ℕ) → hash_at b t x ≡ at_node None own_hash b t x
unfolding hash_at at_node
read-hash_at b (Leaf v) x = refl
read-hash_at b (Branch c l r) x =
    ap (λ y. cond (x == 2 * b + size l) (own_parent_hash c) (cond (nat_lt x (2 * b + size l)) y (hash_at (b + width l) r x))) (read-hash_at b l x)
    ∙ ap (λ y. cond (x == 2 * b + size l) (own_parent_hash c) (cond (nat_lt x (2 * b + size l)) (at_node None own_hash b l x) y)) (read-hash_at (b + width l) r x)

module _ (b : ℕ) (t : Term) (x : ℕ) where
  pub resolution_found : (s : Subtree) → Some s ≡ subtree_at b t x → resolution_at b t x ≡ resolution s.first s.term
  unfolding resolution_at
  resolution_found s some = read-at_node [] resolution b t x ∙ ap (read_at [] resolution) (sym some)

  pub no_resolution : None ≡ subtree_at b t x → resolution_at b t x ≡ []
  unfolding resolution_at
  no_resolution none = read-at_node [] resolution b t x ∙ ap (read_at [] resolution) (sym none)

  pub hash_found : (s : Subtree) → Some s ≡ subtree_at b t x → hash_at b t x ≡ own_hash s.first s.term
  hash_found s some = read-hash_at b t x ∙ read-at_node None own_hash b t x ∙ ap (read_at None own_hash) (sym some)

  pub no_hash : None ≡ subtree_at b t x → hash_at b t x ≡ None
  no_hash none = read-hash_at b t x ∙ read-at_node None own_hash b t x ∙ ap (read_at None own_hash) (sym none)
