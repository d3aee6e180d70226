-- What stands at a node's number.
use Rattle.std.proofs.Common.{◌≡◌, ℕ, zero, suc, ◌+◌, ◌-◌, ◌*◌, ◌<◌, ◌≤◌, ◌==◌, nat_lt, Bool, true, false, [], ◌∷◌, Option, Some, None, refl, sym, ◌∙◌, ap, arith, inl, inr, ◌⊎◌, eqb-true}
use Rattle.std.proofs.lemmas.Bool.{true≢false, and_parts, cases_lt, cases_Bool, cond-true, cond-false, ltb-true, ltb-false, eqb-false}
use Rattle.mls_leaf.specs.declared.leaf.LeafNode.{LeafNode}
use Rattle.mls_leaf.specs.Parent.{Parent}
use Rattle.mls_treemath.specs.Paths.{Path, nodes_in, longer, path_to, leaf_path}
use Rattle.mls_treemath.proofs.Sizes.{width_perfect}
use Rattle.mls_treemath.proofs.Leaves.{path_to-leaf}
use Rattle.mls_tree_model.proofs.Equations.{at_node_leaf, at_node_here, at_node_left, at_node_right, leaf_at_leaf, leaf_at_left, leaf_at_right}
use Rattle.mls_tree_model.specs.Term.{Term, Leaf, Branch, width, is_perfect, leaf_at}
use Rattle.mls_tree_model.specs.Places.{at_node}
use Rattle.mls_tree_model.specs.Arrays.{leaf_in, own_node, node_at}
use Rattle.mls_tree_model.proofs.ShapeLaws.{size-width, width-perfect}
use Rattle.mls_tree_model.proofs.ArrayLaws.{leaf_in-cell, size-perfect}
use Rattle.mls_tree_model.specs.Laws.{under}

leaf_is_node : (b : ℕ) (t : Term) (i : ℕ) → b ≤ i → i < b + width t → leaf_in (at_node None own_node b t (2 * i)) ≡ leaf_at b t i
unfolding width
leaf_is_node b (Leaf v) i low high =
    ap leaf_in (at_node_leaf b v None own_node (2 * i) (omega arith)) ∙ leaf_in-cell v ∙ sym (leaf_at_leaf b v i)
leaf_is_node b (Branch c l r) i low high =
    let s = size-width l in
    elim (cases_lt i (b + width l)) [
      | inl lt ↦ ap leaf_in (at_node_left None own_node b c l r (2 * i) (omega arith)) ∙ leaf_is_node b l i low lt ∙ sym (leaf_at_left b c l r i lt)
      | inr ge ↦ ap leaf_in (at_node_right None own_node b c l r (2 * i) (omega arith)) ∙ leaf_is_node (b + width l) r i ge (omega arith) ∙ sym (leaf_at_right b c l r i ge)
    ]

pub leaf-is_node : (b : ℕ) (t : Term) (i : ℕ) → b ≤ i → i < b + width t → leaf_in (node_at b t (2 * i)) ≡ leaf_at b t i
unfolding node_at
leaf-is_node = leaf_is_node

-- a way with one more step
pub record IsLonger (side : Bool) (o : Option Path) (p : Path) : Type 0 where
  pub rest : Path
  pub was : o ≡ Some rest
  pub is : p ≡ side ∷ rest

longer_parts : (side : Bool) (o : Option Path) (p : Path) → longer side o ≡ Some p → IsLonger side o p
unfolding longer
longer_parts side None p e = absurd cc
longer_parts side (Some q) p e = record { rest = q; was = refl; is = cc }

itself : ℕ → Term → Option Term
itself b t = Some t

under_leaf : (b : ℕ) (v : Option LeafNode) (x : ℕ) (p : Path) → path_to zero x ≡ Some p → at_node None itself b (Leaf v) (2 * b + x) ≡ under p (Leaf v)
unfolding path_to under itself
under_leaf b v x p e =
    elim (cases_Bool (x == 0)) [
      | inl k ↦
          let is : x ≡ 0 = eqb-true x 0 k in
          let none : Some [] ≡ Some p = sym (cond-true _ _ _ k) ∙ e in
          at_node_leaf b v None itself (2 * b + x) (omega arith) ∙ ap (λ o. with_path o (Leaf v)) none
      | inr k ↦ absurd (no_way (sym (cond-false _ _ _ k) ∙ e))
    ]
  where
    with_path : Option Path → Term → Option Term
    with_path None t = None
    with_path (Some p) t = under p t

    no_way : None ≡ Some p → ⊥
    no_way z = cc

under-here : (t : Term) → under [] t ≡ Some t
unfolding under
under-here t = refl

under-left : (c : Option Parent) (l r : Term) (p : Path) → under (false ∷ p) (Branch c l r) ≡ under p l
unfolding under
under-left c l r p = refl

under-right : (c : Option Parent) (l r : Term) (p : Path) → under (true ∷ p) (Branch c l r) ≡ under p r
unfolding under
under-right c l r p = refl

-- the way to an index goes to the left, ends, or goes to the right
pub way_cases : (h x : ℕ) (p : Path) → path_to (suc h) x ≡ Some p → ((x < nodes_in h) × IsLonger false (path_to h x) p) ⊎ (((x ≡ nodes_in h) × (p ≡ [])) ⊎ ((nodes_in h < x) × IsLonger true (path_to h (x - suc (nodes_in h))) p))
unfolding path_to
way_cases h x p e =
    elim (cases_Bool (nat_lt x (nodes_in h))) [
      | inl k ↦ inl (ltb-true x (nodes_in h) k, longer_parts false (path_to h x) p (sym (cond-true _ _ _ k) ∙ e))
      | inr k ↦
          let ge = ltb-false x (nodes_in h) k in
          let f = sym (cond-false _ _ _ k) ∙ e in
          elim (cases_Bool (x == nodes_in h)) [
            | inl j ↦ inr (inl (eqb-true x (nodes_in h) j, ends p (sym (cond-true _ _ _ j) ∙ f)))
            | inr j ↦ inr (inr (let n = eqb-false x (nodes_in h) j in omega arith, longer_parts true (path_to h (x - suc (nodes_in h))) p (sym (cond-false _ _ _ j) ∙ f)))
          ]
    ]
  where
    ends : (p : Path) → Some [] ≡ Some p → p ≡ []
    ends p z = cc

under_at : (h b : ℕ) (t : Term) (x : ℕ) (p : Path) → is_perfect h t ≡ true → path_to h x ≡ Some p → at_node None itself b t (2 * b + x) ≡ under p t
unfolding is_perfect itself
under_at zero b (Leaf v) x p perfect e = under_leaf b v x p e
under_at (suc h) b (Leaf v) x p perfect e = absurd (true≢false (sym perfect))
under_at zero b (Branch c l r) x p perfect e = absurd (true≢false (sym perfect))
under_at (suc h) b (Branch c l r) x p perfect e =
    let q = and_parts (is_perfect h l) (is_perfect h r) perfect in
    let s = size-perfect h l q.0 in
    let w = size-width l in
    elim (way_cases h x p e) [
      | inl a ↦
          at_node_left None itself b c l r (2 * b + x) (let z = a.0 in omega arith)
          ∙ under_at h b l x a.1.rest q.0 a.1.was
          ∙ sym (ap (λ y. under y (Branch c l r)) a.1.is ∙ under-left c l r a.1.rest)
      | inr (inl a) ↦
          at_node_here None itself b c l r (2 * b + x) (let z = a.0 in omega arith)
          ∙ sym (ap (λ y. under y (Branch c l r)) a.1 ∙ under-here (Branch c l r))
      | inr (inr a) ↦
          let z = a.0 in
          at_node_right None itself b c l r (2 * b + x) (omega arith)
          ∙ ap (at_node None itself (b + width l) r) (let f : 2 * b + x ≡ 2 * (b + width l) + (x - suc (nodes_in h)) = omega arith in f)
          ∙ under_at h (b + width l) r (x - suc (nodes_in h)) a.1.rest q.1 a.1.was
          ∙ sym (ap (λ y. under y (Branch c l r)) a.1.is ∙ under-right c l r a.1.rest)
    ]

pub node-of_way : (h b : ℕ) (t : Term) (x : ℕ) (p : Path) → is_perfect h t ≡ true → path_to h x ≡ Some p → at_node None (λ c u. Some u) b t (2 * b + x) ≡ under p t
unfolding itself
node-of_way = under_at

-- leaf i stands where its bits lead
leaf_here : (b : ℕ) (t : Term) (i : ℕ) → b ≤ i → i < b + width t → at_node None itself b t (2 * i) ≡ Some (Leaf (leaf_at b t i))
unfolding width itself
leaf_here b (Leaf v) i low high =
    at_node_leaf b v None itself (2 * i) (omega arith) ∙ ap (λ o. Some (Leaf o)) (sym (leaf_at_leaf b v i))
leaf_here b (Branch c l r) i low high =
    let s = size-width l in
    elim (cases_lt i (b + width l)) [
      | inl lt ↦ at_node_left None itself b c l r (2 * i) (omega arith) ∙ leaf_here b l i low lt ∙ ap (λ o. Some (Leaf o)) (sym (leaf_at_left b c l r i lt))
      | inr ge ↦ at_node_right None itself b c l r (2 * i) (omega arith) ∙ leaf_here (b + width l) r i ge (omega arith) ∙ ap (λ o. Some (Leaf o)) (sym (leaf_at_right b c l r i ge))
    ]

pub leaf-by_bits : (h : ℕ) (t : Term) (i : ℕ) → is_perfect h t ≡ true → i < width t → under (leaf_path h i) t ≡ Some (Leaf (leaf_at 0 t i))
leaf-by_bits h t i perfect lt =
    let w = width-perfect h t perfect in
    let n = width_perfect h in
    let at : at_node None itself 0 t (2 * 0 + 2 * i) ≡ under (leaf_path h i) t = under_at h 0 t (2 * i) (leaf_path h i) perfect (path_to-leaf h i (omega arith)) in
    sym at
    ∙ ap (at_node None itself 0 t) (let e : 2 * 0 + 2 * i ≡ 2 * i = omega arith in e)
    ∙ leaf_here 0 t i (omega arith) (omega arith)
