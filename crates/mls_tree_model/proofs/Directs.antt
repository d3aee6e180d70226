-- The way to a leaf is the direct path of indices.
use Rattle.std.proofs.Common.{◌≡◌, ℕ, zero, suc, ◌+◌, ◌-◌, ◌*◌, ◌<◌, ◌≤◌, ◌==◌, Bool, true, false, List, [], ◌∷◌, map, Option, Some, None, refl, sym, ◌∙◌, ap, arith, inl, inr}
use Rattle.std.proofs.lemmas.Bool.{true≢false, and_parts, cases_Bool, cond-true, cond-false}
use Rattle.mls_leaf.specs.Parent.{Parent}
use Rattle.mls_treemath.specs.Paths.{Path, nodes_in, root_of, index_of, path_to}
use Rattle.mls_treemath.specs.Steps.{above}
use Rattle.mls_tree_model.proofs.Equations.{way_leaf, way_left, way_right}
use Rattle.mls_tree_model.specs.Term.{Term, Leaf, Branch, width, size, is_perfect}
use Rattle.mls_tree_model.specs.Way.{way}
use Rattle.mls_tree_model.proofs.ShapeLaws.{size-width}
use Rattle.mls_tree_model.proofs.ArrayLaws.{nodes_in-leaves, size-perfect}
use Rattle.mls_tree_model.proofs.Numbers.{way_cases}

-- the indices of the ancestors, of a way with one more step
above_more : (h b : ℕ) (side : Bool) (p : Path) → map (λ q. 2 * b + index_of (suc h) q) (above (side ∷ p)) ≡ (2 * b + nodes_in h) ∷ map (λ q. 2 * b + index_of (suc h) (side ∷ q)) (above p)
unfolding above index_of root_of
above_more h b side p = ap (λ ys. (2 * b + nodes_in h) ∷ ys) (each (above p))
  where
    each : (qs : List Path) → map (λ q. 2 * b + index_of (suc h) q) (map (λ q. side ∷ q) qs) ≡ map (λ q. 2 * b + index_of (suc h) (side ∷ q)) qs
    each [] = refl
    each (q ∷ qs) = ap (λ ys. (2 * b + index_of (suc h) (side ∷ q)) ∷ ys) (each qs)

same_map : (f g : Path → ℕ) → ((q : Path) → f q ≡ g q) → (qs : List Path) → map f qs ≡ map g qs
same_map f g e [] = refl
same_map f g e (q ∷ qs) = ap (λ y. y ∷ map f qs) (e q) ∙ ap (λ ys. g q ∷ ys) (same_map f g e qs)

index-left : (h b : ℕ) (q : Path) → 2 * b + index_of h q ≡ 2 * b + index_of (suc h) (false ∷ q)
unfolding index_of
index-left h b q = refl

index-right : (h b m : ℕ) (q : Path) → 2 * m ≡ 2 * b + suc (nodes_in h) → 2 * m + index_of h q ≡ 2 * b + index_of (suc h) (true ∷ q)
unfolding index_of
index-right h b m q e = omega arith

none_above : (h b : ℕ) → map (λ q. 2 * b + index_of h q) (above []) ≡ []
unfolding above
none_above h b = refl

only_root : (x : ℕ) (p : Path) → path_to zero x ≡ Some p → p ≡ []
unfolding path_to
only_root x p e =
    elim (cases_Bool (x == 0)) [
      | inl k ↦ ends (sym (cond-true _ _ _ k) ∙ e)
      | inr k ↦ absurd (no_way (sym (cond-false _ _ _ k) ∙ e))
    ]
  where
    ends : Some [] ≡ Some p → p ≡ []
    ends z = cc

    no_way : None ≡ Some p → ⊥
    no_way z = cc

nodes_left : (b : ℕ) (c : Option Parent) (l r : Term) (i : ℕ) → i < b + width l → map (λ s. s.node) (way b (Branch c l r) i) ≡ (2 * b + size l) ∷ map (λ s. s.node) (way b l i)
nodes_left b c l r i lt = ap (map (λ s. s.node)) (way_left b c l r i lt)

nodes_right : (b : ℕ) (c : Option Parent) (l r : Term) (i : ℕ) → b + width l ≤ i → map (λ s. s.node) (way b (Branch c l r) i) ≡ (2 * b + size l) ∷ map (λ s. s.node) (way (b + width l) r i)
nodes_right b c l r i ge = ap (map (λ s. s.node)) (way_right b c l r i ge)

pub way_above : (h b : ℕ) (t : Term) (i : ℕ) (p : Path) → is_perfect h t ≡ true → path_to h (2 * i) ≡ Some p → map (λ s. s.node) (way b t (b + i)) ≡ map (λ q. 2 * b + index_of h q) (above p)
unfolding is_perfect
way_above zero b (Leaf v) i p perfect e =
    ap (map (λ s. s.node)) (way_leaf b v (b + i))
    ∙ sym (ap (λ y. map (λ q. 2 * b + index_of zero q) (above y)) (only_root (2 * i) p e) ∙ none_above zero b)
way_above (suc h) b (Leaf v) i p perfect e = absurd (true≢false (sym perfect))
way_above zero b (Branch c l r) i p perfect e = absurd (true≢false (sym perfect))
way_above (suc h) b (Branch c l r) i p perfect e =
    let q = and_parts (is_perfect h l) (is_perfect h r) perfect in
    let s = size-perfect h l q.0 in
    let w = size-width l in
    elim (way_cases h (2 * i) p e) [
      | inl a ↦
          let z = a.0 in
          nodes_left b c l r (b + i) (omega arith)
          ∙ ap (λ ys. (2 * b + size l) ∷ ys) (way_above h b l i a.1.rest q.0 a.1.was ∙ same_map _ _ (index-left h b) (above a.1.rest))
          ∙ ap (λ n. (2 * b + n) ∷ map (λ q. 2 * b + index_of (suc h) (false ∷ q)) (above a.1.rest)) s
          ∙ sym (ap (λ y. map (λ q. 2 * b + index_of (suc h) q) (above y)) a.1.is ∙ above_more h b false a.1.rest)
      | inr (inl a) ↦
          let z = a.0 in
          let n = nodes_in-leaves h in
          absurd (omega arith)
      | inr (inr a) ↦
          let z = a.0 in
          let m : ℕ = i - width l in
          let at : path_to h (2 * m) ≡ Some a.1.rest = ap (path_to h) (let f : 2 * m ≡ 2 * i - suc (nodes_in h) = omega arith in f) ∙ a.1.was in
          nodes_right b c l r (b + i) (omega arith)
          ∙ ap (λ j. (2 * b + size l) ∷ map (λ s. s.node) (way (b + width l) r j)) (let f : b + i ≡ (b + width l) + m = omega arith in f)
          ∙ ap (λ ys. (2 * b + size l) ∷ ys) (way_above h (b + width l) r m a.1.rest q.1 at ∙ same_map _ _ (λ y. index-right h b (b + width l) y (omega arith)) (above a.1.rest))
          ∙ ap (λ n. (2 * b + n) ∷ map (λ q. 2 * b + index_of (suc h) (true ∷ q)) (above a.1.rest)) s
          ∙ sym (ap (λ y. map (λ q. 2 * b + index_of (suc h) q) (above y)) a.1.is ∙ above_more h b true a.1.rest)
    ]
