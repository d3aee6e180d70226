-- In a tree of right lists and fit keys each node that a path's secrets are sealed to has a fit key.
use Rattle.std.proofs.Common.{◌≡◌, ℕ, ◌+◌, ◌*◌, ◌<◌, ◌≤◌, ◌==◌, nat_lt, nat_le, true, false, not, ◌&&◌, ◌||◌, if◌then◌else◌, List, [], ◌∷◌, ◌++◌, Option, Some, None, is_some, refl, ap, sym, ◌∙◌, inl, inr, arith, eqb-true, lt-ltb, le-ltb, ltb-true, leb-true}
use Rattle.std.specs.List.{list_all}
use Rattle.std.proofs.lemmas.Bool.{true≢false, and_parts, and_from, or_cases, or_right, cases_lt, cond-true, cond-false}
use Rattle.std.proofs.lemmas.List.Folds.{list_all-append}
use Rattle.mls_leaf.specs.Parent.{Parent}
use Rattle.mls_leaf.specs.declared.leaf.LeafNode.{LeafNode}
use Rattle.mls_suite.specs.Crypto.{Crypto}
use Rattle.mls_tree_model.specs.Term.{Term, Leaf, Branch, width, size}
use Rattle.mls_tree_model.specs.Sets.{has, leaf_numbers}
use Rattle.mls_tree_model.specs.Keys.{gather, parent_key, encryption_keys}
use Rattle.mls_tree_model.specs.Lists.{all_parents, may_list, is_listed, may_be_listed, lists_here}
use Rattle.mls_tree_model.specs.Places.{own_key, key_at}
use Rattle.mls_tree_model.specs.Resolution.{resolution}
use Rattle.mls_tree_model.specs.Way.{Step, step_at, way, is_filtered}
use Rattle.mls_tree_model.proofs.Equations.{way_leaf, way_left, way_right, at_node_leaf, at_node_here, at_node_left, at_node_right}
use Rattle.mls_tree_model.proofs.SetLaws.{all_at, all_from, has-append, has-filter, of_leaf_numbers}
use Rattle.mls_tree_model.proofs.ShapeLaws.{size-width}
use Rattle.mls_tree_model.proofs.ParentLaws.{parents_parts}
use Rattle.mls_tree_model.proofs.NamedLaws.{lists_bound}
use Rattle.mls_tree_model.proofs.ResolutionLaws.{resolution_range}
use Rattle.mls_treekem_model.specs.Seal.{targets}
use Rattle.mls_treekem_model.specs.Whole.{FitTargets}
use Rattle.mls_treekem_model.specs.Laws.{has_fit_key, all_fit, targets_fit}

module _ (c : Crypto) where
  abbrev AllOk : Term → Type 0
  AllOk t = list_all c.key_ok (encryption_keys t) ≡ true

  ok_parts : (p : Option Parent) (l r : Term) → AllOk (Branch p l r) → AllOk l × (list_all c.key_ok (parent_key p) ≡ true) × AllOk r
  unfolding gather
  ok_parts p l r h =
      let a = and_parts (list_all c.key_ok (encryption_keys l)) _ (sym (list_all-append c.key_ok (encryption_keys l) (parent_key p ++ encryption_keys r)) ∙ h) in
      let b = and_parts (list_all c.key_ok (parent_key p)) _ (sym (list_all-append c.key_ok (parent_key p) (encryption_keys r)) ∙ a.1) in
      (a.0, b.0, b.1)

  leaf_fit : (b : ℕ) (v : Option LeafNode) (d : ℕ) → AllOk (Leaf v) → is_some v ≡ true → d ≡ 2 * b → has_fit_key c (key_at b (Leaf v) d) ≡ true
  unfolding gather key_at
  leaf_fit b None d h e is = absurd (true≢false (sym e))
  leaf_fit b (Some x) d h e is = ap (has_fit_key c) (at_node_leaf b (Some x) None own_key d is) ∙ (and_parts (c.key_ok x.encryption_key) _ h).0

  -- a leaf below one of two sides
  side_fit : (b : ℕ) (p : Option Parent) (l r : Term) (u : ℕ) →
      (u < b + width l → is_listed b l u ≡ true → has_fit_key c (key_at b l (2 * u)) ≡ true) →
      (b + width l ≤ u → is_listed (b + width l) r u ≡ true → has_fit_key c (key_at (b + width l) r (2 * u)) ≡ true) →
      (if nat_lt u (b + width l) then is_listed b l u else is_listed (b + width l) r u) ≡ true → has_fit_key c (key_at b (Branch p l r) (2 * u)) ≡ true
  unfolding key_at
  side_fit b p l r u left right e =
      let s = size-width l in
      elim (cases_lt u (b + width l)) [
        | inl lt ↦ ap (has_fit_key c) (at_node_left None own_key b p l r (2 * u) (omega arith)) ∙ left lt (sym (cond-true _ _ _ (lt-ltb u (b + width l) lt)) ∙ e)
        | inr ge ↦ ap (has_fit_key c) (at_node_right None own_key b p l r (2 * u) (omega arith)) ∙ right ge (sym (cond-false _ _ _ (le-ltb u (b + width l) ge)) ∙ e)
      ]

  listed_fit : (b : ℕ) (t : Term) (u : ℕ) → AllOk t → b ≤ u → u < b + width t → is_listed b t u ≡ true → has_fit_key c (key_at b t (2 * u)) ≡ true
  unfolding is_listed width
  listed_fit b (Leaf v) u h low high e = leaf_fit b v (2 * u) h e (omega arith)
  listed_fit b (Branch p l r) u h low high e =
      let f = ok_parts p l r h in
      side_fit b p l r u (λ lt. listed_fit b l u f.0 low lt) (λ ge. listed_fit (b + width l) r u f.2 ge (omega arith)) (and_parts (may_list p u) _ e).1

  -- the nodes of a resolution
  reached_fit : (b : ℕ) (t : Term) (d : ℕ) → all_parents lists_here b t ≡ true → AllOk t → has (resolution b t) d ≡ true → has_fit_key c (key_at b t d) ≡ true
  unfolding resolution has key_at lists_here may_be_listed
  reached_fit b (Leaf None) d k h e = absurd (true≢false (sym e))
  reached_fit b (Leaf (Some x)) d k h e =
      let q : 2 * b ≡ d = eqb-true (2 * b) d (elim (or_cases (2 * b == d) false e) [ inl m ↦ m | inr m ↦ absurd (true≢false (sym m)) ]) in
      leaf_fit b (Some x) d h refl (sym q)
  reached_fit b (Branch (Some p) l r) d k h e =
      let f = ok_parts (Some p) l r h in
      elim (or_cases (2 * b + size l == d) _ e) [
        | inl q ↦ ap (has_fit_key c) (at_node_here None own_key b (Some p) l r d (sym (eqb-true (2 * b + size l) d q))) ∙ (and_parts (c.key_ok p.encryption_key) _ f.1).0
        | inr q ↦
            let g = of_leaf_numbers p.unmerged_leaves d q in
            let m = and_parts (nat_le b g.0) _ (all_at (may_be_listed b l r) p.unmerged_leaves g.0 (parents_parts lists_here b (Some p) l r k).0 g.2) in
            let n = and_parts (nat_lt g.0 (b + (width l + width r))) _ m.1 in
            let high : g.0 < b + (width l + width r) = ltb-true g.0 (b + (width l + width r)) n.0 in
            ap (λ z. has_fit_key c (key_at b (Branch (Some p) l r) z)) g.1
            ∙ side_fit b (Some p) l r g.0 (λ lt. listed_fit b l g.0 f.0 (leb-true b g.0 m.0) lt) (λ ge. listed_fit (b + width l) r g.0 f.2 ge (omega arith)) n.1
      ]
  reached_fit b (Branch None l r) d k h e =
      let s = size-width l in
      let m = parents_parts lists_here b None l r k in
      let f = ok_parts None l r h in
      elim (or_cases (has (resolution b l) d) _ (sym (has-append (resolution b l) (resolution (b + width l) r) d) ∙ e)) [
        | inl q ↦ ap (has_fit_key c) (at_node_left None own_key b None l r d (resolution_range lists_here lists_bound b l d m.1 q).1) ∙ reached_fit b l d m.1 f.0 q
        | inr q ↦
            let low : 2 * (b + width l) ≤ d = (resolution_range lists_here lists_bound (b + width l) r d m.2 q).0 in
            ap (has_fit_key c) (at_node_right None own_key b None l r d (omega arith)) ∙ reached_fit (b + width l) r d m.2 f.2 q
      ]

  all_fit_is : (b : ℕ) (t : Term) (ds : List ℕ) → all_fit c b t ds ≡ list_all (λ d. has_fit_key c (key_at b t d)) ds
  unfolding all_fit
  all_fit_is b t [] = refl
  all_fit_is b t (d ∷ ds) = ap (λ z. has_fit_key c (key_at b t d) && z) (all_fit_is b t ds)

  module _ (added : List ℕ) where
    step_fit : (s : Step) → all_parents lists_here s.first s.other ≡ true → AllOk s.other → all_fit c s.first s.other (targets added s) ≡ true
    unfolding targets
    step_fit s k h =
        let ds : List ℕ = resolution s.first s.other in
        all_fit_is s.first s.other (targets added s)
        ∙ all_from (λ d. has_fit_key c (key_at s.first s.other d)) (targets added s) (λ d e.
        reached_fit s.first s.other d k h (and_parts (has ds d) _ (sym (has-filter (λ x. not (has (leaf_numbers added) x)) ds d) ∙ e)).0)

    fit_more : (s : Step) (ss : List Step) → all_fit c s.first s.other (targets added s) ≡ true → targets_fit c added ss ≡ true → targets_fit c added (s ∷ ss) ≡ true
    unfolding targets_fit
    fit_more s ss e f = and_from (not (is_filtered s) || all_fit c s.first s.other (targets added s)) _ (or_right (not (is_filtered s)) _ e) f

    fit_along : (b : ℕ) (t : Term) (i : ℕ) → all_parents lists_here b t ≡ true → AllOk t → targets_fit c added (way b t i) ≡ true
    unfolding targets_fit
    fit_along b (Leaf v) i k h = ap (targets_fit c added) (way_leaf b v i)
    fit_along b (Branch p l r) i k h =
        let m = parents_parts lists_here b p l r k in
        let f = ok_parts p l r h in
        elim (cases_lt i (b + width l)) [
          | inl lt ↦
              let s : Step = step_at p (2 * b + size l) (b + width l) r in
              ap (targets_fit c added) (way_left b p l r i lt) ∙ fit_more s (way b l i) (step_fit s m.2 f.2) (fit_along b l i m.1 f.0)
          | inr ge ↦
              let s : Step = step_at p (2 * b + size l) b l in
              ap (targets_fit c added) (way_right b p l r i ge) ∙ fit_more s (way (b + width l) r i) (step_fit s m.1 f.0) (fit_along (b + width l) r i m.2 f.2)
        ]

pub fit_targets : FitTargets
fit_targets c added t i lists h = fit_along c added 0 t i lists.right h
