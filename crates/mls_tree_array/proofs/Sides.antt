-- What holds of a subtree, by its root and its sides.
use Rattle.std.proofs.Common.{◌≡◌, ℕ, suc, ◌+◌, ◌*◌, ◌%◌, ◌<◌, ◌≤◌, not, Bool, true, false, cond, ◌&&◌, ◌||◌, List, [], ◌∷◌, ◌++◌, length, Option, Some, None, is_some, inl, inr, refl, sym, ◌∙◌, ap, arith, length-append, lt-ltb, le-ltb}
use Rattle.std.proofs.lemmas.Bool.{cond-true, cond-false}
use Rattle.std.proofs.lemmas.List.Elements.{filter-append}
use Rattle.mls_leaf.specs.Parent.{Parent}
use Rattle.mls_leaf.specs.declared.leaf.LeafNode.{LeafNode}
use Rattle.mls_tree_model.specs.Term.{Term, Leaf, Branch, width, size, has_leaf}
use Rattle.mls_tree_model.specs.Sets.{less, leaf_numbers}
use Rattle.mls_tree_model.specs.Edits.{first_blank, or_else, trim}
use Rattle.mls_tree_model.specs.Keys.{members}
use Rattle.mls_tree_model.specs.Resolution.{resolution, is_empty, is_reached}
use Rattle.mls_tree_model.specs.Way.{target_count}
use Rattle.mls_tree_model.specs.Lists.{parent_passes, all_parents, may_list, is_listed}
use Rattle.mls_tree_model.proofs.Equations.{width_branch, size_branch, trim_full, trim_empty, first_blank_branch, members_branch, resolution_blank_leaf, resolution_leaf, resolution_parent, resolution_blank, all_parents_branch}
use Rattle.mls_tree_model.proofs.PlaceLaws.{first_blank_at}
use Rattle.mls_tree_model.proofs.ShapeLaws.{size-width}
use Rattle.mls_tree_array.specs.Subtrees.{Subtree, end, root_number, IsOver}
use Rattle.mls_tree_array.specs.EndOfMembers.{end_of_members}
use Rattle.mls_tree_array.proofs.EndLaws.{has_or_not, end-right, end-left, end-none, end-within, ends_right, ends_left}
use Rattle.mls_tree_array.proofs.Targets.{odd_off}

either_reached : (xs ys : List ℕ) → not (is_empty (xs ++ ys)) ≡ (not (is_empty xs) || not (is_empty ys))
either_reached [] ys = refl
either_reached (x ∷ xs) ys = refl

-- ---- of a leaf

pub leaf_reached : (b : ℕ) (v : Option LeafNode) → is_reached b (Leaf v) ≡ is_some v
leaf_reached b None = rw (resolution_blank_leaf b) refl
leaf_reached b (Some v) = rw (resolution_leaf b v) refl

pub one_resolution : (t : Subtree) (v : LeafNode) → t.term ≡ Leaf (Some v) → resolution t.first t.term ≡ root_number t.first t.term ∷ []
one_resolution t v is =
    let own : 2 * t.first ≡ 2 * t.first + 0 = omega arith in
    rw is (resolution_leaf t.first v ∙ ap (λ n. n ∷ []) own)

-- ---- of a branch

module _ (t l : Subtree) (c : Option Parent) (r : Subtree) (over : IsOver t l c r) where
  pub width_sides : width t.term ≡ width l.term + width r.term
  width_sides = rw over.is (width_branch c l.term r.term)

  pub size_sides : size t.term ≡ size l.term + suc (size r.term)
  size_sides = rw over.is (size_branch c l.term r.term)

  pub second : r.first ≡ end l
  second = over.right_first ∙ ap (λ b. b + width l.term) (sym over.left_first)

  -- ---- members

  pub member_sides : (b : ℕ) → length (members b t.term) ≡ length (members b l.term) + length (members (b + width l.term) r.term)
  member_sides b = rw over.is (ap length (members_branch b c l.term r.term) ∙ length-append (members b l.term) (members (b + width l.term) r.term))

  pub blank_sides : first_blank t.first t.term ≡ or_else (first_blank l.first l.term) (first_blank r.first r.term)
  blank_sides = rw (over.is, over.left_first, over.right_first) (first_blank_branch t.first c l.term r.term)

  pub blank_on_left : (i : ℕ) → first_blank l.first l.term ≡ Some i → first_blank t.first t.term ≡ Some i
  blank_on_left i e = blank_sides ∙ ap (λ o. or_else o (first_blank r.first r.term)) e

  pub blank_on_right : first_blank l.first l.term ≡ None → first_blank t.first t.term ≡ first_blank r.first r.term
  blank_on_right e = blank_sides ∙ ap (λ o. or_else o (first_blank r.first r.term)) e

  pub no_blank_on_left : (n : ℕ) → ((i : ℕ) → first_blank t.first t.term ≡ Some i → n ≤ i) → r.first ≤ n → first_blank l.first l.term ≡ None
  no_blank_on_left n taken past = go (first_blank l.first l.term) refl
    where
      go : (o : Option ℕ) → first_blank l.first l.term ≡ o → first_blank l.first l.term ≡ None
      go None e = e
      go (Some i) e =
          absurd (
          let low = taken i (blank_on_left i e) in
          let high = (first_blank_at l.first l.term i e).1 in
          let is = second in
          omega arith
          )

  pub end_on_right : has_leaf r.term ≡ true → end_of_members t.first t.term ≡ end_of_members r.first r.term
  end_on_right some = rw (over.is, over.right_first) (end-right t.first c l.term r.term some)

  pub end_on_left : has_leaf r.term ≡ false → end_of_members t.first t.term ≡ end_of_members l.first l.term
  end_on_left none = rw (over.is, over.left_first) (end-left t.first c l.term r.term none)

  pub within_left : end_of_members l.first l.term ≤ r.first
  within_left = let within = end-within l.first l.term in let is = second in omega arith

  pub end_right_by : (e : ℕ) → end_of_members t.first t.term ≤ e → r.first < e → end_of_members r.first r.term ≤ e
  end_right_by e all past =
      elim (has_or_not r.term) [
        | inl some ↦ (let is = end_on_right some in omega arith)
        | inr none ↦ (let is = end-none r.first r.term none in omega arith)
      ]

  pub end_low : end_of_members t.first t.term ≤ r.first → has_leaf r.term ≡ false
  end_low low = ends_left t.first c l.term r.term (let e : end_of_members t.first t.term ≤ r.first = low in rw (over.is, over.right_first) at e)

  pub end_high : r.first < end_of_members t.first t.term → has_leaf r.term ≡ true
  end_high high = ends_right t.first c l.term r.term (let e : r.first < end_of_members t.first t.term = high in rw (over.is, over.right_first) at e)

  pub trim_stays : has_leaf r.term ≡ true → trim t.term ≡ t.term
  trim_stays some = rw over.is (trim_full c l.term r.term some)

  pub trim_goes : has_leaf r.term ≡ false → trim t.term ≡ trim l.term
  trim_goes none = rw over.is (trim_empty c l.term r.term none)

  -- ---- resolutions

  pub resolution_full : (p : Parent) → Some p ≡ c → resolution t.first t.term ≡ root_number t.first t.term ∷ leaf_numbers p.unmerged_leaves
  resolution_full p some = rw (over.is, ← some) (resolution_parent t.first p l.term r.term)

  pub resolution_sides : None ≡ c → resolution t.first t.term ≡ resolution l.first l.term ++ resolution r.first r.term
  resolution_sides none = rw (over.is, ← none, over.left_first, over.right_first) (resolution_blank t.first l.term r.term)

  pub reached_full : (b : ℕ) (p : Parent) → Some p ≡ c → is_reached b t.term ≡ true
  reached_full b p some = rw (over.is, ← some, resolution_parent b p l.term r.term) refl

  pub reached_sides : (b : ℕ) → None ≡ c → is_reached b t.term ≡ (is_reached b l.term || is_reached (b + width l.term) r.term)
  reached_sides b none = rw (over.is, ← none, resolution_blank b l.term r.term) (either_reached (resolution b l.term) (resolution (b + width l.term) r.term))

  odd_root : root_number t.first (Branch c l.term r.term) % 2 ≡ 1
  odd_root = let s = size-width l.term in omega arith

  pub targets_full : (added : List ℕ) (p : Parent) → Some p ≡ c → target_count added t.first t.term ≡ 1 + length (less (leaf_numbers added) (leaf_numbers p.unmerged_leaves))
  targets_full added p some =
      let n : ℕ = root_number t.first t.term in
      let odd : n % 2 ≡ 1 = rw over.is odd_root in
      ap (λ ys. length (less (leaf_numbers added) ys)) (resolution_full p some)
      ∙ ap (λ v. length (cond (not v) (n ∷ less (leaf_numbers added) (leaf_numbers p.unmerged_leaves)) (less (leaf_numbers added) (leaf_numbers p.unmerged_leaves)))) (odd_off n added odd)
      ∙ omega arith

  pub targets_sides : (added : List ℕ) → None ≡ c → target_count added t.first t.term ≡ target_count added l.first l.term + target_count added r.first r.term
  targets_sides added none =
      ap (λ ys. length (less (leaf_numbers added) ys)) (resolution_sides none) ∙ rw (filter-append, length-append) refl

  -- ---- lists

  pub each_sides : (q : ℕ → Parent → Term → Term → Bool) → all_parents q t.first t.term ≡ (parent_passes q l.first c l.term r.term && (all_parents q l.first l.term && all_parents q r.first r.term))
  each_sides q = rw (over.is, over.left_first, over.right_first) (all_parents_branch t.first c l.term r.term q)

  pub not_listed : (u : ℕ) → may_list c u ≡ false → is_listed t.first t.term u ≡ false
  unfolding is_listed
  not_listed u skips = rw (over.is, skips) refl

  pub listed_left : (u : ℕ) → may_list c u ≡ true → u < r.first → is_listed t.first t.term u ≡ is_listed l.first l.term u
  unfolding is_listed
  listed_left u lists low =
      rw (over.is, over.left_first, lists) (cond-true _ _ _ (lt-ltb u (t.first + width l.term) (let is = over.right_first in omega arith)))

  pub listed_right : (u : ℕ) → may_list c u ≡ true → r.first ≤ u → is_listed t.first t.term u ≡ is_listed r.first r.term u
  unfolding is_listed
  listed_right u lists high =
      rw (over.is, over.right_first, lists) (cond-false _ _ _ (le-ltb u (t.first + width l.term) (let is = over.right_first in omega arith)))
