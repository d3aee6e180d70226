-- Laws of indexes without the cells of a leaf's way: an edit of that leaf leaves them as they are.
use Rattle.std.proofs.Common.{◌≡◌, ℕ, ◌+◌, ◌*◌, false, List, get_or, Option, None, sym, ◌∙◌, ap, arith, inl, inr}
use Rattle.std.proofs.lemmas.Bool.{cases_Bool}
use Rattle.mls_leaf.specs.declared.leaf.LeafNode.{LeafNode}
use Rattle.mls_leaf.specs.declared.node.Node.{Node}
use Rattle.mls_tree_model.specs.Term.{Term}
use Rattle.mls_tree_model.specs.Sets.{has}
use Rattle.mls_tree_model.specs.Edits.{put}
use Rattle.mls_tree_model.specs.Merge.{merge}
use Rattle.mls_tree_model.specs.Arrays.{term_of, in_order}
use Rattle.mls_tree_model.proofs.ArrayLaws.{perfect-term_of}
use Rattle.mls_tree_index.specs.declared.kind.KeyKind.{KeyKind}
use Rattle.mls_tree_index.specs.Keys.{key_of, key_in}
use Rattle.mls_tree_index.specs.Indexes.{Listing, Indexes}
use Rattle.mls_tree_index.specs.BlankedCells.{cells_without}
use Rattle.mls_tree_index.proofs.CountLaws.{none_blank}
use Rattle.mls_tree_index.proofs.ClearedLaws.{cleared_alike, key_cleared, key_left}
use Rattle.mls_tree_array.specs.Standing.{Stands}
use Rattle.mls_tree_array.specs.StandingLaws.{StandsFor}
use Rattle.mls_tree.specs.Way.{way_numbers}
use Rattle.mls_tree.proofs.BesideLaws.{StaysBeside, put_stays, merge_stays}
use Rattle.mls_tree.proofs.BlankLaws.{put_blanks}

-- the list of an edited tree
pub listed : (h : ℕ) (ys : List (Option Node)) (t : Term) → StandsFor h ys t → ys ≡ in_order t
listed h ys t edited = sym edited.stands.order ∙ ap in_order edited.term

module _ (h i : ℕ) (xs : List (Option Node)) (stands : Stands h xs) where
  cell_beside : (t : Term) → StaysBeside h 0 i (term_of h xs) t → (y : ℕ) → has (way_numbers h i) y ≡ false → get_or (in_order t) y None ≡ get_or xs y None
  cell_beside t stays y out =
      let at : 2 * 0 + y ≡ y = omega arith in
      stays y (ap (has (way_numbers h i)) at ∙ out) ∙ ap (λ zs. get_or zs y None) stands.order

  pub cell_beside-put : (v : Option LeafNode) (y : ℕ) → has (way_numbers h i) y ≡ false → get_or (in_order (put 0 (term_of h xs) i v)) y None ≡ get_or xs y None
  cell_beside-put v = cell_beside (put 0 (term_of h xs) i v) (put_stays h 0 (term_of h xs) i v (perfect-term_of h xs))

  pub cell_beside-merge : (ks : List (List ℕ)) (g : List ℕ) (x : LeafNode) (y : ℕ) → has (way_numbers h i) y ≡ false → get_or (in_order (merge 0 (term_of h xs) i ks g x)) y None ≡ get_or xs y None
  cell_beside-merge ks g x = cell_beside (merge 0 (term_of h xs) i ks g x) (merge_stays h 0 (term_of h xs) i ks g x (perfect-term_of h xs))

  module _ (t : Listing) (ys : List (Option Node)) where
    indexes_beside : (u : Term) → StandsFor h ys u → StaysBeside h 0 i (term_of h xs) u → Indexes (cells_without 0 (way_numbers h i) xs) t → Indexes (cells_without 0 (way_numbers h i) ys) t
    indexes_beside u edited stays =
        cleared_alike t (way_numbers h i) xs ys (λ y out. ap (key_of t.kind) (sym (ap (λ zs. get_or zs y None) (listed h ys u edited) ∙ cell_beside u stays y out)))

    pub indexes-put : (v : Option LeafNode) → StandsFor h ys (put 0 (term_of h xs) i v) → Indexes (cells_without 0 (way_numbers h i) xs) t → Indexes (cells_without 0 (way_numbers h i) ys) t
    indexes-put v edited = indexes_beside _ edited (put_stays h 0 (term_of h xs) i v (perfect-term_of h xs))

    pub indexes-merge : (ks : List (List ℕ)) (g : List ℕ) (x : LeafNode) → StandsFor h ys (merge 0 (term_of h xs) i ks g x) → Indexes (cells_without 0 (way_numbers h i) xs) t → Indexes (cells_without 0 (way_numbers h i) ys) t
    indexes-merge ks g x edited = indexes_beside _ edited (merge_stays h 0 (term_of h xs) i ks g x (perfect-term_of h xs))

  -- where the leaf is removed, nothing stands on its way
  pub removed_key : (k : KeyKind) (y : ℕ) → key_in k (cells_without 0 (way_numbers h i) xs) y ≡ key_in k (in_order (put 0 (term_of h xs) i None)) y
  removed_key k y = elim (cases_Bool (has (way_numbers h i) y)) [
    | inl on ↦
        let at : 2 * 0 + y ≡ y = omega arith in
        key_cleared k (way_numbers h i) xs y on
        ∙ sym (ap (key_of k) (put_blanks h 0 (term_of h xs) i (perfect-term_of h xs) y (ap (has (way_numbers h i)) at ∙ on)) ∙ none_blank k)
    | inr out ↦ key_left k (way_numbers h i) xs y out ∙ sym (ap (key_of k) (cell_beside-put None y out))
  ]
