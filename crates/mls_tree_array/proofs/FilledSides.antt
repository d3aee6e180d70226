-- The hashes of a tree, once those of both its sides were filled in. The root's number is r, as code has it.
use Rattle.std.proofs.Common.{◌≡◌, ℕ, suc, ◌+◌, ◌-◌, ◌*◌, ◌^◌, ◌<◌, ◌≤◌, List, [], length, get_or, set, Option, Some, None, sym, ◌∙◌, ap}
use Rattle.mls_leaf.specs.declared.node.Node.{Node}
use Rattle.mls_treemath.specs.Paths.{nodes_in}
use Rattle.mls_tree_cells.specs.Cells.{CellList}
use Rattle.mls_tree_model.specs.Inputs.{branch_hash}
use Rattle.mls_tree_model.specs.Hashes.{tree_hash}
use Rattle.mls_tree_model.specs.Arrays.{parent_in}
use Rattle.mls_tree_hash.specs.Counter.{counted}
use Rattle.mls_tree_array.specs.KeptHashes.{hashes_of, Keeps, cold_places}
use Rattle.mls_tree_array.specs.Spans.{part, splice, term_at}
use Rattle.mls_tree_array.proofs.PartHashes.{part_right_kept, part_value, part_cold, part_all, part_counted, part_long, right_fits}

-- the cells with other hashes
abbrev pub with_hashes : CellList → List (Option (List ℕ)) → CellList
with_hashes c hs = record c { hashes = hs }

-- the cells once those of the subtree of height h whose first leaf is b were filled in
abbrev pub filled : ℕ → ℕ → CellList → CellList
filled h b c = with_hashes c (splice b (hashes_of b (term_at h b c.nodes)) c.hashes)

module _ (h b r second : ℕ) (c left : CellList) (pos : 0 < h) (at : suc r ≡ 2 * b + 2 ^ h) (is_second : second ≡ b + 2 ^ (h - 1)) (fits : 2 * b + nodes_in h ≤ length c.nodes) (long : length c.hashes ≡ length c.nodes) (is_left : left ≡ filled (h - 1) b c) where
  -- the right side is as it was
  pub second_shape : 2 * second + nodes_in (h - 1) ≤ length left.nodes
  second_shape = rw (is_second, is_left) (right_fits h b r c.nodes c.hashes pos at fits long)

  pub second_long : length left.hashes ≡ length left.nodes
  second_long = rw is_left (part_long h b r c.nodes c.hashes pos at fits long)

  pub second_keeps : Keeps b (term_at h b c.nodes) (part h b c.hashes) → Keeps second (term_at (h - 1) second left.nodes) (part (h - 1) second left.hashes)
  second_keeps keeps = rw (is_second, is_left) (part_right_kept h b r c.nodes c.hashes pos at fits long keeps)

  module _ (right : CellList) (is_right : right ≡ filled (h - 1) second left) where
    pub nodes_stay : right.nodes ≡ c.nodes
    nodes_stay = ap (λ (d : CellList). d.nodes) is_right ∙ ap (λ (d : CellList). d.nodes) is_left

    pub root_cold : get_or c.hashes r None ≡ None → get_or right.hashes r (Some []) ≡ None
    root_cold none = rw (is_right, is_left, is_second) (part_cold h b r c.nodes c.hashes pos at fits long none)

    pub root_value : (g lower upper : List ℕ) (o : Option Node) → lower ≡ tree_hash b (term_at (h - 1) b c.nodes) → upper ≡ tree_hash second (term_at (h - 1) second left.nodes) → o ≡ get_or right.nodes r None → g ≡ branch_hash (parent_in o) lower upper → g ≡ tree_hash b (term_at h b c.nodes)
    root_value g lower upper o is_lower is_upper is_root made =
        let all : upper ≡ tree_hash (b + 2 ^ (h - 1)) (term_at (h - 1) (b + 2 ^ (h - 1)) c.nodes) =
        is_upper
        ∙ ap (λ (d : CellList). tree_hash second (term_at (h - 1) second d.nodes)) is_left
        ∙ ap (λ k. tree_hash k (term_at (h - 1) k c.nodes)) is_second in
        made
        ∙ ap (λ p. branch_hash (parent_in p) lower upper) (is_root ∙ ap (λ xs. get_or xs r None) nodes_stay)
        ∙ ap (λ y. branch_hash (parent_in (get_or c.nodes r None)) y upper) is_lower
        ∙ ap (λ y. branch_hash (parent_in (get_or c.nodes r None)) (tree_hash b (term_at (h - 1) b c.nodes)) y) all
        ∙ sym (part_value h b r c.nodes c.hashes pos at fits long)

    pub root_all : (g : List ℕ) (new : CellList) → g ≡ tree_hash b (term_at h b c.nodes) → new ≡ with_hashes right (set right.hashes r (Some g)) → new ≡ filled h b c
    root_all g new made kept =
        kept ∙ rw (is_right, is_left, is_second) (ap (with_hashes c) (part_all h b r c.nodes c.hashes pos at fits long g made))

    pub root_counted : get_or c.hashes r None ≡ None → (d e f g : ℕ) → e ≡ counted d (cold_places (part (h - 1) b c.hashes)) → f ≡ counted e (cold_places (part (h - 1) second left.hashes)) → g ≡ counted f 1 → g ≡ counted d (cold_places (part h b c.hashes))
    root_counted none d e f g one two three =
        part_counted h b r c.nodes c.hashes pos at fits long none d e f g one
        (two
        ∙ ap (λ (d : CellList). counted e (cold_places (part (h - 1) second d.hashes))) is_left
        ∙ ap (λ k. counted e (cold_places (part (h - 1) k (splice b (hashes_of b (term_at (h - 1) b c.nodes)) c.hashes)))) is_second)
        three
