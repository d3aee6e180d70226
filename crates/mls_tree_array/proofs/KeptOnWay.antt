-- Hashes that are kept on a way, by the root and a side. The root's number is r, as code has it.
use Rattle.std.proofs.Common.{◌≡◌, ℕ, suc, ◌+◌, ◌-◌, ◌*◌, ◌^◌, ◌<◌, ◌≤◌, List, [], length, get_or, take, set, Some, ◌∙◌, ap, arith}
use Rattle.std.proofs.lemmas.List.{length-take-le}
use Rattle.mls_tree_cells.specs.Cells.{CellList}
use Rattle.mls_tree_array.specs.WayHashes.{IsColdOnWay, keep_on_way}
use Rattle.mls_tree_array.proofs.WayLaws.{cold_left, cold_right, keep_one, keep_in_left, keep_in_right}
use Rattle.mls_tree_array.proofs.FilledSides.{with_hashes}

-- all but the last
pub few_below : (h : ℕ) (ws : List (List ℕ)) → 0 < h → length ws ≡ suc h → length (take h ws) ≡ suc (h - 1)
few_below h ws pos long = length-take-le h ws (omega arith) ∙ omega arith

module _ (h b i r : ℕ) (ws : List (List ℕ)) (c kept : CellList) (at : suc r ≡ 2 * b + 2 ^ h) (is_kept : kept ≡ with_hashes c (set c.hashes r (Some (get_or ws h [])))) where
  pub kept_leaf : h ≡ 0 → kept ≡ with_hashes c (keep_on_way h b i ws c.hashes)
  kept_leaf low = is_kept ∙ ap (with_hashes c) (keep_one h b i r ws c.hashes low at)

  pub nodes_stay : length kept.nodes ≡ length c.nodes
  nodes_stay = ap (λ (d : CellList). length d.nodes) is_kept

  module _ (pos : 0 < h) where
    pub left_cold : i < b + 2 ^ (h - 1) → IsColdOnWay h b i c.hashes → IsColdOnWay (h - 1) b i kept.hashes
    left_cold lt cold = rw is_kept (cold_left h b i r c.hashes (Some (get_or ws h [])) pos at lt cold)

    pub left_kept : (new : CellList) → i < b + 2 ^ (h - 1) → new ≡ with_hashes kept (keep_on_way (h - 1) b i (take h ws) kept.hashes) → new ≡ with_hashes c (keep_on_way h b i ws c.hashes)
    left_kept new lt is = is ∙ rw is_kept (ap (with_hashes c) (keep_in_left h b i r ws c.hashes pos at lt))

    module _ (second : ℕ) (is_second : second ≡ b + 2 ^ (h - 1)) (ge : second ≤ i) where
      high : b + 2 ^ (h - 1) ≤ i
      high = omega arith

      pub right_cold : IsColdOnWay h b i c.hashes → IsColdOnWay (h - 1) second i kept.hashes
      right_cold cold = rw (is_second, is_kept) (cold_right h b i r c.hashes (Some (get_or ws h [])) pos at high cold)

      pub right_kept : (new : CellList) → new ≡ with_hashes kept (keep_on_way (h - 1) second i (take h ws) kept.hashes) → new ≡ with_hashes c (keep_on_way h b i ws c.hashes)
      right_kept new is = is ∙ rw (is_second, is_kept) (ap (with_hashes c) (keep_in_right h b i r ws c.hashes pos at high))
