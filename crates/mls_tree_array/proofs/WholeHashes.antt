-- The hashes of a whole tree, which has all cells.
use Rattle.std.proofs.Common.{◌≡◌, ℕ, length, sym, ◌∙◌, ap, subst}
use Rattle.mls_treemath.specs.Paths.{nodes_in}
use Rattle.mls_tree_cells.specs.Cells.{CellList}
use Rattle.mls_tree_model.specs.Arrays.{term_of}
use Rattle.mls_tree_model.proofs.ArrayLaws.{size-term_of}
use Rattle.mls_tree_array.specs.KeptHashes.{hashes_of, Keeps, cold_places}
use Rattle.mls_tree_array.specs.Spans.{part, splice, term_at}
use Rattle.mls_tree_array.proofs.KeptLaws.{keeps_long, length-hashes_of}
use Rattle.mls_tree_array.proofs.SpanLaws.{part_whole, splice_whole}
use Rattle.mls_tree_array.proofs.FilledSides.{with_hashes, filled}

module _ (h : ℕ) (c : CellList) (shape : length c.nodes ≡ nodes_in h) (keeps : Keeps 0 (term_of h c.nodes) c.hashes) where
  pub whole_long : length c.hashes ≡ length c.nodes
  whole_long = keeps_long 0 (term_of h c.nodes) c.hashes keeps ∙ size-term_of h c.nodes ∙ sym shape

  hashes_whole : part h 0 c.hashes ≡ c.hashes
  hashes_whole = part_whole h c.hashes (whole_long ∙ shape)

  pub whole_keeps : Keeps 0 (term_at h 0 c.nodes) (part h 0 c.hashes)
  whole_keeps =
      subst (λ ys. Keeps 0 (term_of h ys) (part h 0 c.hashes)) (sym (part_whole h c.nodes shape))
      (subst (Keeps 0 (term_of h c.nodes)) (sym hashes_whole) keeps)

  pub whole_filled : filled h 0 c ≡ with_hashes c (hashes_of 0 (term_of h c.nodes))
  whole_filled =
      ap (λ ys. with_hashes c (splice 0 (hashes_of 0 (term_of h ys)) c.hashes)) (part_whole h c.nodes shape)
      ∙ ap (with_hashes c)
      (splice_whole (hashes_of 0 (term_of h c.nodes)) c.hashes (length-hashes_of 0 (term_of h c.nodes) ∙ size-term_of h c.nodes ∙ sym shape ∙ sym whole_long))

  pub whole_counted : cold_places (part h 0 c.hashes) ≡ cold_places c.hashes
  whole_counted = ap cold_places hashes_whole
