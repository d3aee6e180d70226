-- The cells of a whole tree after the changes that edit it at a leaf.
use Rattle.std.proofs.Common.{◌≡◌, ℕ, ◌+◌, ◌*◌, ◌<◌, true, List, length, All, sym, ◌∙◌, ap, arith}
use Rattle.std.proofs.lemmas.List.Elements.{All-same}
use Rattle.mls_tree_cells.specs.declared.changes.Change.{Change}
use Rattle.mls_tree_cells.specs.Cells.{CellList, Puts, put_nodes, drop_hashes_at}
use Rattle.mls_treemath.specs.Paths.{nodes_in}
use Rattle.mls_tree_model.specs.Term.{Term, size, is_perfect}
use Rattle.mls_tree_model.specs.Arrays.{term_of, in_order}
use Rattle.mls_tree_model.proofs.ArrayLaws.{perfect-term_of, size-perfect, size-term_of}
use Rattle.mls_tree_array.specs.Changes.{cells_on_way}
use Rattle.mls_tree_array.specs.KeptHashes.{drop_hashes}
use Rattle.mls_tree_array.specs.Standing.{Stands}
use Rattle.mls_tree_array.specs.StandingLaws.{StandsFor}
use Rattle.mls_tree_array.proofs.StandingLaws.{stands_for}
use Rattle.mls_tree_array.proofs.ChangeLaws.{DifferOnWay, IsBelow, below_more, perfect_differ, places_on_way, nodes_whole, hashes_whole}

module _ (h i : ℕ) (u : Term) (old : CellList) (cs : List Change) (stands : Stands h old.nodes) (differ : DifferOnWay 0 i (term_of h old.nodes) u) (are : cs ≡ cells_on_way 0 u i) where
  perfect_after : is_perfect h u ≡ true
  perfect_after = perfect_differ h 0 i (term_of h old.nodes) u (perfect-term_of h old.nodes) differ

  -- each change has a place among the cells
  pub places_fit : All (λ (c : Change). c.place < length old.nodes) cs
  places_fit =
      All-same (IsBelow (length old.nodes)) cs (cells_on_way 0 u i) are
      (below_more (2 * 0 + size u) (length old.nodes) (omega (arith, stands.size, size-perfect h u perfect_after)) (cells_on_way 0 u i) (places_on_way 0 i u))

  module _ (new : CellList) (puts : Puts cs old new) where
    pub nodes_after : new.nodes ≡ in_order u
    nodes_after =
        puts.nodes
        ∙ ap (λ ds. put_nodes ds old.nodes) are
        ∙ ap (put_nodes (cells_on_way 0 u i)) (sym stands.order)
        ∙ nodes_whole i (term_of h old.nodes) u differ

    pub stands_after : StandsFor h new.nodes u
    stands_after = stands_for h u new.nodes perfect_after nodes_after

    pub hashes_after : length old.hashes ≡ nodes_in h → new.hashes ≡ drop_hashes 0 (term_of h old.nodes) i old.hashes
    hashes_after long =
        puts.hashes
        ∙ ap (λ ds. drop_hashes_at ds old.hashes) are
        ∙ hashes_whole i (term_of h old.nodes) u old.hashes differ (long ∙ sym (size-term_of h old.nodes))
