-- What edits make of the cells of a whole tree.
use Rattle.std.specs.Prelude.{◌≡◌, suc, ◌+◌, ◌^◌, ◌++◌, ℕ, replicate, Option, None}
use Rattle.mls_leaf.specs.declared.leaf.LeafNode.{LeafNode}
use Rattle.mls_treemath.specs.Paths.{nodes_in}
use Rattle.mls_tree_cells.specs.Cells.{CellList}
use Rattle.mls_tree_model.specs.Term.{Term}
use Rattle.mls_tree_model.specs.Edits.{put, enter, grow}
use Rattle.mls_tree_model.specs.Arrays.{term_of}
use Rattle.mls_tree_array.specs.KeptHashes.{drop_hashes}
use Rattle.mls_tree_array.specs.StandingLaws.{StandsFor}

-- the nodes stand for the tree u, which was made of t by an edit of leaf i: the hashes on the way to it were dropped
pub record EditsLeaf (h i : ℕ) (t u : Term) (old new : CellList) : Type 0 where
  pub nodes : StandsFor h new.nodes u
  pub hashes : new.hashes ≡ drop_hashes 0 t i old.hashes

-- leaf i was replaced, and the parents over it blanked
abbrev pub PutsLeaf : ℕ → ℕ → Option LeafNode → CellList → CellList → Type 0
PutsLeaf h i leaf old new = EditsLeaf h i (term_of h old.nodes) (put 0 (term_of h old.nodes) i leaf) old new

-- leaf i was filled, and entered in the lists over it
abbrev pub EntersLeaf : ℕ → ℕ → LeafNode → CellList → CellList → Type 0
EntersLeaf h i leaf old new = EditsLeaf h i (term_of h old.nodes) (enter 0 (term_of h old.nodes) i leaf) old new

-- the tree was doubled, and the first of the new leaves filled: the new nodes are cold
pub record AppendsLeaf (h : ℕ) (leaf : LeafNode) (old new : CellList) : Type 0 where
  pub nodes : StandsFor (h + 1) new.nodes (enter 0 (grow (term_of h old.nodes)) (2 ^ h) leaf)
  pub hashes : new.hashes ≡ drop_hashes 0 (grow (term_of h old.nodes)) (2 ^ h) (old.hashes ++ replicate (suc (nodes_in h)) None)
