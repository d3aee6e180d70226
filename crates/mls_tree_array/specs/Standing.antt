-- Lists of nodes that stand for trees.
use Rattle.std.specs.Prelude.{◌≡◌, ℕ, List, length, Option}
use Rattle.mls_leaf.specs.declared.node.Node.{Node}
use Rattle.mls_treemath.specs.Paths.{nodes_in}
use Rattle.mls_tree_model.specs.Arrays.{term_of, in_order}

-- the nodes of a tree of height h in order: as many as it has, leaves at even places and parents at odd ones
pub record Stands (h : ℕ) (xs : List (Option Node)) : Type 0 where
  pub size : length xs ≡ nodes_in h
  pub order : in_order (term_of h xs) ≡ xs
