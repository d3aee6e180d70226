-- Laws: the list of a tree's nodes in order stands for that tree, also after each edit.
use Rattle.std.specs.Prelude.{◌≡◌, ℕ, List, Option}
use Rattle.mls_leaf.specs.declared.node.Node.{Node}
use Rattle.mls_tree_model.specs.Term.{Term}
use Rattle.mls_tree_model.specs.Arrays.{term_of}
use Rattle.mls_tree_array.specs.Standing.{Stands}

-- the list stands for this tree
pub record StandsFor (h : ℕ) (xs : List (Option Node)) (t : Term) : Type 0 where
  pub stands : Stands h xs
  pub term : term_of h xs ≡ t
