-- How long the leaves of a tree are.
use Rattle.std.specs.Prelude.{ℕ, ◌<◌, ◌^◌, List, length, Option, IfSome}
use Rattle.std.specs.List.{flat_map, AllByRecursion}
use Rattle.mls_wire.specs.Combine.{optional}
use Rattle.mls_leaf.specs.Leaf.{leaf_node}
use Rattle.mls_leaf.specs.Node.{node}
use Rattle.mls_leaf.specs.declared.node.Node.{Node}
use Rattle.mls_checks.specs.Short.{IsShort}
use Rattle.mls_tree_model.specs.Term.{Term, leaf_of}

-- each member's leaf encodes to fewer than 2^28 bytes
abbrev pub HasShortLeaves : Term → Type 0
HasShortLeaves t = (i : ℕ) → IfSome (leaf_of t i) (λ v. IsShort leaf_node v)

-- nodes that have a spelling, of fewer than 2^28 bytes together, as those of an input do
pub record AreShort (xs : List (Option Node)) : Type 0 where
  pub fits : AllByRecursion (optional node).Fits xs
  pub short : length (flat_map (optional node).spell xs) < 2 ^ 28
