-- The way down from the root to the lowest node over two nodes.
use Rattle.std.specs.Prelude.{◌≡◌, ℕ, ◌+◌, ◌-◌, ◌^◌, ◌<◌, ◌≤◌, Option, Some}
use Rattle.mls_treemath.specs.Paths.{nodes_in, root_of, path_to}
use Rattle.mls_treemath.specs.Steps.{parting, common_ancestor_of}

-- where the ways to u and v part, in a tree of height h
abbrev pub parting_index : ℕ → ℕ → ℕ → Option ℕ
parting_index h u v = parting h (path_to h u) (path_to h v)

-- node is the root of a subtree of height k that holds x and y, and where their ways part there, they part in the whole tree
pub record HoldsBoth (n x y k node : ℕ) : Type 0 where
  pub first : ℕ
  pub from_x : first ≤ x
  pub x_within : x < first + nodes_in k
  pub from_y : first ≤ y
  pub y_within : y < first + nodes_in k
  pub place : node ≡ first + root_of k
  pub room : first + nodes_in k < 2 ^ 32
  pub rest : (z : ℕ) → parting_index k (x - first) (y - first) ≡ Some z → common_ancestor_of n x y ≡ Some (first + z)
