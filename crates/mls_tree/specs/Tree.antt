-- A public tree as a value, and what its calls answer.
use Rattle.std.specs.Prelude.{ℕ, ◌^◌, List, Option, Result, Ok}
use Rattle.mls_wire.specs.Checks.{require, require_some, ◌>>◌}
use Rattle.mls_wire.specs.Reading.{◌>>=◌}
use Rattle.mls_leaf.specs.declared.node.Node.{Node}
use Rattle.mls_leaf.specs.declared.leaf.LeafNode.{LeafNode}
use Rattle.mls_treemath.specs.Limits.{max_height}
use Rattle.mls_tree_model.specs.Term.{Term, leaf_of}
use Rattle.mls_tree_model.specs.Edits.{add, update, remove, place_in}
use Rattle.mls_tree_model.specs.Way.{filtered_path}
use Rattle.mls_tree_model.specs.Good.{is_within}
use Rattle.mls_tree_model.specs.Arrays.{term_of}

-- the nodes in order, and the height; the kept hashes beside the nodes, and how many hashes of nodes were made
pub record Tree : Type 0 where
  pub height : ℕ
  pub nodes : List (Option Node)
  pub hashes : List (Option (List ℕ))
  pub hash_count : ℕ

-- the tree that it stands for (RFC 9420, 7.1)
abbrev pub term : Tree → Term
term t = term_of t.height t.nodes

-- the most leaves of a tree, which is this project's choice
abbrev pub max_leaves : ℕ
max_leaves = 2 ^ max_height

-- the leaf of the member at leaf i, or `NoSuchLeaf` (22) where none is there
abbrev pub member_at : Term → ℕ → Result LeafNode ℕ
member_at t i = require_some 22 (leaf_of t i)

-- the filtered direct path of a member (RFC 9420, 4.1.2)
unfoldable pub path_answer : Term → ℕ → Result (List ℕ) ℕ
path_answer t i = member_at t i >>= λ v. Ok (filtered_path 0 t i)

-- a leaf added: its place and the tree after it, or `TreeFull` (21) where that tree would be too large (RFC 9420,
-- 12.1.1)
unfoldable pub add_answer : Term → LeafNode → Result (ℕ × Term) ℕ
add_answer t x = require 21 (is_within max_leaves (add t x)) >> Ok (place_in t, add t x)

-- the tree after an update of a member's leaf, or `NoSuchLeaf` (22) (RFC 9420, 12.1.2)
unfoldable pub update_answer : Term → ℕ → LeafNode → Result Term ℕ
update_answer t i x = member_at t i >>= λ v. Ok (update t i x)

-- the tree after the removal of a member, or `NoSuchLeaf` (22) (RFC 9420, 12.1.3)
unfoldable pub remove_answer : Term → ℕ → Result Term ℕ
remove_answer t i = member_at t i >>= λ v. Ok (remove t i)
