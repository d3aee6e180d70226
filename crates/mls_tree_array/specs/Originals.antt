-- Trees as they were before some leaves were added (RFC 9420, 7.9).
use Rattle.std.specs.Prelude.{◌≡◌, ℕ, Bool, not, ◌&&◌, if◌then◌else◌, List, Option, None}
use Rattle.std.specs.List.{list_all}
use Rattle.std.specs.Option.{option_copied}
use Rattle.std.specs.Borrow.{Bor}
use Rattle.mls_leaf.specs.Parent.{Parent}
use Rattle.mls_leaf.specs.declared.leaf.LeafNode.{LeafNode}
use Rattle.mls_tree_model.specs.Sets.{has, same_bytes}
use Rattle.mls_tree_model.specs.Term.{Term}
use Rattle.mls_tree_model.specs.Hashes.{tree_hash, original_tree}
use Rattle.mls_tree_array.specs.Witnesses.{unmerged_leaves_of}

-- the tree hash of a tree as it was before some leaves were added
abbrev pub original_hash : List ℕ → ℕ → Term → List ℕ
original_hash us b t = tree_hash b (original_tree us b t)

-- it is told whether two sides have the hashes that they had, and what stands over them lists none of some leaves
abbrev pub Stays : List ℕ → Option (Bor Parent) → List ℕ → List ℕ → List ℕ → List ℕ → Bool → Type 0
Stays us p left right old_left old_right answer =
    answer ≡ (same_bytes left old_left && (same_bytes right old_right && list_all (λ u. not (has us u)) (unmerged_leaves_of (option_copied p))))

-- a leaf as it was before some leaves were added, of which it may be one
abbrev pub leaf_before : List ℕ → ℕ → Option LeafNode → Option LeafNode
leaf_before us i v = if has us i then None else v
