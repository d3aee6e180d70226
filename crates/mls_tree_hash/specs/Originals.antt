-- Parents of original siblings: some leaves are taken out of their lists (RFC 9420, 7.9).
use Rattle.std.specs.Prelude.{ℕ, List, Option}
use Rattle.mls_leaf.specs.Parent.{Parent}
use Rattle.mls_tree_model.specs.Sets.{less}
use Rattle.mls_tree_model.specs.Hashes.{unlist_leaves}
use Rattle.mls_tree_model.specs.Inputs.{branch_hash}

-- a parent with some leaves taken out of its list
abbrev pub parent_without : List ℕ → Parent → Parent
parent_without us p = record p { unmerged_leaves = less us p.unmerged_leaves }

-- the tree hash of a place by those of its sides, where some leaves are taken out of its list
abbrev pub hash_without : List ℕ → Option Parent → List ℕ → List ℕ → List ℕ
hash_without us p left right = branch_hash (unlist_leaves us p) left right
