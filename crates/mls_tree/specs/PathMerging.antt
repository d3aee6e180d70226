-- What a merge of a path makes of a tree, as code has it (RFC 9420, 7.5 and 7.9).
use Rattle.std.specs.Prelude.{◌≡◌, ℕ, Bool, List, [], reverse}
use Rattle.std.specs.Global.{Vec}
use Rattle.mls_leaf.specs.Parent.{Parent}
use Rattle.mls_leaf.specs.declared.leaf.LeafNode.{LeafNode}
use Rattle.mls_tree_cells.specs.Cells.{CellList}
use Rattle.mls_tree_model.specs.Sets.{same_bytes, is_distinct}
use Rattle.mls_tree_model.specs.Term.{Term}
use Rattle.mls_tree_model.specs.Keys.{encryption_keys}
use Rattle.mls_tree_model.specs.Merge.{merge_path, path_parent_hash}
use Rattle.mls_tree_model.specs.Arrays.{term_of}
use Rattle.mls_tree_array.specs.declared.merging.MergedPath.{MergedPath}
use Rattle.mls_tree_array.specs.Merging.{path_parents, hash_bytes}
use Rattle.mls_tree.specs.declared.key_indexes.KeyIndexes.{KeyIndexes}
use Rattle.mls_tree.specs.ArrayEdits.{EditsLeaf}
use Rattle.mls_tree.specs.IndexedKeys.{KeepsIndexes}

-- these are the parents over leaf i that a merge makes of keys, the lowest first
abbrev pub ArePathParents : Term → ℕ → List (List ℕ) → Vec Parent → Type 0
ArePathParents t i keys = λ parents. parents.items ≡ path_parents 0 t i (reverse keys) []

-- the hash of a merged path is that which the leaf must have
abbrev pub HasPathHash : Term → ℕ → List (List ℕ) → MergedPath → Type 0
HasPathHash t i keys = λ path. hash_bytes path.hash ≡ path_parent_hash t i keys

-- whether a merged tree has no encryption key twice
abbrev pub keys_differ : Term → ℕ → LeafNode → List (List ℕ) → Bool
keys_differ t i x keys = is_distinct same_bytes (encryption_keys (merge_path t i x keys))

-- the path was merged into the cells, whatever keys the parents are made of
abbrev pub MergesParents : ℕ → ℕ → LeafNode → Vec Parent → CellList → CellList → Type 0
MergesParents h i leaf parents old new =
    (keys : List (List ℕ)) → parents.items ≡ path_parents 0 (term_of h old.nodes) i (reverse keys) [] → EditsLeaf h i (term_of h old.nodes) (merge_path (term_of h old.nodes) i leaf keys) old new

-- the indexes of the nodes are those of the new nodes, whatever keys the parents are made of
abbrev pub Follows : ℕ → ℕ → Vec Parent → CellList → CellList → KeyIndexes → KeyIndexes → Type 0
Follows h i parents old new before after =
    (keys : List (List ℕ)) → parents.items ≡ path_parents 0 (term_of h old.nodes) i (reverse keys) [] → KeepsIndexes old.nodes new.nodes before after
