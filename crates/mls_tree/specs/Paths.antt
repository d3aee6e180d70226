-- What the calls on a commit's path answer.
use Rattle.std.specs.Prelude.{◌≡◌, ◌≢◌, ℕ, ◌==◌, List, length, Result, Ok, Err}
use Rattle.mls_wire.specs.Checks.{Passed, require, ◌>>◌}
use Rattle.mls_wire.specs.Reading.{◌>>=◌}
use Rattle.mls_leaf.specs.declared.leaf.LeafNode.{LeafNode}
use Rattle.mls_tree_model.specs.Node.{source_hash}
use Rattle.mls_tree_model.specs.Sets.{same_bytes, is_distinct}
use Rattle.mls_tree_model.specs.Term.{Term}
use Rattle.mls_tree_model.specs.Way.{path_length, ciphertext_counts}
use Rattle.mls_tree_model.specs.Hashes.{is_some_bytes}
use Rattle.mls_tree_model.specs.Keys.{encryption_keys}
use Rattle.mls_tree_model.specs.Merge.{merge_path, path_parent_hash}
use Rattle.mls_tree.specs.Tree.{member_at}

-- `NoSuchLeaf` (22) where no member is at leaf i, then `PathLength` (30) where there aren't as many keys as its
-- filtered path has parents (RFC 9420, 7.6)
unfoldable pub path_checks : Term → ℕ → ℕ → Result Passed ℕ
path_checks t i n = member_at t i >>= λ v. require 30 (n == path_length 0 t i)

-- the parent hash that the leaf of a path with these keys must have (RFC 9420, 7.9)
unfoldable pub path_hash_answer : Term → ℕ → List (List ℕ) → Result (List ℕ) ℕ
path_hash_answer t i keys = path_checks t i (length keys) >> Ok (path_parent_hash t i keys)

-- how many ciphertexts each node of a member's path has, the lowest first, where these leaves were just added (RFC
-- 9420, 7.6 and 12.4.2); `NoSuchLeaf` (22) where no member is at leaf i
unfoldable pub counts_answer : Term → ℕ → List ℕ → Result (List ℕ) ℕ
counts_answer t i added = member_at t i >>= λ v. Ok (ciphertext_counts 0 t i added)

-- `NoSuchLeaf` (22) and `PathLength` (30), then `KeyRepeated` (25) where two nodes of the merged tree have one
-- encryption key, and `ParentHashWrong` (24) where the leaf's source isn't a commit with the path's parent hash
-- (RFC 9420, 7.9.2 and 12.4.2). The standard asks `KeyRepeated` (25) before the merge, and so refuses a key that the
-- merge replaces.
unfoldable pub merge_checks : Term → ℕ → LeafNode → List (List ℕ) → Result Passed ℕ
merge_checks t i x keys =
    path_checks t i (length keys)
    >> (require 25 (is_distinct same_bytes (encryption_keys (merge_path t i x keys)))
    >> require 24 (is_some_bytes (source_hash x.source) (path_parent_hash t i keys)))

-- the tree after a path is merged, where `merge_checks` pass (RFC 9420, 7.5)
unfoldable pub merge_answer : Term → ℕ → LeafNode → List (List ℕ) → Result Term ℕ
merge_answer t i x keys = merge_checks t i x keys >> Ok (merge_path t i x keys)

-- A call that may change a tree does what the definition says: a refusal changes nothing, and its number is the
-- definition's, unless memory was refused.
abbrev pub ChangesWhole : {E : Type 0} → (E → ℕ) → Result Term ℕ → Term → Term → Result (Unit {0}) E → Type 0
ChangesWhole number defined old new (Ok _) = defined ≡ Ok new
ChangesWhole number defined old new (Err e) = (new ≡ old) × (number e ≢ 1 → defined ≡ Err (number e))
