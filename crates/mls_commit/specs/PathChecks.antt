-- What a path's counts and keys are checked for, and that a committer stays.
use Rattle.std.specs.Prelude.{ℕ, ◌==◌, List, ◌∷◌, length, map, Result, IsSome}
use Rattle.std.specs.Str.{bytes_eq}
use Rattle.mls_wire.specs.Checks.{Passed, require, ◌>>◌}
use Rattle.mls_types.specs.declared.update_path.UpdatePath.{UpdatePath}
use Rattle.mls_types.specs.declared.update_path.UpdatePathNode.{UpdatePathNode}
use Rattle.mls_tree_model.specs.Term.{Term, leaf_of}
use Rattle.mls_tree_model.specs.Way.{path_length}
use Rattle.mls_model.specs.Commit.{Edits, cipher_counts, due_counts, node_keys}

-- where leaf i was a member, it is one still
abbrev pub StaysMember : ℕ → Term → Term → Type 0
StaysMember i old new = IsSome (leaf_of old i) → IsSome (leaf_of new i)

-- `PathLength` (30) how many nodes a path has, `CipherCount` (31) how many ciphertexts each of them has (RFC 9420,
-- 12.4.2)
unfoldable pub count_checks : Edits → ℕ → UpdatePath → Result Passed ℕ
count_checks e committer path =
    require 30 (length path.nodes == path_length 0 e.tree committer)
    >> require 31 (bytes_eq (cipher_counts path) (due_counts e committer))

-- how many ciphertexts each of these nodes has
abbrev pub counts_in : List UpdatePathNode → List ℕ
counts_in nodes = map (λ (n : UpdatePathNode). length n.ciphertexts) nodes

-- the public keys of a path: that of its leaf, and those of its nodes, the lowest first
abbrev pub public_keys : UpdatePath → List (List ℕ)
public_keys path = path.leaf_node.encryption_key ∷ node_keys path
