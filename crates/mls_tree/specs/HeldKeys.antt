-- Which keys a tree has (RFC 9420, 7.3).
use Rattle.std.specs.Prelude.{◌≡◌, ℕ, ◌==◌, Bool, not, List, Option}
use Rattle.mls_leaf.specs.declared.node.Node.{Node}
use Rattle.mls_tree_model.specs.Term.{Term}
use Rattle.mls_tree_model.specs.Arrays.{term_of}
use Rattle.mls_tree_model.specs.Keys.{encryption_keys, signature_keys}
use Rattle.mls_tree_model.specs.Sets.{count, same_bytes}
use Rattle.mls_tree_array.specs.Standing.{Stands}
use Rattle.mls_tree.specs.IndexedKeys.{AreIndexes}
use Rattle.mls_tree.specs.declared.key_indexes.KeyIndexes.{KeyIndexes}

-- whether a node has this encryption key
abbrev pub has_key : Term → List ℕ → Bool
has_key t key = not (count same_bytes key (encryption_keys t) == 0)

-- whether a member is the client with this signature key
abbrev pub has_client : Term → List ℕ → Bool
has_client t key = not (count same_bytes key (signature_keys t) == 0)

-- indexes of some cells tell whether their tree has a key
abbrev pub TellsOfKey : (Term → List ℕ → Bool) → List (Option Node) → List ℕ → KeyIndexes → Bool → Type 0
TellsOfKey test cells key t answer =
    (h : ℕ) → Stands h cells → AreIndexes cells t → answer ≡ test (term_of h cells) key
