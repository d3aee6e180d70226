-- The keys that a joiner of a made commit takes.
use Rattle.std.specs.Prelude.{◌≡◌, ℕ, List, [], Option, Some, Ok, ◌⊎◌}
use Rattle.mls_leaf.specs.declared.extension.Extension.{Extension}
use Rattle.mls_leaf.specs.declared.leaf.LeafNode.{LeafNode}
use Rattle.mls_suite.specs.Crypto.{Crypto}
use Rattle.mls_tree_model.specs.Term.{Term, leaf_at}
use Rattle.mls_tree_model.specs.Way.{way}
use Rattle.mls_treekem_model.specs.Join.{AllList}
use Rattle.mls_treekem_model.specs.Keys.{PrivateKeys}
use Rattle.mls_treekem_model.specs.Laws.{AreTwo}
use Rattle.mls_model.specs.Commit.{Edits, apply_path_if}
use Rattle.mls_model.specs.Member.{Member}
use Rattle.mls_model.specs.Make.{MadePath, no_path, path_secret_for}
use Rattle.mls_model.specs.Join.{joined_keys}
use Rattle.mls_theorems.specs.SentCommits.{IsNewPath}

-- a joiner takes its keys in a tree
abbrev pub TakesKeys : Crypto → Term → ℕ → ℕ → List ℕ → Option (List ℕ) → Type 0
TakesKeys c t i j own secret =
    (keys : PrivateKeys) × (joined_keys c t i (record { leaf = j; own = own; above = [] }) secret ≡ Ok keys)

-- a joiner that the parents over it list in the tree of the edits finds its keys in the maker's next tree
abbrev pub KeysTaken : Type 0
KeysTaken = (c : Crypto) (m : Member) (list : List Extension) (e : Edits) (seed : List ℕ) (path : MadePath) (t : Term)
    (j : ℕ) (y : LeafNode) (own : List ℕ) → IsNewPath c m list e seed path ⊎ (path ≡ no_path m e) →
    apply_path_if c m.public m.keys.leaf e path.path ≡ Ok t →
    AreTwo 0 e.tree m.keys.leaf j → leaf_at 0 e.tree j ≡ Some y → c.public own ≡ y.encryption_key →
    AllList j (way 0 e.tree j) → TakesKeys c t m.keys.leaf j own (path_secret_for path.path m e seed j)
