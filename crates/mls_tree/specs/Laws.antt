-- The laws of leaves that passed their checks: they are fit for a tree of their group.
use Rattle.std.specs.Prelude.{◌≡◌, ℕ, true, List, [], ◌∷◌, Ok}
use Rattle.std.specs.List.{list_all}
use Rattle.mls_wire.specs.Checks.{passed}
use Rattle.mls_leaf.specs.declared.leaf.LeafNode.{LeafNode}
use Rattle.mls_leaf.specs.declared.key_package.KeyPackage.{KeyPackage}
use Rattle.mls_suite.specs.Crypto.{Crypto}
use Rattle.mls_checks.specs.declared.checks.LeafUse.{LeafUse}
use Rattle.mls_checks.specs.Checks.{key_package_checks, replacement_checks}
use Rattle.mls_tree_model.specs.Good.{AreFit}
use Rattle.mls_tree.specs.Rules.{rules_of}

-- the leaf of a KeyPackage that passed its checks, at whatever place of whatever group it lands
abbrev pub PackageFits : Type 0
PackageFits = (c : Crypto) (group : List ℕ) (k : KeyPackage) → key_package_checks c k ≡ Ok passed → (i : ℕ) → AreFit (rules_of c group) i k.leaf_node []

-- the leaf of an update or of a path that passed its checks, at the place that it replaces, with the keys of the path,
-- where these and its own are fit for sealing
abbrev pub ReplacementFits : Type 0
ReplacementFits = (c : Crypto) (group : List ℕ) (new old : LeafNode) (source : LeafUse) (i : ℕ) (keys : List (List ℕ)) → replacement_checks c new old source group i ≡ Ok passed → list_all c.key_ok (new.encryption_key ∷ keys) ≡ true → AreFit (rules_of c group) i new keys
