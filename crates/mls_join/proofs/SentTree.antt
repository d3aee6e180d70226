-- A tree that was sent and is refused by the checks of a whole tree.
use Rattle.std.proofs.Common.{◌≡◌, ℕ, true, List, Option, Some, Ok, Err, refl}
use Rattle.std.specs.Str.{bytes_eq}
use Rattle.mls_leaf.specs.declared.node.Node.{Node}
use Rattle.mls_types.specs.declared.group_info.GroupInfo.{GroupInfo}
use Rattle.mls_suite.specs.Crypto.{Crypto}
use Rattle.mls_tree_model.specs.Term.{Term}
use Rattle.mls_tree_model.specs.Arrays.{from_nodes}
use Rattle.mls_tree_model.specs.Good.{tree_checks}
use Rattle.mls_tree_model.specs.Hashes.{tree_hash}
use Rattle.mls_tree.specs.Rules.{rules_of}
use Rattle.mls_tree.specs.Tree.{max_leaves}
use Rattle.mls_model.specs.Join.{joined_tree}

pub tree_refused : (c : Crypto) (info : GroupInfo) (sent : List (Option Node)) (t : Term) (n : ℕ) → info.ratchet_tree ≡ Some sent → from_nodes max_leaves sent ≡ Ok t → bytes_eq info.group_context.tree_hash (tree_hash 0 t) ≡ true → tree_checks (rules_of c info.group_context.group_id) t ≡ Err n → joined_tree c info ≡ Err n
unfolding joined_tree
tree_refused c info sent t n some good same bad = rw (some, good, same, bad) refl
