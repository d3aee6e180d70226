-- A saved tree that is refused by the checks of a whole tree.
use Rattle.std.proofs.Common.{◌≡◌, ℕ, true, List, Option, Ok, Err, refl}
use Rattle.std.specs.Str.{bytes_eq}
use Rattle.mls_leaf.specs.declared.node.Node.{Node}
use Rattle.mls_types.specs.declared.group_context.GroupContext.{GroupContext}
use Rattle.mls_suite.specs.Crypto.{Crypto}
use Rattle.mls_tree_model.specs.Term.{Term}
use Rattle.mls_tree_model.specs.Arrays.{from_nodes}
use Rattle.mls_tree_model.specs.Good.{tree_checks}
use Rattle.mls_tree_model.specs.Hashes.{tree_hash}
use Rattle.mls_tree.specs.Rules.{rules_of}
use Rattle.mls_tree.specs.Tree.{max_leaves}
use Rattle.mls_saved_state.specs.State.{saved_tree}

pub tree_refused : (c : Crypto) (context : GroupContext) (nodes : List (Option Node)) (t : Term) (n : ℕ) → from_nodes max_leaves nodes ≡ Ok t → bytes_eq context.tree_hash (tree_hash 0 t) ≡ true → tree_checks (rules_of c context.group_id) t ≡ Err n → saved_tree c context nodes ≡ Err n
unfolding saved_tree
tree_refused c context nodes t n good same bad = rw (good, same, bad) refl
