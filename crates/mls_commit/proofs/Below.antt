-- How long the leaves of a tree are after a commit's path.
use Rattle.std.proofs.Common.{◌≡◌, ℕ, Option, Some, None, Ok, sym, subst}
use Rattle.std.specs.Prelude.{IfSome}
use Rattle.mls_wire.specs.Laws.{ok_is}
use Rattle.mls_leaf.specs.Leaf.{leaf_node}
use Rattle.mls_types.specs.declared.update_path.UpdatePath.{UpdatePath}
use Rattle.mls_suite.specs.Crypto.{Crypto}
use Rattle.mls_tree_model.specs.Term.{Term}
use Rattle.mls_model.specs.PublicState.{PublicState}
use Rattle.mls_model.specs.Commit.{Edits, node_keys, apply_path_if}
use Rattle.mls_public_group.specs.Short.{IsBelow, HasLeavesBelow}
use Rattle.mls_theorems.proofs.Inversion.{with_path_steps}
use Rattle.mls_public_group.proofs.Leaves.{below_merge_path}

pub below_merged : (c : Crypto) (p : PublicState) (i : ℕ) (e : Edits) (path : Option UpdatePath) (t : Term) (n : ℕ) → apply_path_if c p i e path ≡ Ok t → IfSome path (λ u. IsBelow n leaf_node u.leaf_node) → HasLeavesBelow n e.tree → HasLeavesBelow n t
unfolding apply_path_if
below_merged c p i e None t n h path old = subst (HasLeavesBelow n) (ok_is e.tree t h) old
below_merged c p i e (Some path) t n h new old =
    let w = with_path_steps c p i e path t h in
    subst (HasLeavesBelow n) (sym w.tree) (below_merge_path n e.tree i path.leaf_node (node_keys path) new old)
