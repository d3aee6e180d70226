use Rattle.std.proofs.Common.{sym, refl}
use Rattle.mls_tree_model.specs.Lists.{lists_here, rises_here}
use Rattle.mls_tree_model.proofs.Equations.{all_parents_leaf}
use Rattle.mls_tree_array.proofs.Sides.{second, each_sides}
use Rattle.mls_tree_array.proofs.lists.+are_lists_right.Goals as goal

pub is_root_list_right-requires : goal.is_root_list_right-requires
is_root_list_right-requires t c = second c.args.tree.now c.in-Branch.left _ c.in-Branch.right c.in-Branch.ensures

pub returns-in-Leaf-clause-right : goal.returns-in-Leaf-clause-right
returns-in-Leaf-clause-right t c = rw c.in-Leaf.ensures (sym (all_parents_leaf c.args.tree.now.first _ lists_here))

pub returns-then-not-is_root_list_right-clause-right : goal.returns-then-not-is_root_list_right-clause-right
returns-then-not-is_root_list_right-clause-right t c =
    rw (each_sides c.args.tree.now c.in-Branch.left _ c.in-Branch.right c.in-Branch.ensures lists_here, ← c.is_root_list_right.ensures.right, c.if-not-is_root_list_right.true) refl

pub returns-then-not-are_lists_right-clause-right : goal.returns-then-not-are_lists_right-clause-right
returns-then-not-are_lists_right-clause-right t c =
    rw (each_sides c.args.tree.now c.in-Branch.left _ c.in-Branch.right c.in-Branch.ensures lists_here, ← c.is_root_list_right.ensures.right, c.if-not-is_root_list_right.false, ← c.are_lists_right.ensures.right, c.if-not-are_lists_right.true) refl

pub returns-else-not-are_lists_right-clause-right : goal.returns-else-not-are_lists_right-clause-right
returns-else-not-are_lists_right-clause-right t c =
    rw (each_sides c.args.tree.now c.in-Branch.left _ c.in-Branch.right c.in-Branch.ensures lists_here, ← c.is_root_list_right.ensures.right, c.if-not-is_root_list_right.false, ← c.are_lists_right.ensures.right, c.if-not-are_lists_right.false) c.are_lists_right-in-Branch.ensures.right

pub returns-in-Leaf-clause-rising : goal.returns-in-Leaf-clause-rising
returns-in-Leaf-clause-rising t c = λ _. rw c.in-Leaf.ensures (all_parents_leaf c.args.tree.now.first _ rises_here)

pub returns-else-not-are_lists_right-clause-rising : goal.returns-else-not-are_lists_right-clause-rising
returns-else-not-are_lists_right-clause-rising t c = λ all.
    rw (each_sides c.args.tree.now c.in-Branch.left _ c.in-Branch.right c.in-Branch.ensures rises_here, c.is_root_list_right.ensures.rising, c.are_lists_right.ensures.rising c.if-not-are_lists_right.false) (c.are_lists_right-in-Branch.ensures.rising all)
