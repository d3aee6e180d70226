use Rattle.std.proofs.Common.{sym, ◌∙◌}
use Rattle.mls_tree_model.specs.Lists.{lists_here}
use Rattle.mls_tree_model.proofs.Equations.{first_parent_leaf}
use Rattle.mls_tree_array.proofs.Sides.{second}
use Rattle.mls_tree_array.proofs.FirstLaws.{first_on_left, first_on_right, first_by_root}
use Rattle.mls_tree_array.proofs.first_parents.+first_wrong_list.Goals as goal

pub root_with_wrong_list-requires : goal.root_with_wrong_list-requires
root_with_wrong_list-requires t c = second c.args.tree.now c.in-Branch.left _ c.in-Branch.right c.in-Branch.ensures

pub returns-in-Leaf : goal.returns-in-Leaf
returns-in-Leaf t c = rw c.in-Leaf.ensures (sym (first_parent_leaf c.args.tree.now.first _ lists_here))

pub returns-in-Some : goal.returns-in-Some
returns-in-Some t c = first_on_left lists_here c.args.tree.now c.in-Branch.left _ c.in-Branch.right c.in-Branch.ensures c.in-Some.node c.in-Some.ensures

pub returns-in-Some-first_wrong_list : goal.returns-in-Some-first_wrong_list
returns-in-Some-first_wrong_list t c =
    first_on_right lists_here c.args.tree.now c.in-Branch.left _ c.in-Branch.right c.in-Branch.ensures c.in-Some-first_wrong_list.node c.in-None.ensures c.in-Some-first_wrong_list.ensures

pub returns-in-None-first_wrong_list : goal.returns-in-None-first_wrong_list
returns-in-None-first_wrong_list t c =
    c.root_with_wrong_list.ensures
    ∙ first_by_root lists_here c.args.tree.now c.in-Branch.left _ c.in-Branch.right c.in-Branch.ensures c.in-None.ensures c.in-None-first_wrong_list.ensures
