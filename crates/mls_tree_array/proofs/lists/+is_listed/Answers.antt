use Rattle.std.proofs.Common.{arith, sym, ◌∙◌}
use Rattle.mls_tree_array.proofs.Sides.{not_listed, listed_left, listed_right}
use Rattle.mls_tree_model.specs.Lists.{is_listed}
use Rattle.mls_tree_array.proofs.lists.+is_listed.Goals as goal

pub returns-in-Leaf : goal.returns-in-Leaf
unfolding is_listed
returns-in-Leaf t c = rw c.in-Leaf.ensures c.holds_leaf.ensures

pub returns-then-not-may_list : goal.returns-then-not-may_list
returns-then-not-may_list t c =
    sym (not_listed c.args.tree.now c.in-Branch.left _ c.in-Branch.right c.in-Branch.ensures c.args.leaf (rw (← c.parent_in.ensures) (sym c.may_list.ensures ∙ c.if-not-may_list.true)))

pub returns-then-leaf-first : goal.returns-then-leaf-first
returns-then-leaf-first t c =
    rw (listed_left c.args.tree.now c.in-Branch.left _ c.in-Branch.right c.in-Branch.ensures c.args.leaf (rw (← c.parent_in.ensures) (sym c.may_list.ensures ∙ c.if-not-may_list.false)) (omega arith))
    c.is_listed.ensures

pub returns-else-leaf-first : goal.returns-else-leaf-first
returns-else-leaf-first t c =
    rw (listed_right c.args.tree.now c.in-Branch.left _ c.in-Branch.right c.in-Branch.ensures c.args.leaf (rw (← c.parent_in.ensures) (sym c.may_list.ensures ∙ c.if-not-may_list.false)) (omega arith))
    c.is_listed-in-Branch.ensures
