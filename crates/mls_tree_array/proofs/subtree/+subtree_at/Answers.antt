use Rattle.std.proofs.Common.{◌∙◌, Some, sym, ap, arith}
use Rattle.mls_tree_array.proofs.Numbers.{at_own, at_no_leaf, at_left, at_right}
use Rattle.mls_tree_array.proofs.subtree.+subtree_at.Goals as goal

pub returns-then-x-number : goal.returns-then-x-number
returns-then-x-number t c =
    ap Some c.copy.ensures ∙ at_own c.args.tree.now c.args.x (c.if-x-number.true ∙ c.from-number.ensures ∙ c.number.ensures)

pub returns-then-x-number-2 : goal.returns-then-x-number-2
returns-then-x-number-2 t c =
    let is = c.from-number.ensures ∙ c.number.ensures in
    c.subtree_at.ensures ∙ sym (at_left c.args.tree.now c.in-Branch.left _ c.in-Branch.right c.in-Branch.ensures c.args.x (omega arith))

pub returns-in-Leaf : goal.returns-in-Leaf
returns-in-Leaf t c =
    at_no_leaf c.args.tree.now _ c.args.x c.in-Leaf.ensures (λ e. c.if-x-number.false (e ∙ sym (c.from-number.ensures ∙ c.number.ensures)))

pub returns-else-x-number-2 : goal.returns-else-x-number-2
returns-else-x-number-2 t c =
    let is = c.from-number.ensures ∙ c.number.ensures in
    c.subtree_at-in-Branch.ensures ∙ sym (at_right c.args.tree.now c.in-Branch.left _ c.in-Branch.right c.in-Branch.ensures c.args.x (omega arith))
