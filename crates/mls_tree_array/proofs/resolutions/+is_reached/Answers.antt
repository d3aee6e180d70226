use Rattle.std.proofs.Common.{sym, ◌∙◌}
use Rattle.mls_tree_array.proofs.Sides.{leaf_reached, reached_full, reached_sides}
use Rattle.mls_tree_array.proofs.resolutions.+is_reached.Goals as goal

pub returns-in-Leaf : goal.returns-in-Leaf
returns-in-Leaf t c = λ b. rw c.in-Leaf.ensures (c.holds_leaf.ensures ∙ sym (leaf_reached b _))

pub returns-in-Some : goal.returns-in-Some
returns-in-Some t c = λ b. sym (reached_full c.args.tree.now c.in-Branch.left _ c.in-Branch.right c.in-Branch.ensures b _ c.in-Some.ensures)

pub returns-then-on_left : goal.returns-then-on_left
returns-then-on_left t c = λ b. rw (reached_sides c.args.tree.now c.in-Branch.left _ c.in-Branch.right c.in-Branch.ensures b c.in-None.ensures, ← c.is_reached-on_left.ensures b, c.if-on_left.true)

pub returns-else-on_left : goal.returns-else-on_left
returns-else-on_left t c = λ b. rw (reached_sides c.args.tree.now c.in-Branch.left _ c.in-Branch.right c.in-Branch.ensures b c.in-None.ensures, ← c.is_reached-on_left.ensures b, c.if-on_left.false) (c.is_reached.ensures _)
