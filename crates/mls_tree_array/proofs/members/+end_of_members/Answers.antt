use Rattle.std.proofs.Common.{arith, sym, ◌∙◌}
use Rattle.mls_tree_array.proofs.EndLaws.{has_none, has_some}
use Rattle.mls_tree_array.proofs.Sides.{end_on_left, end_on_right, end_right_by, end_low, within_left}
use Rattle.mls_tree_array.proofs.members.+end_of_members.Goals as goal

pub end_of_members-requires : goal.end_of_members-requires
end_of_members-requires t c =
    let over = c.in-Branch.ensures in
    let is = end_on_left c.args.tree.now c.in-Branch.left _ c.in-Branch.right c.in-Branch.ensures (end_low c.args.tree.now c.in-Branch.left _ c.in-Branch.right c.in-Branch.ensures (omega arith)) in
    (omega arith, omega arith)

pub returns-then-end-second : goal.returns-then-end-second
returns-then-end-second t c =
    c.end_of_members.ensures ∙ sym (end_on_left c.args.tree.now c.in-Branch.left _ c.in-Branch.right c.in-Branch.ensures (end_low c.args.tree.now c.in-Branch.left _ c.in-Branch.right c.in-Branch.ensures (omega arith)))

pub end_of_members-on_right-requires : goal.end_of_members-on_right-requires
end_of_members-on_right-requires t c =
    let over = c.in-Branch.ensures in
    (omega arith, end_right_by c.args.tree.now c.in-Branch.left _ c.in-Branch.right c.in-Branch.ensures c.args.end c.requires (omega arith))

pub returns-then-second-on_right : goal.returns-then-second-on_right
returns-then-second-on_right t c =
    c.end_of_members-on_right.ensures ∙ sym (end_on_right c.args.tree.now c.in-Branch.left _ c.in-Branch.right c.in-Branch.ensures (has_some c.in-Branch.right.first c.in-Branch.right.term (omega arith)))

pub end_of_members-requires-in-Branch : goal.end_of_members-requires-in-Branch
end_of_members-requires-in-Branch t c =
    let over = c.in-Branch.ensures in
    let low = within_left c.args.tree.now c.in-Branch.left _ c.in-Branch.right c.in-Branch.ensures in
    (omega arith, omega arith)

pub returns-else-second-on_right : goal.returns-else-second-on_right
returns-else-second-on_right t c =
    c.end_of_members-in-Branch.ensures ∙ sym (end_on_left c.args.tree.now c.in-Branch.left _ c.in-Branch.right c.in-Branch.ensures (has_none c.in-Branch.right.first c.in-Branch.right.term (omega arith)))
