use Rattle.std.proofs.Common.{sym, ◌∙◌, arith}
use Rattle.mls_tree_array.proofs.Sides.{blank_on_right, no_blank_on_left}
use Rattle.mls_tree_array.proofs.members.+first_blank.Goals as goal

pub first_blank-requires : goal.first_blank-requires
first_blank-requires t c =
    let over = c.in-Branch.ensures in
    let none = no_blank_on_left c.args.tree.now c.in-Branch.left _ c.in-Branch.right c.in-Branch.ensures c.args.from c.requires (omega arith) in
    (omega arith, λ i e. c.requires i (blank_on_right c.args.tree.now c.in-Branch.left _ c.in-Branch.right c.in-Branch.ensures none ∙ e))

pub returns-then-first-from : goal.returns-then-first-from
returns-then-first-from t c =
    let none = no_blank_on_left c.args.tree.now c.in-Branch.left _ c.in-Branch.right c.in-Branch.ensures c.args.from c.requires (omega arith) in
    c.first_blank.ensures ∙ sym (blank_on_right c.args.tree.now c.in-Branch.left _ c.in-Branch.right c.in-Branch.ensures none)
