use Rattle.std.proofs.Common.{arith, sym, ap, ◌∙◌}
use Rattle.mls_tree_model.specs.Term.{height}
use Rattle.mls_tree_model.proofs.Equations.{height_leaf, trim_leaf}
use Rattle.mls_tree_array.proofs.Sides.{end_on_left, end_low, end_high, trim_stays, trim_goes}
use Rattle.mls_tree_array.proofs.sizes.+trimmed_height.Goals as goal

pub returns-in-Leaf-clause-value : goal.returns-in-Leaf-clause-value
returns-in-Leaf-clause-value t c = rw (c.in-Leaf.ensures, trim_leaf) (sym (height_leaf _))

pub returns-then-first-end-clause-value : goal.returns-then-first-end-clause-value
returns-then-first-end-clause-value t c = c.height.ensures ∙ ap height (sym (trim_stays c.args.tree.now c.in-Branch.left _ c.in-Branch.right c.in-Branch.ensures (end_high c.args.tree.now c.in-Branch.left _ c.in-Branch.right c.in-Branch.ensures (omega arith))))

pub trimmed_height-requires : goal.trimmed_height-requires
trimmed_height-requires t c =
    let over = c.in-Branch.ensures in
    (omega arith, c.requires ∙ end_on_left c.args.tree.now c.in-Branch.left _ c.in-Branch.right c.in-Branch.ensures (end_low c.args.tree.now c.in-Branch.left _ c.in-Branch.right c.in-Branch.ensures (omega arith)))

pub returns-else-first-end-clause-value : goal.returns-else-first-end-clause-value
returns-else-first-end-clause-value t c =
    c.trimmed_height.ensures.value ∙ ap height (sym (trim_goes c.args.tree.now c.in-Branch.left _ c.in-Branch.right c.in-Branch.ensures (end_low c.args.tree.now c.in-Branch.left _ c.in-Branch.right c.in-Branch.ensures (omega arith))))
