use Rattle.std.proofs.Common.{◌≡◌, ◌+◌, ◌*◌, arith, sym, ◌∙◌, ap, not}
use mir.Val.{bool_byte}
use Rattle.mls_tree_model.specs.Sets.{has, leaf_numbers}
use Rattle.mls_tree_model.proofs.ShapeLaws.{size-width}
use Rattle.mls_tree_array.proofs.Sides.{size_sides, targets_full, targets_sides}
use Rattle.mls_tree_array.proofs.Targets.{no_target, one_target}
use Rattle.mls_tree_array.proofs.counts.+target_count.Goals as goal

pub overflow_add-result-in-None-parent_in : goal.overflow_add-result-in-None-parent_in
overflow_add-result-in-None-parent_in t c =
    let over = c.in-Branch.ensures in
    let sum = size_sides c.args.tree.now c.in-Branch.left _ c.in-Branch.right c.in-Branch.ensures in
    let wide = size-width c.args.tree.now.term in
    omega arith

pub returns-in-Some-clause-value : goal.returns-in-Some-clause-value
returns-in-Some-clause-value t c =
    let known : c.is_leaf_among.result ≡ has (leaf_numbers c.args.added.now) (2 * c.args.tree.now.first) = rw (c.from.ensures, c.first.ensures) at c.is_leaf_among.ensures in
    rw (c.in-Leaf.ensures, ← c.in-Some.ensures)
    (c.from-in-Some.ensures ∙ ap (λ b. bool_byte (not b)) known ∙ sym (one_target c.args.added.now c.args.tree.now.first _))

pub returns-in-None-clause-value : goal.returns-in-None-clause-value
returns-in-None-clause-value t c = rw (c.in-Leaf.ensures, ← c.in-None.ensures) (sym (no_target c.args.added.now c.args.tree.now.first))

pub returns-in-Some-parent_in-clause-value : goal.returns-in-Some-parent_in-clause-value
returns-in-Some-parent_in-clause-value t c =
    rw (targets_full c.args.tree.now c.in-Branch.left _ c.in-Branch.right c.in-Branch.ensures c.args.added.now _ c.in-Some-parent_in.ensures)
    (ap (λ k. 1 + k) (rw c.unmerged_leaves.ensures.entries at c.count_others.ensures.value))

pub returns-in-Some-parent_in-clause-low : goal.returns-in-Some-parent_in-clause-low
returns-in-Some-parent_in-clause-low t c =
    let few = c.count_others.ensures.low c.unmerged_leaves.ensures.rise in
    let sum = size_sides c.args.tree.now c.in-Branch.left _ c.in-Branch.right c.in-Branch.ensures in
    omega arith

pub returns-in-None-parent_in-clause-value : goal.returns-in-None-parent_in-clause-value
returns-in-None-parent_in-clause-value t c = let sum = targets_sides c.args.tree.now c.in-Branch.left _ c.in-Branch.right c.in-Branch.ensures c.args.added.now c.in-None-parent_in.ensures in cc

pub returns-in-None-parent_in-clause-low : goal.returns-in-None-parent_in-clause-low
returns-in-None-parent_in-clause-low t c = let sum = size_sides c.args.tree.now c.in-Branch.left _ c.in-Branch.right c.in-Branch.ensures in omega arith
