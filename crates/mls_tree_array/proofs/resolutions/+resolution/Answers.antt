use Rattle.std.proofs.Common.{sym, ◌∙◌, ap, append-nil, append_assoc}
use Rattle.mls_tree_model.specs.Term.{Leaf}
use Rattle.mls_tree_model.proofs.Equations.{resolution_blank_leaf}
use Rattle.mls_tree_array.proofs.Sides.{one_resolution, resolution_full, resolution_sides}
use Rattle.mls_tree_array.proofs.resolutions.+resolution.Goals as goal

pub returns-in_ok-push-in-Some : goal.returns-in_ok-push-in-Some
returns-in_ok-push-in-Some t c =
    rw (one_resolution c.args.tree.now _ (c.in-Leaf.ensures ∙ ap Leaf (sym c.in-Some.ensures))) (cc (c.in_ok-push-in-Some.ensures.items))

pub returns-in-None : goal.returns-in-None
returns-in-None t c = rw (c.in-Leaf.ensures, ← c.in-None.ensures, resolution_blank_leaf) (sym (append-nil _))

pub returns-in_ok-push-in-Some-parent_in : goal.returns-in_ok-push-in-Some-parent_in
returns-in_ok-push-in-Some-parent_in t c =
    rw (resolution_full c.args.tree.now c.in-Branch.left _ c.in-Branch.right c.in-Branch.ensures _ c.in-Some-parent_in.ensures)
    (rw (c.in_ok-push-in-Some-parent_in.ensures.items, append_assoc, c.from-in-Some-parent_in.ensures, c.number-in-Some-parent_in.ensures) at c.push_unmerged.ensures)

pub returns-in_ok-resolution-in-None-parent_in : goal.returns-in_ok-resolution-in-None-parent_in
returns-in_ok-resolution-in-None-parent_in t c =
    rw (resolution_sides c.args.tree.now c.in-Branch.left _ c.in-Branch.right c.in-Branch.ensures c.in-None-parent_in.ensures)
    (rw (c.in_ok-resolution-in-None-parent_in.ensures, append_assoc) at c.resolution-in-None-parent_in.ensures)
