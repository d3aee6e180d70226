use Rattle.std.proofs.Common.{◌∙◌, ap}
use Rattle.mls_tree_model.specs.Arrays.{parent_in}
use Rattle.mls_tree.specs.Tree.{term}
use Rattle.mls_treekem.proofs.Due.{due_none, due_left, due_right, due_not}
use Rattle.mls_treekem.proofs.private_path.PrivatePath.+has_due_keys.Goals as goal

pub returns-then-height-eq0 : goal.returns-then-height-eq0
returns-then-height-eq0 t c = due_none (term c.args.tree.now) c.args.self.now c.args.height c.args.first c.if-height-eq0.true

pub returns-then-not-is_due : goal.returns-then-not-is_due
returns-then-not-is_due t c =
    due_not (term c.args.tree.now) c.args.self.now c.args.height c.args.first c.if-height-eq0.false c.side_of-half.result c.side_of-half.ensures.value c.is_due.result c.leaf-leaf.result _ _ c.is_due.ensures
    c.leaf-leaf.ensures (c.parent_in-parent.ensures ∙ ap parent_in c.node.ensures) c.key_at.ensures c.if-not-is_due.true

pub returns-then-leaf-first : goal.returns-then-leaf-first
returns-then-leaf-first t c =
    due_left (term c.args.tree.now) c.args.self.now c.args.height c.args.first c.if-height-eq0.false c.side_of-half.result c.side_of-half.ensures.value c.is_due.result c.leaf-leaf.result _ _ c.is_due.ensures
    c.leaf-leaf.ensures (c.parent_in-parent.ensures ∙ ap parent_in c.node.ensures) c.key_at.ensures c.if-not-is_due.false
    c.if-leaf-first.true _ c.has_due_keys.ensures

pub returns-else-leaf-first : goal.returns-else-leaf-first
returns-else-leaf-first t c =
    due_right (term c.args.tree.now) c.args.self.now c.args.height c.args.first c.if-height-eq0.false c.side_of-half.result c.side_of-half.ensures.value c.is_due.result c.leaf-leaf.result _ _ c.is_due.ensures
    c.leaf-leaf.ensures (c.parent_in-parent.ensures ∙ ap parent_in c.node.ensures) c.key_at.ensures c.if-not-is_due.false
    c.if-leaf-first.false _ c.has_due_keys-else-leaf-first.ensures
