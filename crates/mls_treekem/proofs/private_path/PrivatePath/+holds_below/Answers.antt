use Rattle.std.proofs.Common.{◌∙◌, ap}
use Rattle.std.proofs.lemmas.Result.{IfOk-weaker}
use Rattle.mls_tree_model.specs.Arrays.{parent_in}
use Rattle.mls_tree.specs.Tree.{term}
use Rattle.mls_treekem.proofs.Holding.{held_leaf, held_left, held_right, held_not}
use Rattle.mls_treekem.proofs.private_path.PrivatePath.+holds_below.Goals as goal

pub returns-then-height-eq0 : goal.returns-then-height-eq0
returns-then-height-eq0 g t c =
    IfOk-weaker c.is_own.result _ _
    (λ b is. is ∙ held_leaf g.S.Suite.crypto (term c.args.tree.now) c.args.self.now c.args.height c.args.first c.if-height-eq0.true _ c.leaf.ensures _ (ap (λ p. p.own) c.self.view_is))
    c.is_own.ensures

pub returns-then-not-held : goal.returns-then-not-held
returns-then-not-held g t c =
    held_not g.S.Suite.crypto (term c.args.tree.now) c.args.self.now c.args.height c.args.first c.if-height-eq0.false c.side_of-half.result c.side_of-half.ensures.value c.in_ok-held.held c.leaf-leaf.result _ _ c.in_ok-held.ensures
    c.leaf-leaf.ensures (c.parent_in-parent.ensures ∙ ap parent_in c.node.ensures) c.key_at-key.ensures c.if-not-held.true

pub returns-then-leaf-first : goal.returns-then-leaf-first
returns-then-leaf-first g t c =
    IfOk-weaker c.holds_below.result _ _
    (λ b is. held_left g.S.Suite.crypto (term c.args.tree.now) c.args.self.now c.args.height c.args.first c.if-height-eq0.false c.side_of-half.result c.side_of-half.ensures.value c.in_ok-held.held c.leaf-leaf.result _ _ c.in_ok-held.ensures
    c.leaf-leaf.ensures (c.parent_in-parent.ensures ∙ ap parent_in c.node.ensures) c.key_at-key.ensures c.if-not-held.false
    c.if-leaf-first.true b is)
    c.holds_below.ensures

pub returns-else-leaf-first : goal.returns-else-leaf-first
returns-else-leaf-first g t c =
    IfOk-weaker c.holds_below-else-leaf-first.result _ _
    (λ b is. held_right g.S.Suite.crypto (term c.args.tree.now) c.args.self.now c.args.height c.args.first c.if-height-eq0.false c.side_of-half.result c.side_of-half.ensures.value c.in_ok-held.held c.leaf-leaf.result _ _ c.in_ok-held.ensures
    c.leaf-leaf.ensures (c.parent_in-parent.ensures ∙ ap parent_in c.node.ensures) c.key_at-key.ensures c.if-not-held.false
    c.if-leaf-first.false b is)
    c.holds_below-else-leaf-first.ensures
