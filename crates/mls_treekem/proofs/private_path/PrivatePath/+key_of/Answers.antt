use Rattle.std.proofs.Common.{◌*◌, ◌+◌, ◌<◌, ◌≤◌, sym, ◌∙◌, ap, subst}
use Rattle.mls_treekem.proofs.Opening.{key_at_leaf, no_key_at_leaf, key_at_top, key_on_left, key_on_right}
use Rattle.mls_treekem.proofs.private_path.PrivatePath.+key_of.Goals as goal

pub returns-then-node-leaf : goal.returns-then-node-leaf
returns-then-node-leaf t c =
    λ u e. c.key_at.ensures ∙ key_at_leaf c.args.height c.args.first c.args.self.now c.args.node c.if-height-eq0.true (c.if-node-leaf.true ∙ ap (λ m. 2 * m) c.leaf-leaf.ensures) u e

pub returns-then-height-eq0 : goal.returns-then-height-eq0
returns-then-height-eq0 t c =
    no_key_at_leaf c.args.height c.args.first c.args.self.now c.args.node c.if-height-eq0.true (λ e. c.if-node-leaf.false (e ∙ ap (λ m. 2 * m) (sym c.leaf-leaf.ensures)))

pub returns-then-node-first : goal.returns-then-node-first
returns-then-node-first t c =
    λ u e.
    c.key_at-then-node-first.ensures
    ∙ key_at_top c.args.self.now c.args.node c.args.height c.args.first c.if-height-eq0.false c.side_of-half.result c.side_of-half.ensures.value c.if-node-first.true u e

pub returns-then-leaf-first : goal.returns-then-leaf-first
returns-then-leaf-first t c =
    key_on_left c.args.self.now c.args.node c.args.height c.args.first c.if-height-eq0.false c.side_of-half.result c.side_of-half.ensures.value _ c.if-node-first.false
    (subst (λ m. m < c.args.first + c.side_of-half.result) c.leaf-leaf.ensures c.if-leaf-first.true) c.key_of.ensures

pub returns-else-leaf-first : goal.returns-else-leaf-first
returns-else-leaf-first t c =
    key_on_right c.args.self.now c.args.node c.args.height c.args.first c.if-height-eq0.false c.side_of-half.result c.side_of-half.ensures.value _ c.if-node-first.false
    (subst (λ m. c.args.first + c.side_of-half.result ≤ m) c.leaf-leaf.ensures c.if-leaf-first.false) c.key_of-else-leaf-first.ensures
