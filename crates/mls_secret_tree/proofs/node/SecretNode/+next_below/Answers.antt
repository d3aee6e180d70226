use Rattle.std.proofs.Common.{◌-◌, sym, ◌∙◌, ap}
use Rattle.mls_treemath.specs.Paths.{leaf_path}
use Rattle.mls_secret_tree.specs.Held.{next_below}
use Rattle.mls_secret_tree.proofs.Nodes.{sees, way_of_leaf, way_down, next_whole, next_ratchet, next_end, next_left, next_right}
use Rattle.mls_secret_tree.proofs.node.SecretNode.+next_below.Goals as goal

pub returns-in-Secret : goal.returns-in-Secret
returns-in-Secret t c = sym (next_whole _ _ _ (sees c.self.view_is c.in-Secret.is))

pub returns-in-Ratchet : goal.returns-in-Ratchet
returns-in-Ratchet t c = c.next.ensures.next ∙ sym (next_ratchet _ _ _ (sees c.self.view_is c.in-Ratchet.is))

pub returns-then-level-eq0 : goal.returns-then-level-eq0
returns-then-level-eq0 t c = sym (next_end _ _ _ _ (sees c.self.view_is c.in-Parted.is) (way_of_leaf _ _ c.if-level-eq0.true))

pub returns-then-is_right : goal.returns-then-is_right
returns-then-is_right t c =
    c.next_below.ensures ∙ ap (λ h. next_below h (leaf_path (c.args.level - 1) c.args.leaf)) c.deref.ensures
    ∙ sym (next_right _ _ _ _ _ (sees c.self.view_is c.in-Parted.is) (way_down _ _ _ c.if-level-eq0.false c.if-is_right.ensures))

pub returns-else-is_right : goal.returns-else-is_right
returns-else-is_right t c =
    c.next_below-else-is_right.ensures ∙ ap (λ h. next_below h (leaf_path (c.args.level - 1) c.args.leaf)) c.deref-else-is_right.ensures
    ∙ sym (next_left _ _ _ _ _ (sees c.self.view_is c.in-Parted.is) (way_down _ _ _ c.if-level-eq0.false c.if-is_right.ensures))
