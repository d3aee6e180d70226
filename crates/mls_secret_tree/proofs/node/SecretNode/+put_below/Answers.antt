use Rattle.std.proofs.Common.{◌-◌, sym, ◌∙◌, ap}
use Rattle.mls_treemath.specs.Paths.{leaf_path}
use Rattle.mls_secret_tree.specs.Held.{Parted, put_below}
use Rattle.mls_secret_tree.proofs.Nodes.{sees, way_of_leaf, way_down, put_whole, put_ratchet, put_end, put_left, put_right}
use Rattle.mls_secret_tree.proofs.node.SecretNode.+put_below.Goals as goal
use Rattle.mls_secret_tree.proofs.node.SecretNode.+put_below.Goals.{in-Ratchet-1, in-Parted-1, in-Secret-1, in-Ratchet-2, in-Parted-2, in-Secret-2, in-Ratchet-3, in-Parted-3, in-Secret-3}

pub returns-then-level-eq0 : goal.returns-then-level-eq0
returns-then-level-eq0 t c =
    let e = put_end c.args.self.now c.in-Parted.left.value c.in-Parted.right.value c.args.node (leaf_path c.args.level c.args.leaf) (sees c.self.view_is c.in-Parted.is) (way_of_leaf _ _ c.if-level-eq0.true) in
    elim c.match-self-node.branch [ in-Ratchet-1 w ↦ cc e | in-Parted-1 w ↦ cc e | in-Secret-1 w ↦ cc e ]

pub returns-then-is_right : goal.returns-then-is_right
returns-then-is_right t c =
    ap (λ h. Parted c.in-Parted.left.value h) (c.put_below.ensures ∙ ap (λ h. put_below h (leaf_path (c.args.level - 1) c.args.leaf) c.args.node) c.deref_mut.ensures.value)
    ∙ sym (put_right _ _ _ _ _ _ (sees c.self.view_is c.in-Parted.is) (way_down _ _ _ c.if-level-eq0.false c.if-is_right.ensures))

pub returns-else-is_right : goal.returns-else-is_right
returns-else-is_right t c =
    ap (λ h. Parted h c.in-Parted.right.value) (c.put_below-else-is_right.ensures ∙ ap (λ h. put_below h (leaf_path (c.args.level - 1) c.args.leaf) c.args.node) c.deref_mut-else-is_right.ensures.value)
    ∙ sym (put_left _ _ _ _ _ _ (sees c.self.view_is c.in-Parted.is) (way_down _ _ _ c.if-level-eq0.false c.if-is_right.ensures))

pub returns-in-Secret : goal.returns-in-Secret
returns-in-Secret t c =
    let e = put_whole c.args.self.now c.args.node _ (leaf_path c.args.level c.args.leaf) (sees c.self.view_is c.in-Secret.is) in
    elim c.match-self-node-2.branch [ in-Ratchet-2 w ↦ cc e | in-Parted-2 w ↦ cc e | in-Secret-2 w ↦ cc e ]

pub returns-in-Ratchet : goal.returns-in-Ratchet
returns-in-Ratchet t c =
    let e = put_ratchet c.args.self.now c.args.node _ (leaf_path c.args.level c.args.leaf) (sees c.self.view_is c.in-Ratchet.is) in
    elim c.match-self-node-3.branch [ in-Ratchet-3 w ↦ cc e | in-Parted-3 w ↦ cc e | in-Secret-3 w ↦ cc e ]
