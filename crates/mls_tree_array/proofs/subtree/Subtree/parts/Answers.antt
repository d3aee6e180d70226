use Rattle.std.proofs.Common.{length, arith}
use Rattle.mls_tree_array.proofs.SubtreeLaws.{root_within, is_leaf, is_over, left_shape, right_shape, left_fits, right_fits}
use Rattle.mls_tree_array.proofs.subtree.Subtree.parts.Goals as goal

pub slot-root-requires : goal.slot-root-requires
slot-root-requires c = root_within c.self.inside.height c.self.inside.first c.root_of.result (length c.self.inside.cells.now.nodes) c.root_of.ensures c.self.invariant.0

pub returns-then-self-eq0 : goal.returns-then-self-eq0
returns-then-self-eq0 c = is_leaf _ _ c.self.inside.cells.now.nodes _ c.self.view_is _ _ c.if-self-eq0.true c.root_of.ensures c.slot-root.ensures

pub invariant_of-result : goal.invariant_of-result
invariant_of-result c =
    (left_shape c.self.inside.height c.self.inside.first _ (omega arith) c.self.invariant.0, left_fits c.self.inside.height c.self.inside.first (omega arith) c.self.invariant.1)

pub invariant_of-result-2 : goal.invariant_of-result-2
invariant_of-result-2 c =
    (right_shape c.self.inside.height c.self.inside.first c.second_first.result _ (omega arith) c.second_first.ensures c.self.invariant.0, right_fits c.self.inside.height c.self.inside.first c.second_first.result (omega arith) c.second_first.ensures c.self.invariant.1)

pub returns : goal.returns
returns c = is_over _ _ _ _ c.self.inside.cells.now.nodes _ _ (omega arith) c.self.view_is c.root_of.ensures c.second_first.ensures c.slot-root.ensures c.self.invariant.0 c.self.invariant.1
