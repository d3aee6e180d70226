use Rattle.std.proofs.Common.{◌+◌, ◌∙◌, ap, arith}
use Rattle.std.proofs.lemmas.Nat.{one_shl}
use Rattle.mls_tree_array.proofs.SubtreeLaws.{low_height, end_is}
use Rattle.mls_tree_array.proofs.subtree.Subtree.end.Goals as goal

pub overflow_shl-result : goal.overflow_shl-result
overflow_shl-result c = low_height c.self.inside.height c.self.inside.first c.self.invariant.1

pub overflow_add-result : goal.overflow_add-result
overflow_add-result c =
    let low = low_height c.self.inside.height c.self.inside.first c.self.invariant.1 in
    let power = one_shl c.self.inside.height 32 low in
    omega arith

pub returns : goal.returns
returns c =
    let low = low_height c.self.inside.height c.self.inside.first c.self.invariant.1 in
    ap (λ k. c.self.inside.first + k) (one_shl c.self.inside.height 32 low) ∙ end_is _ _ c.self.inside.cells.now.nodes _ c.self.view_is
