use Rattle.mls_tree_array.proofs.SubtreeLaws.{height_is}
use Rattle.mls_tree_array.proofs.subtree.Subtree.height.Goals as goal

pub returns : goal.returns
returns c = height_is _ _ c.self.inside.cells.now.nodes _ c.self.view_is
