use Rattle.mls_tree_array.proofs.SubtreeLaws.{number_is}
use Rattle.mls_tree_array.proofs.subtree.Subtree.number.Goals as goal

pub returns : goal.returns
returns c = number_is _ _ c.self.inside.cells.now.nodes _ c.self.view_is _ c.root_of.ensures
