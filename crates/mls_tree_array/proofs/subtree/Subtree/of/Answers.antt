use Rattle.mls_tree_array.proofs.SubtreeLaws.{whole_is}
use Rattle.mls_tree_array.proofs.subtree.Subtree.of.Goals as goal

pub returns : goal.returns
returns c = whole_is c.args.height c.args.cells.now.nodes c.requires.shape
