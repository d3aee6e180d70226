use Rattle.std.proofs.Common.{refl}
use Rattle.mls_tree.proofs.tree.PublicTree.last_path.Goals as goal

pub last_path-requires : goal.last_path-requires
last_path-requires c = rw c.subtree.ensures refl

pub returns : goal.returns
returns c = rw c.subtree.ensures at c.last_path.ensures
