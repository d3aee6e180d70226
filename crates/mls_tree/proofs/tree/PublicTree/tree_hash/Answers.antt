use Rattle.std.proofs.Common.{refl}
use Rattle.mls_tree.proofs.KeptHashes.{all_kept}
use Rattle.mls_tree.proofs.tree.PublicTree.tree_hash.Goals as goal

pub invariant_of-self : goal.invariant_of-self
invariant_of-self c = rw c.tree_hash.ensures.all (c.self.invariant.0, c.self.invariant.1, all_kept _ _ _ refl, c.self.invariant.3, c.self.invariant.4)
