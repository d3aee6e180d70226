use Rattle.mls_tree.specs.Tree.{term}
use Rattle.mls_treekem.specs.Place.{subtree_at}
use Rattle.mls_treekem.proofs.Sealing.{SealsLeft}
use Rattle.mls_treekem.proofs.seal.Sealer.seal_all.Given as goal

abbrev pub invariant-loop-node : goal.invariant-loop-node
invariant-loop-node g l =
    SealsLeft g.S.Suite.crypto l.self.context.now l.secret l.place.first (subtree_at (term l.self.tree.now) l.place.beside) l.self.seed.now l.self.added.now l.reached l.first l.sealed.items l.number l.node-index
