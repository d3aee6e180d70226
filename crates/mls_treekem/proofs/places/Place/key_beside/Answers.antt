use Rattle.std.proofs.Common.{◌∙◌, ap, arith}
use Rattle.mls_tree.specs.Tree.{term}
use Rattle.mls_treekem.specs.NodeKeys.{encryption_key_of}
use Rattle.mls_treekem.proofs.Beside.{width_low, key_below, key_past, key_inside, key_nowhere}
use Rattle.mls_treekem.proofs.places.Place.key_beside.Goals as goal
use Rattle.mls_treekem.proofs.places.Place.key_beside.Goals.{then-node-start-via-then-node-start, then-node-start-via-else-node-start+then-node-end, then-node-start-via-else-node-start+else-node-end+then-node-from}

pub returns-then-node-start : goal.returns-then-node-start
returns-then-node-start c =
    elim c.then-node-start.branch [
      | then-node-start-via-then-node-start w ↦ key_below (term c.args.tree.now) c.requires.0 c.args.self.now c.requires.1 c.args.node (omega arith)
      | then-node-start-via-else-node-start+then-node-end w ↦ key_past (term c.args.tree.now) c.requires.0 c.args.self.now c.requires.1 c.args.node (omega arith)
      | then-node-start-via-else-node-start+else-node-end+then-node-from w ↦ key_nowhere (term c.args.tree.now) c.requires.0 c.args.self.now c.requires.1 c.args.node (omega arith) (omega arith) (omega arith)
    ]

pub overflow_cast-node : goal.overflow_cast-node
overflow_cast-node c = let low = width_low c.args.tree.now _ c.leaf_count.ensures c.leaf_count.type_inv in omega arith

pub returns : goal.returns
returns c =
    c.encryption_key_of.ensures ∙ ap encryption_key_of c.node.ensures
    ∙ key_inside (term c.args.tree.now) c.requires.0 c.args.self.now c.requires.1 c.args.node (omega arith) (omega arith)
