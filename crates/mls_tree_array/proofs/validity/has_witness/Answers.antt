use Rattle.std.proofs.Common.{◌≡◌, Some, None}
use Rattle.mls_tree_array.specs.Witnesses.{candidate}
use Rattle.mls_tree_array.proofs.Ties.{untied, tied}
use Rattle.mls_tree_array.proofs.validity.has_witness.Goals as goal

pub returns-in-None : goal.returns-in-None
returns-in-None c =
    let none : None ≡ candidate c.args.parent.now c.args.side.now.first c.args.side.now.term = cc (c.in_ok-node.ensures, c.in-None.is, c.tree.ensures) in
    untied c.args.parent.now c.args.side.now.first c.args.other.now.first _ _ none

pub returns-in-Some : goal.returns-in-Some
returns-in-Some c =
    let some : Some c.in-Some.node ≡ candidate c.args.parent.now c.args.side.now.first c.args.side.now.term = cc (c.in_ok-node.ensures, c.in-Some.is, c.tree.ensures) in
    tied c.args.parent.now c.args.side.now.first c.args.other.now.first c.in-Some.node _ _ _ _ _ _ _ _ some c.encryption_key.ensures c.parent_hash.ensures c.unmerged_leaves.ensures.entries c.original_hash-sibling.ensures c.sibling_hash-hash.ensures (rw c.tree-in-Some.ensures at c.has_hash.ensures)
