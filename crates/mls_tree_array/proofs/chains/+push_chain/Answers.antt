use Rattle.std.proofs.Common.{◌≡◌, Some, None, ◌∙◌, arith, append_assoc}
use Rattle.mls_tree_model.specs.Arrays.{parent_in}
use Rattle.mls_tree_model.specs.LastPath.{witness_of}
use Rattle.mls_tree_array.proofs.Sides.{second}
use Rattle.mls_tree_array.proofs.ChainLaws.{leaf_chain, chain_low, chain_high, chain_ends, chain_on_left, chain_on_right}
use Rattle.mls_tree_array.proofs.chains.+push_chain.Goals as goal

pub root_witness-requires : goal.root_witness-requires
root_witness-requires t c = second c.args.tree.now c.in-Branch.left _ c.in-Branch.right c.in-Branch.ensures

pub returns-in-Leaf : goal.returns-in-Leaf
returns-in-Leaf t c =
    rw (← leaf_chain c.args.tree.now _ c.args.x c.number-own.result c.in-Leaf.ensures c.number-own.ensures) (rw c.from-number.ensures at c.push_if.ensures)

pub returns-then-x-number : goal.returns-then-x-number
returns-then-x-number t c =
    let is = c.from-number.ensures ∙ c.number-own.ensures in
    rw (chain_low c.args.tree.now c.in-Branch.left _ c.in-Branch.right c.in-Branch.ensures c.args.x (omega arith)) c.push_chain.ensures

pub returns-then-number-x : goal.returns-then-number-x
returns-then-number-x t c =
    let is = c.from-number.ensures ∙ c.number-own.ensures in
    rw (chain_high c.args.tree.now c.in-Branch.left _ c.in-Branch.right c.in-Branch.ensures c.args.x (omega arith)) c.push_chain-then-number-x.ensures

pub returns-then-node-number : goal.returns-then-node-number
returns-then-node-number t c =
    let is = c.from-number.ensures in
    let some : Some c.in-Some.node ≡ witness_of (parent_in c.in-Branch.root.now) c.in-Branch.left.first c.in-Branch.left.term c.in-Branch.right.term = cc (c.in_ok-node-in-Branch.ensures, c.in-Some.is) in
    rw (chain_on_left c.args.tree.now c.in-Branch.left _ c.in-Branch.right c.in-Branch.ensures c.args.x c.number-own.result c.number-own.ensures (omega arith) c.in-Some.node some (omega arith))
    (rw (c.in_ok-push-in-Branch.ensures.items, append_assoc) at c.push_chain-then-node-number.ensures)

pub returns-else-node-number : goal.returns-else-node-number
returns-else-node-number t c =
    let is = c.from-number.ensures in
    let some : Some c.in-Some.node ≡ witness_of (parent_in c.in-Branch.root.now) c.in-Branch.left.first c.in-Branch.left.term c.in-Branch.right.term = cc (c.in_ok-node-in-Branch.ensures, c.in-Some.is) in
    rw (chain_on_right c.args.tree.now c.in-Branch.left _ c.in-Branch.right c.in-Branch.ensures c.args.x c.number-own.result c.number-own.ensures (omega arith) c.in-Some.node some (omega arith))
    (rw (c.in_ok-push-in-Branch.ensures.items, append_assoc) at c.push_chain-in-Some.ensures)

pub returns-in-None : goal.returns-in-None
returns-in-None t c =
    let is = c.from-number.ensures in
    let none : None ≡ witness_of (parent_in c.in-Branch.root.now) c.in-Branch.left.first c.in-Branch.left.term c.in-Branch.right.term = cc (c.in_ok-node-in-Branch.ensures, c.in-None.is) in
    rw (chain_ends c.args.tree.now c.in-Branch.left _ c.in-Branch.right c.in-Branch.ensures c.args.x c.number-own.result c.number-own.ensures (omega arith) none)
    c.in_ok-push-in-Branch.ensures.items
