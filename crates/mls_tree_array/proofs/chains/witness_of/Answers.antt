use Rattle.std.proofs.Common.{◌≡◌, ◌∙◌, Some, None}
use Rattle.mls_tree_model.specs.LastPath.{witness}
use Rattle.mls_tree_array.specs.Chains.{FindsWitness, FindsWitnessOf}
use Rattle.mls_tree_array.proofs.ChainLaws.{left_witness, right_witness}
use Rattle.mls_tree_array.proofs.Ties.{ok_map}
use Rattle.mls_tree_array.proofs.chains.witness_of.Goals as goal

pub returns-in-Some : goal.returns-in-Some
returns-in-Some c =
    let some : Some c.in-Some.node ≡ witness c.args.parent.now c.args.left.now.first c.args.left.now.term c.args.right.now.first c.args.right.now.term = cc (c.in_ok-node.ensures, c.in-Some.is) in
    left_witness c.args.parent.now c.args.left.now c.args.right.now c.requires c.in-Some.node some

pub returns-in-None : goal.returns-in-None
returns-in-None c =
    let none : None ≡ witness c.args.parent.now c.args.left.now.first c.args.left.now.term c.args.right.now.first c.args.right.now.term = cc (c.in_ok-node.ensures, c.in-None.is) in
    ok_map
    (FindsWitness c.args.parent.now c.args.right.now c.args.left.now)
    (FindsWitnessOf (Some c.args.parent.now) c.args.left.now c.args.right.now)
    c.witness-in-None.result
    (λ v found. found ∙ right_witness c.args.parent.now c.args.left.now c.args.right.now c.requires none)
    c.witness-in-None.ensures
