use Rattle.std.proofs.Common.{◌<◌, ◌∙◌, sym, arith}
use Rattle.mls_tree_model.specs.Term.{width}
use Rattle.mls_tree.specs.Tree.{term}
use Rattle.mls_member.proofs.MemberWalk.{finds, none_left, passes}
use Rattle.mls_member.proofs.group_members.next_member.Goals as goal

pub returns-in-Some-clause-first : goal.returns-in-Some-clause-first
returns-in-Some-clause-first c =
    let within : c.loop-leaf.leaf < width (term c.args.tree.now) = omega (arith, c.leaf_count-leaf-end.ensures) in
    rw c.member_of_leaf.ensures (c.loop-leaf.invariant ∙ finds (term c.args.tree.now) c.loop-leaf.leaf c.in-Some.node.now within (sym c.in-Some.ensures))

pub loop-leaf-preserved : goal.loop-leaf-preserved
loop-leaf-preserved c =
    let within : c.loop-leaf.leaf < width (term c.args.tree.now) = omega (arith, c.leaf_count-leaf-end.ensures) in
    c.loop-leaf.invariant ∙ passes (term c.args.tree.now) c.loop-leaf.leaf within (sym c.in-None.ensures)

pub returns-clause-first : goal.returns-clause-first
returns-clause-first c = c.loop-leaf.invariant ∙ none_left (term c.args.tree.now) c.loop-leaf.leaf (omega (arith, c.leaf_count-leaf-end.ensures))
