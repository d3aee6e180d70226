use Rattle.std.proofs.Common.{Some, None, ◌∙◌, ap, is_some}
use Rattle.mls_tree_array.proofs.Blanks.{first_leaf}
use Rattle.mls_tree_array.proofs.members.begins_with_leaf.Goals as goal

pub returns-in-Some-leaf_in : goal.returns-in-Some-leaf_in
returns-in-Some-leaf_in c = ap is_some c.in-Some-leaf_in.ensures ∙ first_leaf c.args.nodes.now (Some c.in-Some.node.now) c.in-Some.ensures.value

pub returns-in-None-leaf_in : goal.returns-in-None-leaf_in
returns-in-None-leaf_in c = ap is_some c.in-None-leaf_in.ensures ∙ first_leaf c.args.nodes.now (Some c.in-Some.node.now) c.in-Some.ensures.value

pub returns-in-None : goal.returns-in-None
returns-in-None c = first_leaf c.args.nodes.now None c.in-None.ensures.value
