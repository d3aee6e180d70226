use Rattle.std.proofs.Common.{Some, None, sym, ◌∙◌}
use Rattle.mls_tree_array.proofs.Sent.{has_last-lookup}
use Rattle.mls_tree_array.proofs.order.has_last.Goals as goal

pub returns-in-Some : goal.returns-in-Some
returns-in-Some c = c.is_taken.ensures ∙ sym (has_last-lookup c.args.nodes.now (Some c.in-Some.node.now) c.in-Some.ensures.value)

pub returns-in-None : goal.returns-in-None
returns-in-None c = sym (has_last-lookup c.args.nodes.now None c.in-None.ensures.value)
