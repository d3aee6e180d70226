use Rattle.std.proofs.Common.{◌*◌, None, sym, ◌∙◌, ap, arith}
use Rattle.std.proofs.lemmas.List.{get_or_past, get_or_read}
use Rattle.mls_tree_model.specs.Arrays.{leaf_in}
use Rattle.mls_exchange.specs.State.{member_at}
use Rattle.mls_exchange.proofs.exchange.member_at.Goals as goal

pub returns-then-place-nodes : goal.returns-then-place-nodes
unfolding member_at
returns-then-place-nodes c = sym (ap leaf_in (get_or_past c.args.nodes.now (2 * c.args.leaf) None (omega arith)))

pub returns : goal.returns
unfolding member_at
returns c =
    c.leaf_in.ensures
    ∙ ap leaf_in (get_or_read c.args.nodes.now (2 * c.args.leaf) _ (omega arith) c.index-nodes-place.is None)
