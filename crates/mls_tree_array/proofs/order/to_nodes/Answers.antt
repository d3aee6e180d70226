use Rattle.std.proofs.Common.{◌≡◌, ◌∙◌, take, ap, arith}
use Rattle.mls_tree_array.proofs.order.to_nodes.Goals as goal

pub returns : goal.returns
returns c =
    let all : c.loop-x.x ≡ c.sent_len-count.result = omega arith in
    c.loop-x.invariant.0 ∙ ap (λ n. take n c.args.cells.now.nodes) all ∙ c.sent_len-count.ensures.cut
