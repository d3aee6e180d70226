use Rattle.std.proofs.Common.{◌∙◌, ◌%◌, ◌^◌, ap, arith}
use Rattle.mls_treekem.proofs.Sealing.{count_next, count_end}
use Rattle.mls_treekem.proofs.seal.seal_count_of.Goals as goal

pub loop-node-preserved : goal.loop-node-preserved
loop-node-preserved c =
    count_next c.args.nodes.now c.loop-node.node-index c.node-item.result (omega arith) c.node-item.is c.loop-node.count _ (c.low_bits-count.ensures ∙ ap (λ n. n % 2 ^ 32) c.len.ensures) c.loop-node.invariant

pub returns : goal.returns
returns c = count_end c.args.nodes.now c.loop-node.node-index (omega arith) c.loop-node.count (omega (arith, c.loop-node.auto.count-fits)) c.loop-node.invariant
