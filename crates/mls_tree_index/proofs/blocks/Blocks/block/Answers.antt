use Rattle.std.proofs.Common.{length, ap, arith}
use Rattle.mls_tree_index.specs.Block.{BlockEntries}
use Rattle.mls_tree_index.specs.Blocks.{BlockList, blocks_of}
use Rattle.mls_tree_index.proofs.BlockLaws.{blocks_full, block_at, count_of}
use Rattle.mls_tree_index.proofs.blocks.Blocks.block.Goals as goal

pub returns-clause-full : goal.returns-clause-full
returns-clause-full c = λ some.
    let vs = c.self.inside.list.items in
    let same = ap (λ (t : BlockList). length t.blocks) c.self.view_is in
    let count = count_of vs in
    let lt = c.requires in
    let here = blocks_full (blocks_of vs) c.args.b c.self.invariant.blocks some (omega arith) in
    let at = ap length (block_at vs c.args.b c.index.result.now (omega arith)) in
    let read = ap (λ (v : BlockEntries). length v.entries) c.index.ensures in
    let value = ap length c.entries.ensures.entries in
    omega arith
