use Rattle.std.proofs.Common.{◌<◌, length, ◌∙◌, arith}
use Rattle.mls_tree_index.proofs.BlockLaws.{blocks_stay}
use Rattle.mls_tree_index.proofs.blocks.share_all.Goals as goal

pub loop-b-preserved : goal.loop-b-preserved
loop-b-preserved c =
    let before = c.loop-b.invariant in
    let ok = c.loop-b.list.ok.0 in
    let long = before.end in
    let less = c.loop-b-test.true in
    let lt : c.loop-b.b < length c.loop-b.list.items = omega arith in
    record {
      blocks = blocks_stay c.loop-b.list.items c.loop-b.b c.index_mut.result.now c.share.new.self lt c.index_mut.ensures.value c.share.ensures ∙ before.blocks;
      len = before.len;
      capacity = before.capacity;
      end = before.end;
    }
