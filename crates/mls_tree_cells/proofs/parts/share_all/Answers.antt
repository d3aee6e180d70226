use Rattle.std.proofs.Common.{◌<◌, length, ◌∙◌, arith}
use Rattle.mls_tree_cells.proofs.PartLaws.{rows_stay}
use Rattle.mls_tree_cells.proofs.parts.share_all.Goals as goal

pub loop-k-preserved : goal.loop-k-preserved
loop-k-preserved c =
    let ok = c.loop-k.chunks.ok.0 in
    let long = c.loop-k.invariant.len in
    let less = c.loop-k-test.true in
    let lt : c.loop-k.k < length c.loop-k.chunks.items = omega arith in
    record {
      rows = rows_stay c.loop-k.chunks.items c.loop-k.k c.index_mut.result.now c.share.new.self lt c.index_mut.ensures.value c.share.ensures ∙ c.loop-k.invariant.rows;
      len = long;
    }
