use Rattle.std.proofs.Common.{◌∙◌, arith, below_more}
use Rattle.mls_tree_index.proofs.BlockLaws.{own_all}
use Rattle.mls_tree_index.proofs.blocks.own_all.Goals as goal

pub loop-b-preserved : goal.loop-b-preserved
loop-b-preserved c =
    let before = c.loop-b.invariant in
    let one = c.own_one.ensures in
    record {
      blocks = one.blocks ∙ before.blocks;
      len = one.len ∙ before.len;
      capacity = one.capacity ∙ before.capacity;
      end = one.len ∙ before.end;
      own = below_more _ _ (λ k low. one.others k (before.own k low)) c.in_ok-own_one.ensures.own;
      others = λ k own. one.others k (before.others k own);
    }

pub returns-clause-own : goal.returns-clause-own
returns-clause-own c =
    let ok = c.loop-b.list.ok.0 in
    let end = c.loop-b.invariant.end in
    let past = c.loop-b-test.false in
    own_all c.loop-b.list.items c.loop-b.b (omega arith) c.loop-b.invariant.own
