use Rattle.mls_model.specs.Proposals.{updated_leaves}
use Rattle.mls_public_group.proofs.Folding.{gathered, all_gathered, updated_split, updated_none}
use Rattle.mls_public_group.proofs.changed_leaves.updated_leaves.Goals as goal

pub loop-one-preserved : goal.loop-one-preserved
loop-one-preserved c =
    gathered updated_leaves updated_split c.args.used.now c.loop-one.one-index c.one-item.result c.loop-one.leaves.items c.push_updated.new.leaves.items _ c.loop-one-test.true c.one-item.is c.in_ok-push_updated.ensures c.loop-one.invariant

pub returns : goal.returns
returns c = all_gathered updated_leaves updated_none c.args.used.now c.loop-one.one-index c.loop-one.leaves.items _ c.loop-one-test.false c.loop-one.invariant
