use Rattle.mls_member.proofs.Saving.{all_saved}
use Rattle.mls_member.proofs.save.saved_proposals.Goals as goal

pub returns-clause-loads : goal.returns-clause-loads
returns-clause-loads c = (all_saved c.args.kept.now c.loop-one.saved.items c.loop-one.one-index c.loop-one-test.false c.loop-one.invariant).1
