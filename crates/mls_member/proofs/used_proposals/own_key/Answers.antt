use Rattle.mls_member.proofs.Uses.{key_found, key_passed, key_end}
use Rattle.mls_member.proofs.used_proposals.own_key.Goals as goal

pub returns-in-Some : goal.returns-in-Some
returns-in-Some c = key_found c.args.kept.now c.args.list.now c.loop-listed.listed-index c.listed-item.result c.in-Some.key.now _ c.loop-listed-test.true c.listed-item.is c.loop-listed.invariant c.in-Some.ensures

pub loop-listed-preserved : goal.loop-listed-preserved
loop-listed-preserved c = key_passed c.args.kept.now c.args.list.now c.loop-listed.listed-index c.listed-item.result _ c.loop-listed-test.true c.listed-item.is c.loop-listed.invariant c.in-None.ensures

pub returns : goal.returns
returns c = key_end c.args.kept.now c.args.list.now c.loop-listed.listed-index _ c.loop-listed-test.false c.loop-listed.invariant
