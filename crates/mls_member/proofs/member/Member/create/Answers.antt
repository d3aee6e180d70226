use Rattle.mls_member.proofs.Good.{create_good}
use Rattle.mls_member.proofs.member.Member.create.Goals as goal

pub returns-clause-good : goal.returns-clause-good
returns-clause-good g c =
    create_good g.S.Suite.crypto c.args.candidate.now c.args.group_id.now c.args.seed.now _ _ _ _ _ _ _ c.leaf_node.ensures.leaf c.first-epoch.ensures c.leaf_key.ensures c.signing_key.ensures c.new-2.ensures.items c.in-Ok.ensures c.new.ensures.leaf c.new.ensures.keys
