use Rattle.mls_member.proofs.Good.{join_good}
use Rattle.mls_member.proofs.member.Member.join.Goals as goal

pub returns-clause-good : goal.returns-clause-good
returns-clause-good g c = λ good. join_good g.S.Suite.crypto _ _ _ _ _ _ _ _ good c.in_ok-group.ensures.answer c.signing_key.ensures c.new.ensures.items
