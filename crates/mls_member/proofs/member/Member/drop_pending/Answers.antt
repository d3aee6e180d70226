use Rattle.std.proofs.Common.{sym, subst}
use Rattle.mls_model.specs.MemberInvariant.{IsGoodMember}
use Rattle.mls_member.proofs.Good.{drop_good}
use Rattle.mls_member.proofs.member.Member.drop_pending.Goals as goal

pub returns-clause-good : goal.returns-clause-good
returns-clause-good g c = λ good. drop_good g.S.Suite.crypto _ (subst (IsGoodMember g.S.Suite.crypto) (sym c.self.view_is) good)
