use Rattle.mls_member.proofs.Uses.{kept_usable}
use Rattle.mls_member.proofs.used_proposals.used_kept.Goals as goal

pub returns-clause-usable : goal.returns-clause-usable
returns-clause-usable c = kept_usable _ c.kept.inside.sender c.kept.invariant
