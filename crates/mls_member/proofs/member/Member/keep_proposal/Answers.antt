use Rattle.mls_member.proofs.Uses.{checked_below}
use Rattle.mls_member.proofs.member.Member.keep_proposal.Goals as goal

pub require_proposal-requires : goal.require_proposal-requires
require_proposal-requires g c = checked_below c.args.proposal c.requires
