use Rattle.mls_member.proofs.CommitLengths.{list_below}
use Rattle.mls_member.proofs.message_list.read_list.Goals as goal

pub returns-clause-short : goal.returns-clause-short
returns-clause-short c = list_below _ _ c.in_ok-list.ensures c.requires
