use Rattle.mls_member.proofs.ListedProposals.{commit_reads}
use Rattle.mls_member.proofs.message_list.read_content_list.Goals as goal

pub returns-in-Commit-clause-list : goal.returns-in-Commit-clause-list
returns-in-Commit-clause-list c = commit_reads _ _ _ _ c.in-Commit.is c.read_list.ensures.list c.read_list.ensures.memory
