use Rattle.mls_member.proofs.CommitSteps.{followed_of}
use Rattle.mls_member.proofs.received_commit.follow_edits.Goals as goal

pub returns-clause-keys : goal.returns-clause-keys
returns-clause-keys c = followed_of _ _ _ _ _ c.in_ok-copy.ensures.cases c.in_ok-follow_edit.ensures.ok
