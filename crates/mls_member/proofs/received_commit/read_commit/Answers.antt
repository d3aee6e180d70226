use Rattle.mls_member.proofs.CommitLengths.{path_below, path_wider}
use Rattle.mls_member.proofs.received_commit.read_commit.Goals as goal

pub returns-clause-short : goal.returns-clause-short
returns-clause-short c =
    let below = path_below _ _ c.in_ok-path.ensures c.requires.path in
    record { proposals = c.in_ok-proposals.ensures.short; path = below; wider = path_wider _ below }
