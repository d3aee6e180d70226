use Rattle.mls_world_plain.proofs.Readings.{kept_short}
use Rattle.mls_world_plain.proofs.commit_adds.proposal_for.Goals as goal

pub returns-in-Ref-clause-short : goal.returns-in-Ref-clause-short
returns-in-Ref-clause-short g c = kept_short _ c.kept_proposal.ensures.below
