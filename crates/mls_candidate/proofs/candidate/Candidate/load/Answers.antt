use Rattle.mls_candidate.proofs.Saving.{loaded_is_good}
use Rattle.mls_candidate.proofs.candidate.Candidate.load.Goals as goal

pub returns-clause-good : goal.returns-clause-good
returns-clause-good g c = loaded_is_good g.S.Suite.crypto c.args.bytes.now _ c.in_ok-parts.ensures.below.fits c.in_ok-parts.ensures.answer

pub returns-clause-outright : goal.returns-clause-outright
returns-clause-outright g c = λ n h. absurd (c.in_ok-parts.ensures.outright n h)
