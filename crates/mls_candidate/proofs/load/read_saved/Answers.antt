use Rattle.mls_public_group.proofs.Limits.{no_fault}
use Rattle.mls_candidate.proofs.Saving.{saved_below}
use Rattle.mls_candidate.proofs.load.read_saved.Goals as goal

pub returns-clause-below : goal.returns-clause-below
returns-clause-below g c = saved_below c.args.bytes.now c.in_ok-saved.saved c.in_ok-saved.ensures.found c.in_ok-saved.ensures.exact

pub returns-clause-outright : goal.returns-clause-outright
returns-clause-outright g c = λ n h. absurd (no_fault _ _ n c.in_ok-saved.ensures.exact h)
