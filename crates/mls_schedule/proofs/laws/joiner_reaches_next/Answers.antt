use Rattle.mls_schedule.proofs.LawsLemmas.{reaches_next}
use Rattle.mls_schedule.proofs.laws.joiner_reaches_next.Goals as goal

pub returns : goal.returns
returns c = reaches_next
