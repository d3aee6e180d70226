use Rattle.mls_schedule.proofs.LawsLemmas.{one_or_twins}
use Rattle.mls_schedule.proofs.laws.equal_or_twins.Goals as goal

pub returns : goal.returns
returns c = one_or_twins
